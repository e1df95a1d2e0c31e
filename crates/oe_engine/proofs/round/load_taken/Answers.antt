use Rattle.std.proofs.Common.{◌≡◌, ◌+◌, ◌*◌, ℕ, length, take, drop, ◌++◌, sym, ap, subst, ◌∙◌, arith}
use Rattle.std.proofs.lemmas.List.{length-take-le}
use Rattle.oe_sources.specs.CatalogueRows.{rows_of}
use Rattle.oe_engine.specs.Chunks.{EachBench}
use Rattle.oe_engine.specs.Evaluations.{most_asked}
use Rattle.oe_engine.proofs.HullLemmas.{bench_before, ok_loaded}
use Rattle.oe_engine.specs.Loads.{LoadsBench}
use Rattle.oe_steps.proofs.BufferLemmas.{take_front}
use Rattle.oe_steps.proofs.ReadLemmas.{has_more, has_most, has_same}
use Rattle.oe_engine.proofs.RoundLemmas.{each_after, each_before, front_long}
use Rattle.oe_engine.proofs.round.load_taken.Goals as goal

pub load_in_threads-loaded-requires-clause-benches : goal.load_in_threads-loaded-requires-clause-benches
load_in_threads-loaded-requires-clause-benches g c κs within = each_before c.args.plan.now c.args.count c.args.benches.now c.requires.benches

pub load_in_threads-loaded-requires-clause-chunks : goal.load_in_threads-loaded-requires-clause-chunks
load_in_threads-loaded-requires-clause-chunks g c =
    omega (arith, length-take-le c.args.count c.args.benches.now c.requires.count, c.requires.chunks)

pub load_in_threads-loaded-requires-clause-mounted : goal.load_in_threads-loaded-requires-clause-mounted
load_in_threads-loaded-requires-clause-mounted g c κs within =
    has_same _ _ c.ask_for_chunks-permit.ensures.asked.read.same c.args.plan.now.graph c.requires.mounted

pub load_in_threads-loaded-requires-clause-asked : goal.load_in_threads-loaded-requires-clause-asked
load_in_threads-loaded-requires-clause-asked g c κs within =
    let asked = c.ask_for_chunks-permit.ensures.permit in
    let many = ap (λ (n : ℕ). n * most_asked c.args.plan.now) (length-take-le c.args.count c.args.benches.now c.requires.count) in
    record { enough = omega (arith, many, asked.enough); own = asked.own }

pub settle_chunks-requires-clause-mounted : goal.settle_chunks-requires-clause-mounted
settle_chunks-requires-clause-mounted g c =
    has_same _ _ c.ask_for_chunks-permit.ensures.asked.read.same c.args.plan.now.graph c.requires.mounted

pub returns-clause-loaded : goal.returns-clause-loaded
returns-clause-loaded g c =
    let p = c.args.plan.now in
    let before = rows_of (λ z. (goal.SharedSource-dyn g z).CubeSource.seen z.1) c.args.catalogue.now in
    let asked = rows_of (λ z. (goal.SharedSource-dyn g z).CubeSource.seen z.1) c.ask_for_chunks-permit.new.catalogue in
    let new = c.load_in_threads-loaded.new.benches in
    let rest = drop c.args.count c.args.benches.now in
    let many : length new ≡ c.args.count = c.load_in_threads-loaded.ensures.many ∙ length-take-le c.args.count c.args.benches.now c.requires.count in
    ok_loaded c.load_in_threads-loaded.result c.settle_chunks.result (EachBench c.args.first (LoadsBench p asked) new) (EachBench c.args.first (LoadsBench p before) (take c.args.count (new ++ rest)))
    c.settle_chunks.ensures.answer
    (λ h. subst (EachBench c.args.first (LoadsBench p before)) (sym (take_front new rest c.args.count many))
    (λ i b at. bench_before p before asked c.ask_for_chunks-permit.ensures.asked.read.same (c.args.first + i) b (h i b at)))
    c.load_in_threads-loaded.ensures.loaded

pub returns-clause-benches : goal.returns-clause-benches
returns-clause-benches g c =
    each_after c.args.plan.now c.load_in_threads-loaded.new.benches c.args.benches.now c.args.count c.load_in_threads-loaded.ensures.benches c.requires.benches

pub returns-clause-many : goal.returns-clause-many
returns-clause-many g c =
    front_long c.load_in_threads-loaded.new.benches c.args.benches.now c.args.count
    (c.load_in_threads-loaded.ensures.many ∙ length-take-le c.args.count c.args.benches.now c.requires.count) c.requires.count

pub returns-clause-read : goal.returns-clause-read
returns-clause-read g c =
    let p = c.args.plan.now in
    let most = c.args.count * most_asked p in
    has_most p.graph (most + 0) most _ _ c.settle_chunks.result (omega arith)
    (has_more p.graph most 0 _ _ _ c.settle_chunks.result c.ask_for_chunks-permit.ensures.asked c.settle_chunks.ensures.read)
