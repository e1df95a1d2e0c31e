use Rattle.std.proofs.Common.{◌≡◌, ◌+◌, ◌-◌, ◌*◌, ◌≤◌, ◌∙◌, ℕ, min, length, take, List, Ok, Err, refl, sym, ap, subst, arith}
use Rattle.std.specs.Vec.{with_items}
use Rattle.std.proofs.lemmas.List.{length-take-le}
use Rattle.oe_outside.specs.Faults.{last_count}
use Rattle.oe_sources.specs.CatalogueRows.{rows_of}
use Rattle.oe_spool.specs.Least.{lesser_of}
use Rattle.oe_engine.specs.Benches.{BenchOf, IsDone, IsLoaded}
use Rattle.oe_engine.specs.Chunks.{EachBench, IsAtDone, IsAtLoaded}
use Rattle.oe_steps.specs.Collections.{HasCollections}
use Rattle.oe_engine.specs.Parts.{ReadsPart, WritesPart}
use Rattle.oe_engine.specs.Runs.{PartRunOf}
use Rattle.oe_engine.specs.Workspaces.{AreBenchesFor}
use Rattle.oe_steps.proofs.BufferLemmas.{with_items_is}
use Rattle.oe_engine.proofs.RoundLemmas.{reads_chunks, writes_done, writes_none, writes_refused}
use Rattle.oe_engine.proofs.WrittenLemmas.{part}
use Rattle.oe_engine.proofs.part_run.PartRun.round.Goals as goal

pub load_taken-requires-clause-mounted : goal.load_taken-requires-clause-mounted
load_taken-requires-clause-mounted g c κs within =
    let rows = rows_of (λ z. (goal.SharedSource-dyn g z).CubeSource.seen z.1) c.args.catalogue.now in
    subst (λ (r : PartRunOf). HasCollections r.plan.graph rows) (sym c.self.view_is) c.requires.mounted

pub load_taken-requires-clause-few : goal.load_taken-requires-clause-few
load_taken-requires-clause-few g c =
    omega (arith, c.min-count.ensures, c.len.ensures, c.self.invariant.3.as_many, c.self.inside.benches.ok.0)

pub evaluate_taken-self-inside-requires-clause-loaded : goal.evaluate_taken-self-inside-requires-clause-loaded
evaluate_taken-self-inside-requires-clause-loaded g c =
    let i = c.self.inside in
    let p = i.plan in
    let count = c.min-count.result in
    let loaded = c.load_taken.new.benches in
    let long : length loaded ≡ length i.benches.items = c.in_ok-load_taken.ensures.many ∙ ap length c.deref_mut.ensures.value in
    let seen : (with_items i.benches loaded).items ≡ loaded = with_items_is i.benches loaded long in
    λ κs within. subst (λ (bs : List BenchOf). EachBench (i.first + i.done) (IsAtLoaded p) (take count bs)) (sym seen)
    (λ k b at. (let here = c.in_ok-load_taken.ensures.loaded k b at in record { bench = here.keeps; state = here.state }))

pub evaluate_taken-self-inside-requires-clause-made : goal.evaluate_taken-self-inside-requires-clause-made
evaluate_taken-self-inside-requires-clause-made g c =
    let i = c.self.inside in
    let p = i.plan in
    let loaded = c.load_taken.new.benches in
    let long : length loaded ≡ length i.benches.items = c.in_ok-load_taken.ensures.many ∙ ap length c.deref_mut.ensures.value in
    λ κs within. subst (AreBenchesFor p) (sym (with_items_is i.benches loaded long))
    (record { as_many = long ∙ c.self.invariant.3.as_many; each = c.in_ok-load_taken.ensures.benches })

pub evaluate_taken-self-inside-requires-clause-count : goal.evaluate_taken-self-inside-requires-clause-count
evaluate_taken-self-inside-requires-clause-count g c =
    let i = c.self.inside in
    let loaded = c.load_taken.new.benches in
    let long : length loaded ≡ length i.benches.items = c.in_ok-load_taken.ensures.many ∙ ap length c.deref_mut.ensures.value in
    λ κs within. omega (arith, c.min-count.ensures, c.len.ensures, i.benches.ok.0, long, ap length (with_items_is i.benches loaded long))

pub write_chunks-requires-clause-done : goal.write_chunks-requires-clause-done
write_chunks-requires-clause-done g c =
    let i = c.self.inside in
    let p = i.plan in
    let count = c.min-count.result in
    let loaded = c.load_taken.new.benches in
    let long : length loaded ≡ length i.benches.items = c.in_ok-load_taken.ensures.many ∙ ap length c.deref_mut.ensures.value in
    let seen : (with_items i.benches loaded).items ≡ loaded = with_items_is i.benches loaded long in
    let done = c.evaluate_taken-self-inside.new.benches.items in
    let long_done : length done ≡ 2 * p.workers = c.evaluate_taken-self-inside.ensures.made.as_many in
    let last : c.deref.result.now ≡ done = c.deref.ensures.value in
    subst (λ (bs : List BenchOf). EachBench (i.first + i.done) (IsAtDone p) (take count bs)) (sym last) c.evaluate_taken-self-inside.ensures.done

pub least_of_chunks-requires-clause-done : goal.least_of_chunks-requires-clause-done
least_of_chunks-requires-clause-done g c =
    let i = c.self.inside in
    let p = i.plan in
    let count = c.min-count.result in
    let loaded = c.load_taken.new.benches in
    let long : length loaded ≡ length i.benches.items = c.in_ok-load_taken.ensures.many ∙ ap length c.deref_mut.ensures.value in
    let seen : (with_items i.benches loaded).items ≡ loaded = with_items_is i.benches loaded long in
    let done = c.evaluate_taken-self-inside.new.benches.items in
    let long_done : length done ≡ 2 * p.workers = c.evaluate_taken-self-inside.ensures.made.as_many in
    let last : c.deref.result.now ≡ done = c.deref.ensures.value in
    subst (λ (bs : List BenchOf). EachBench (i.first + i.done) (IsAtDone p) (take count bs)) (sym last) c.evaluate_taken-self-inside.ensures.done

pub returns-in_err-load_taken-clause-reads : goal.returns-in_err-load_taken-clause-reads
returns-in_err-load_taken-clause-reads g c =
    let i = c.self.inside in
    let p = i.plan in
    let rows = rows_of (λ z. (goal.SharedSource-dyn g z).CubeSource.seen z.1) c.args.catalogue.now in
    let count = c.min-count.result in
    let in_round : count ≡ min (2 * p.workers) (i.count - i.done) =
    omega (arith, c.min-count.ensures, c.len.ensures, c.self.invariant.3.as_many, i.benches.ok.0) in
    let fits : i.evaluations ≤ last_count = omega (arith, c.self.ranges) in
    let after = rows_of (λ z. (goal.SharedSource-dyn g z).CubeSource.seen z.1) c.load_taken.new.catalogue in
    subst (λ (r : PartRunOf). ReadsPart r rows after) c.self.view_is
    (reads_chunks p i.base i.first i.count i.done i.evaluations count i.over in_round fits rows after (Err c.in_err-load_taken.field-0.0) count refl c.in_err-load_taken.ensures.read)

pub returns-in_err-write_chunks-clause-reads : goal.returns-in_err-write_chunks-clause-reads
returns-in_err-write_chunks-clause-reads g c =
    let i = c.self.inside in
    let p = i.plan in
    let rows = rows_of (λ z. (goal.SharedSource-dyn g z).CubeSource.seen z.1) c.args.catalogue.now in
    let count = c.min-count.result in
    let in_round : count ≡ min (2 * p.workers) (i.count - i.done) =
    omega (arith, c.min-count.ensures, c.len.ensures, c.self.invariant.3.as_many, i.benches.ok.0) in
    let fits : i.evaluations ≤ last_count = omega (arith, c.self.ranges) in
    let after = rows_of (λ z. (goal.SharedSource-dyn g z).CubeSource.seen z.1) c.load_taken.new.catalogue in
    subst (λ (r : PartRunOf). ReadsPart r rows after) c.self.view_is
    (reads_chunks p i.base i.first i.count i.done i.evaluations count i.over in_round fits rows after (Ok tt) count refl c.in_ok-load_taken.ensures.read)

pub returns-clause-reads : goal.returns-clause-reads
returns-clause-reads g c =
    let i = c.self.inside in
    let p = i.plan in
    let rows = rows_of (λ z. (goal.SharedSource-dyn g z).CubeSource.seen z.1) c.args.catalogue.now in
    let count = c.min-count.result in
    let in_round : count ≡ min (2 * p.workers) (i.count - i.done) =
    omega (arith, c.min-count.ensures, c.len.ensures, c.self.invariant.3.as_many, i.benches.ok.0) in
    let fits : i.evaluations ≤ last_count = omega (arith, c.self.ranges) in
    let after = rows_of (λ z. (goal.SharedSource-dyn g z).CubeSource.seen z.1) c.load_taken.new.catalogue in
    subst (λ (r : PartRunOf). ReadsPart r rows after) c.self.view_is
    (reads_chunks p i.base i.first i.count i.done i.evaluations count i.over in_round fits rows after (Ok tt) count refl c.in_ok-load_taken.ensures.read)

pub returns-in_err-load_taken-clause-writes : goal.returns-in_err-load_taken-clause-writes
returns-in_err-load_taken-clause-writes g c =
    let i = c.self.inside in
    let p = i.plan in
    let rows = rows_of (λ z. (goal.SharedSource-dyn g z).CubeSource.seen z.1) c.args.catalogue.now in
    let count = c.min-count.result in
    let in_round : count ≡ min (2 * p.workers) (i.count - i.done) =
    omega (arith, c.min-count.ensures, c.len.ensures, c.self.invariant.3.as_many, i.benches.ok.0) in
    let fits : i.evaluations ≤ last_count = omega (arith, c.self.ranges) in
    let old = g.P.Store.bytes c.args.spool.now in
    subst (λ (r : PartRunOf). WritesPart r rows old (part p i.base i.first i.count i.done i.evaluations i.over) old) c.self.view_is
    (writes_none p i.base i.first i.count i.done i.evaluations count i.over in_round fits rows old)

pub returns-in_err-write_chunks-clause-writes : goal.returns-in_err-write_chunks-clause-writes
returns-in_err-write_chunks-clause-writes g c =
    let i = c.self.inside in
    let p = i.plan in
    let rows = rows_of (λ z. (goal.SharedSource-dyn g z).CubeSource.seen z.1) c.args.catalogue.now in
    let count = c.min-count.result in
    let in_round : count ≡ min (2 * p.workers) (i.count - i.done) =
    omega (arith, c.min-count.ensures, c.len.ensures, c.self.invariant.3.as_many, i.benches.ok.0) in
    let fits : i.evaluations ≤ last_count = omega (arith, c.self.ranges) in
    let old = g.P.Store.bytes c.args.spool.now in
    let loaded = c.load_taken.new.benches in
    let long : length loaded ≡ length i.benches.items = c.in_ok-load_taken.ensures.many ∙ ap length c.deref_mut.ensures.value in
    let seen : (with_items i.benches loaded).items ≡ loaded = with_items_is i.benches loaded long in
    let done = c.evaluate_taken-self-inside.new.benches.items in
    let long_done : length done ≡ 2 * p.workers = c.evaluate_taken-self-inside.ensures.made.as_many in
    let last : c.deref.result.now ≡ done = c.deref.ensures.value in
    let new = g.P.Store.bytes c.write_chunks.new.spool in
    let few : count ≤ length c.deref.result.now =
    omega (arith, c.min-count.ensures, c.len.ensures, i.benches.ok.0, c.self.invariant.3.as_many, long_done, ap length last) in
    let benches = take count c.deref.result.now in
    let many : length benches ≡ count = length-take-le count c.deref.result.now few in
    let evaluated = c.evaluate_taken-self-inside.ensures.evaluations in
    subst (λ (r : PartRunOf). WritesPart r rows old (part p i.base i.first i.count i.done c.evaluate_taken-self-inside.result i.over) new) c.self.view_is
    (subst (λ (n : ℕ). WritesPart (part p i.base i.first i.count i.done i.evaluations i.over) rows old (part p i.base i.first i.count i.done n i.over) new) (sym evaluated)
    (writes_refused p i.base i.first i.count i.done i.evaluations count i.over in_round fits rows old c.chunks-chunks.ensures.valid new (length benches) many
    c.in_err-write_chunks.ensures.changes))

pub returns-clause-writes : goal.returns-clause-writes
returns-clause-writes g c =
    let i = c.self.inside in
    let p = i.plan in
    let rows = rows_of (λ z. (goal.SharedSource-dyn g z).CubeSource.seen z.1) c.args.catalogue.now in
    let count = c.min-count.result in
    let in_round : count ≡ min (2 * p.workers) (i.count - i.done) =
    omega (arith, c.min-count.ensures, c.len.ensures, c.self.invariant.3.as_many, i.benches.ok.0) in
    let fits : i.evaluations ≤ last_count = omega (arith, c.self.ranges) in
    let old = g.P.Store.bytes c.args.spool.now in
    let loaded = c.load_taken.new.benches in
    let long : length loaded ≡ length i.benches.items = c.in_ok-load_taken.ensures.many ∙ ap length c.deref_mut.ensures.value in
    let seen : (with_items i.benches loaded).items ≡ loaded = with_items_is i.benches loaded long in
    let done = c.evaluate_taken-self-inside.new.benches.items in
    let long_done : length done ≡ 2 * p.workers = c.evaluate_taken-self-inside.ensures.made.as_many in
    let last : c.deref.result.now ≡ done = c.deref.ensures.value in
    let new = g.P.Store.bytes c.write_chunks.new.spool in
    let few : count ≤ length c.deref.result.now =
    omega (arith, c.min-count.ensures, c.len.ensures, i.benches.ok.0, c.self.invariant.3.as_many, long_done, ap length last) in
    let benches = take count c.deref.result.now in
    let many : length benches ≡ count = length-take-le count c.deref.result.now few in
    let evaluated = c.evaluate_taken-self-inside.ensures.evaluations in
    let least = c.lesser-self-inside.result in
    subst (λ (r : PartRunOf). WritesPart r rows old (part p i.base i.first i.count (i.done + count) c.evaluate_taken-self-inside.result least) new) c.self.view_is
    (subst (λ o. WritesPart (part p i.base i.first i.count i.done i.evaluations i.over) rows old (part p i.base i.first i.count (i.done + count) c.evaluate_taken-self-inside.result o) new)
    (sym c.lesser-self-inside.ensures)
    (subst (λ (n : ℕ). WritesPart (part p i.base i.first i.count i.done i.evaluations i.over) rows old
    (part p i.base i.first i.count (i.done + count) n (lesser_of i.over c.least_of_chunks.result)) new) (sym evaluated)
    (writes_done p i.base i.first i.count i.done i.evaluations count i.over in_round fits rows old c.chunks-chunks.ensures.valid new (length benches) many
    c.in_ok-write_chunks.ensures.changes (take count loaded) benches many c.in_ok-load_taken.ensures.loaded
    (λ collections has h. subst (λ (bs : List BenchOf). EachBench (i.first + i.done) (IsDone p collections) (take count bs)) (sym last)
    (c.evaluate_taken-self-inside.ensures.value collections has (subst (λ (bs : List BenchOf). EachBench (i.first + i.done) (IsLoaded p collections) (take count bs)) (sym seen) h)))
    (subst (λ (bs : List BenchOf). EachBench (i.first + i.done) (IsAtDone p) (take count bs)) (sym last) c.evaluate_taken-self-inside.ensures.done)
    c.in_ok-write_chunks.ensures.written c.in_ok-write_chunks.ensures.valid c.least_of_chunks.result c.least_of_chunks.ensures)))

pub invariant_of-self : goal.invariant_of-self
invariant_of-self g c =
    let i = c.self.inside in
    let p = i.plan in
    let loaded = c.load_taken.new.benches in
    let long : length loaded ≡ length i.benches.items = c.in_err-load_taken.ensures.many ∙ ap length c.deref_mut.ensures.value in (
      c.self.invariant.0,
      c.self.invariant.1,
      c.self.invariant.2,
      subst (AreBenchesFor p) (sym (with_items_is i.benches loaded long))
          (record { as_many = long ∙ c.self.invariant.3.as_many; each = c.in_err-load_taken.ensures.benches }),
      c.self.invariant.4,
    )

pub invariant_of-self-in_err-write_chunks : goal.invariant_of-self-in_err-write_chunks
invariant_of-self-in_err-write_chunks g c = (
  c.self.invariant.0,
  c.self.invariant.1,
  c.self.invariant.2,
  c.evaluate_taken-self-inside.ensures.made,
  c.evaluate_taken-self-inside.ensures.crew ∙ c.self.invariant.4,
)

pub invariant_of-self-2 : goal.invariant_of-self-2
invariant_of-self-2 g c = (
  c.self.invariant.0,
  c.self.invariant.1,
  omega (arith, c.min-count.ensures, c.self.invariant.2),
  c.evaluate_taken-self-inside.ensures.made,
  c.evaluate_taken-self-inside.ensures.crew ∙ c.self.invariant.4,
)
