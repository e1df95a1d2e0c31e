use Rattle.std.proofs.Common.{◌≡◌, ◌<◌, ◌+◌, ◌*◌, ℕ, ◌∙◌, length, refl, ap, arith}
use Rattle.std.proofs.lemmas.List.{length-set}
use Rattle.std.proofs.lemmas.List.Elements.{All-get_or, All-set}
use Rattle.oe_plan.specs.Figures.{largest_window}
use Rattle.oe_sources.specs.CatalogueRows.{rows_of}
use Rattle.oe_engine.specs.Benches.{node_at}
use Rattle.oe_engine.specs.Hulls.{HasLoadedSteps, IsBegun}
use Rattle.oe_engine.proofs.BenchLoadLemmas.{asked_one_more}
use Rattle.oe_engine.proofs.ChunkLemmas.{each_all, each_here, each_left, each_none, each_set}
use Rattle.oe_engine.proofs.HullLemmas.{none_if_refused}
use Rattle.oe_steps.proofs.PlaneLemmas.{tells_handed}
use Rattle.oe_engine.proofs.hulls.load_each.Goals as goal

pub loop-index-init : goal.loop-index-init
loop-index-init g c =
    let p = c.args.plan.now in
    let rows = rows_of (λ z. (goal.SharedSource-dyn g z).CubeSource.seen z.1) c.args.catalogue.now in
    record {
      many = refl;
      spent = record { left = omega arith; seal = refl };
      begun = c.requires.begun;
      loaded = λ first each. (each_none first (HasLoadedSteps p rows (c.args.step + 1)) c.args.benches.now, λ i b from at. each i b at);
    }

pub load_step-requires-clause-begun : goal.load_step-requires-clause-begun
load_step-requires-clause-begun g c =
    let n = c.loop-index.index in
    let within : n < length c.loop-index.benches = omega (arith, c.loop-index.invariant.many, c.loop-index-test.true) in
    All-get_or (IsBegun c.args.plan.now) c.loop-index.benches n c.index-benches-index.result within c.loop-index.invariant.begun

pub load_step-requires-clause-asked : goal.load_step-requires-clause-asked
load_step-requires-clause-asked g c =
    let p = c.args.plan.now in
    let n = c.loop-index.index in
    let inv = c.loop-index.invariant in
    let more = asked_one_more n (length c.args.benches.now) (largest_window p.graph p.size) (omega (arith, inv.many, c.loop-index-test.true)) in
    record { enough = omega (arith, more.1, c.requires.asked.enough, inv.spent.left); own = inv.spent.seal ∙ c.requires.asked.own }

pub returns-in_err-load_step-clause-loads : goal.returns-in_err-load_step-clause-loads
returns-in_err-load_step-clause-loads g c =
    let p = c.args.plan.now in
    let n = c.loop-index.index in
    let benches = c.loop-index.benches in
    let rows = rows_of (λ z. (goal.SharedSource-dyn g z).CubeSource.seen z.1) c.args.catalogue.now in
    let inv = c.loop-index.invariant in
    let fail = c.in_err-load_step.field-0.0 in
    record {
      many = length-set benches n c.load_step.new.self ∙ inv.many;
      begun = All-set (IsBegun p) benches n c.load_step.new.self c.load_step.ensures.begun inv.begun;
      loaded = λ first each. none_if_refused c.from_residual.result fail c.from_residual.ensures.1 _;
      refused = tells_handed p.graph rows (node_at p c.args.step) fail c.from_residual.result c.from_residual.ensures.1 c.in_err-load_step.ensures.refused;
    }

pub loop-index-preserved : goal.loop-index-preserved
loop-index-preserved g c =
    let p = c.args.plan.now in
    let step = c.args.step in
    let n = c.loop-index.index in
    let benches = c.loop-index.benches in
    let rows = rows_of (λ z. (goal.SharedSource-dyn g z).CubeSource.seen z.1) c.args.catalogue.now in
    let inv = c.loop-index.invariant in
    let new = c.load_step.new.self in
    let within : n < length benches = omega (arith, inv.many, c.loop-index-test.true) in
    let more = asked_one_more n (length c.args.benches.now) (largest_window p.graph p.size) (omega (arith, inv.many, within)) in
    record {
      many = length-set benches n new ∙ inv.many;
      spent = record {
        left = omega (arith, inv.spent.left, c.in_ok-load_step.ensures.spent.left, more.0);
        seal = c.in_ok-load_step.ensures.spent.seal ∙ inv.spent.seal;
      };
      begun = All-set (IsBegun p) benches n new c.load_step.ensures.begun inv.begun;
      loaded = λ first each.
          let was = inv.loaded first each in (
            each_set first (HasLoadedSteps p rows (step + 1)) benches n new within was.0
                (c.in_ok-load_step.ensures.loaded (first + n)
                (each_here first (HasLoadedSteps p rows step) benches n c.index-benches-index.result within was.1)),
            each_left first (HasLoadedSteps p rows step) benches n new was.1,
          );
    }

pub returns-clause-loads : goal.returns-clause-loads
returns-clause-loads g c =
    let p = c.args.plan.now in
    let n = c.loop-index.index in
    let benches = c.loop-index.benches in
    let rows = rows_of (λ z. (goal.SharedSource-dyn g z).CubeSource.seen z.1) c.args.catalogue.now in
    let inv = c.loop-index.invariant in
    record {
      many = inv.many;
      begun = inv.begun;
      loaded = λ first each.
          each_all first (HasLoadedSteps p rows (c.args.step + 1)) benches n (omega (arith, inv.many, c.loop-index-test.false))
          (inv.loaded first each).0;
      refused = tt;
    }

pub returns-clause-spent : goal.returns-clause-spent
returns-clause-spent g c =
    let p = c.args.plan.now in
    let largest = largest_window p.graph p.size in
    let n = c.loop-index.index in
    let inv = c.loop-index.invariant in
    let end : n ≡ length c.args.benches.now = omega (arith, inv.many, c.loop-index-test.false, c.loop-index.auto.index-end) in
    record { left = omega (arith, inv.spent.left, ap (λ (m : ℕ). m * largest) end); seal = inv.spent.seal }
