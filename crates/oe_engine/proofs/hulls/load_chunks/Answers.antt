use Rattle.std.proofs.Common.{◌≡◌, ◌*◌, ◌∙◌, ℕ, length, refl, ap, subst, arith}
use Rattle.std.proofs.lemmas.List.Elements.{All-weaker}
use Rattle.oe_plan.specs.Figures.{largest_window}
use Rattle.oe_sources.specs.CatalogueRows.{rows_of}
use Rattle.oe_engine.specs.Benches.{IsBenchFor}
use Rattle.oe_engine.specs.Chunks.{EachBench}
use Rattle.oe_engine.specs.Hulls.{HasLoadedSteps, IsBegun}
use Rattle.oe_engine.specs.Loads.{LoadsBench}
use Rattle.oe_engine.specs.Runs.{load_count}
use Rattle.oe_engine.proofs.HullLemmas.{all_of_each, begun_is, step_asked}
use Rattle.oe_engine.proofs.StepLoadLemmas.{loads_counted}
use Rattle.oe_engine.proofs.hulls.load_chunks.Goals as goal

pub loop-step-init : goal.loop-step-init
loop-step-init g c = record {
  many = c.begin_chunks.ensures.count;
  spent = record { left = omega arith; seal = refl };
  begun = c.begin_chunks.ensures.begun;
  loaded = λ i b at. record { chunk = c.begin_chunks.ensures.chunks i b at; loaded = λ step before live. absurd (omega arith) };
}

pub load_step_of_all-requires-clause-asked : goal.load_step_of_all-requires-clause-asked
load_step_of_all-requires-clause-asked g c =
    let p = c.args.plan.now in
    let many = length c.args.benches.now in
    let largest = largest_window p.graph p.size in
    let loads = c.loads-step-end in
    let counted = loads_counted p loads.result loads.ensures.most loads.ensures.load in
    let asked = step_asked c.loop-step.step (load_count p) many largest (omega (arith, c.loop-step-test.true, counted)) in
    let all : length c.loop-step.benches * largest ≡ many * largest = ap (λ (n : ℕ). n * largest) c.loop-step.invariant.many in
    let spent = c.loop-step.invariant.spent in
    record { enough = omega (arith, all, asked.1, c.requires.asked.enough, spent.left); own = spent.seal ∙ c.requires.asked.own }

pub returns-in-Err : goal.returns-in-Err
returns-in-Err g c =
    let p = c.args.plan.now in
    let new = c.load_step_of_all.new.benches in
    let loads = c.loads-step-end in
    record {
      many = c.load_step_of_all.ensures.loads.many ∙ c.loop-step.invariant.many;
      benches = All-weaker (IsBegun p) (IsBenchFor p) (begun_is p) new c.load_step_of_all.ensures.loads.begun;
      loaded = tt;
      noted = record {
        within = omega (arith, c.loop-step-test.true, loads.ensures.most);
        load = loads.ensures.load c.loop-step.step c.loop-step-test.true;
        why = c.in-Err.ensures.loads.refused;
      };
    }

pub loop-step-preserved : goal.loop-step-preserved
loop-step-preserved g c =
    let inv = c.loop-step.invariant in
    let p = c.args.plan.now in
    let many = length c.args.benches.now in
    let largest = largest_window p.graph p.size in
    let loads = c.loads-step-end in
    let counted = loads_counted p loads.result loads.ensures.most loads.ensures.load in
    let asked = step_asked c.loop-step.step (load_count p) many largest (omega (arith, c.loop-step-test.true, counted)) in
    let all : length c.loop-step.benches * largest ≡ many * largest = ap (λ (n : ℕ). n * largest) c.loop-step.invariant.many in
    record {
      many = c.load_step_of_all.ensures.loads.many ∙ inv.many;
      spent = record {
        left = omega (arith, inv.spent.left, c.in-Ok.ensures.spent.left, all, asked.0);
        seal = c.in-Ok.ensures.spent.seal ∙ inv.spent.seal;
      };
      begun = c.load_step_of_all.ensures.loads.begun;
      loaded = c.in-Ok.ensures.loads.loaded c.args.first inv.loaded;
    }

pub returns : goal.returns
returns g c =
    let p = c.args.plan.now in
    let rows = rows_of (λ z. (goal.SharedSource-dyn g z).CubeSource.seen z.1) c.args.catalogue.now in
    let loads = c.loads-step-end in
    let inv = c.loop-step.invariant in
    let new = c.end_chunks.new.benches in
    let end : c.loop-step.step ≡ loads.result = omega (arith, c.loop-step-test.false, c.loop-step.auto.step-end) in
    let loaded : EachBench c.args.first (LoadsBench p rows) new =
    c.end_chunks.ensures.loaded p rows loads.result loads.ensures.valid
    (record { most = loads.ensures.most; load = loads.ensures.load; work = loads.ensures.work }) inv.begun
    (subst (λ (n : ℕ). EachBench c.args.first (HasLoadedSteps p rows n) c.loop-step.benches) end inv.loaded) in
    record {
      many = c.end_chunks.ensures.count ∙ inv.many;
      benches = all_of_each (IsBenchFor p) new (λ i b at. (loaded i b at).keeps);
      loaded = loaded;
      noted = tt;
    }
