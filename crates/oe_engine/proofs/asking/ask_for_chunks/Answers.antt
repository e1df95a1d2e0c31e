use Rattle.std.proofs.Common.{◌≡◌, ◌<◌, ◌≤◌, ◌*◌, ◌∙◌, ℕ, Ok, sym, ap, subst, arith}
use Rattle.std.proofs.Math.Nat.{mul-le-mul_right}
use Rattle.oe_plan.specs.Figures.{largest_window}
use Rattle.oe_sources.specs.CatalogueRows.{rows_of}
use Rattle.oe_sources.specs.Permits.{PermitOf}
use Rattle.oe_engine.specs.Runs.{load_count}
use Rattle.oe_engine.proofs.HullLemmas.{steps_turned}
use Rattle.oe_engine.proofs.StepLoadLemmas.{loads_are}
use Rattle.oe_steps.proofs.ReadLemmas.{has_more, has_most, has_none, has_same}
use Rattle.oe_steps.proofs.RowLemmas.{one_more}
use Rattle.oe_steps.specs.Loads.{HasRead}
use Rattle.oe_engine.proofs.asking.ask_for_chunks.Goals as goal

pub loop-step-init : goal.loop-step-init
loop-step-init g c =
    let p = c.args.plan.now in
    let rows = rows_of (λ z. (goal.SharedSource-dyn g z).CubeSource.seen z.1) c.args.catalogue.now in
    record {
      read = has_most p.graph 0 (0 * c.cells_at_step-cells.result) rows rows (Ok tt) (omega arith) (has_none p.graph rows);
      left = omega (arith, ap (λ (q : PermitOf). q.left) c.permit-permit.ensures);
      own = ap (λ (q : PermitOf). q.seal) c.permit-permit.ensures;
    }

pub ask-requires-clause-step : goal.ask-requires-clause-step
ask-requires-clause-step g c = omega (arith, c.loop-step-test.true, c.loads-step-end.ensures.most)

pub ask-requires-clause-load : goal.ask-requires-clause-load
ask-requires-clause-load g c = c.loads-step-end.ensures.load c.loop-step.step c.loop-step-test.true

pub ask-requires-clause-mounted : goal.ask-requires-clause-mounted
ask-requires-clause-mounted g c = has_same _ _ c.loop-step.invariant.read.read.same c.args.plan.now.graph c.requires.mounted

pub ask-requires-clause-few : goal.ask-requires-clause-few
ask-requires-clause-few g c =
    let cells = c.cells_at_step-cells.result in
    let small : c.loop-step.step < 4294967296 = omega arith in
    let most : c.loop-step.step * cells ≤ 4294967296 * cells = mul-le-mul_right cells (omega (arith, small)) in
    omega (arith, most, c.cells_at_step-cells.ensures.few, c.loop-step.invariant.left)

pub ask-requires-clause-own : goal.ask-requires-clause-own
ask-requires-clause-own g c = c.loop-step.invariant.own

pub loop-step-preserved : goal.loop-step-preserved
loop-step-preserved g c =
    let p = c.args.plan.now in
    let step = c.loop-step.step in
    let cells = c.cells_at_step-cells.result in
    let before = rows_of (λ z. (goal.SharedSource-dyn g z).CubeSource.seen z.1) c.args.catalogue.now in
    let now = rows_of (λ z. (goal.SharedSource-dyn g z).CubeSource.seen z.1) c.loop-step.catalogue in
    let after = rows_of (λ z. (goal.SharedSource-dyn g z).CubeSource.seen z.1) c.ask.new.catalogue in
    let one = one_more step cells in
    record {
      read = subst (λ (n : ℕ). HasRead p.graph n before after (Ok tt)) (sym one)
          (has_more p.graph (step * cells) cells before now after (Ok tt) c.loop-step.invariant.read c.ask.ensures.asked);
      left = omega (arith, one, c.loop-step.invariant.left, ap (λ (q : PermitOf). q.left) c.ask.ensures.permit);
      own = ap (λ (q : PermitOf). q.seal) c.ask.ensures.permit ∙ (c.loop-step.invariant.own ∙ sym c.ask.ensures.seal);
    }

-- how many steps there are, each of which was asked for all chunks
asked_all : (loads steps count cells largest : ℕ) → steps ≡ loads → cells ≡ count * largest → steps * cells ≡ count * (loads * largest)
asked_all loads steps count cells largest same is =
    ap (λ (n : ℕ). n * cells) same ∙ ap (λ (n : ℕ). loads * n) is ∙ steps_turned loads count largest

pub returns-clause-asked : goal.returns-clause-asked
returns-clause-asked g c =
    let p = c.args.plan.now in
    let before = rows_of (λ z. (goal.SharedSource-dyn g z).CubeSource.seen z.1) c.args.catalogue.now in
    let now = rows_of (λ z. (goal.SharedSource-dyn g z).CubeSource.seen z.1) c.loop-step.catalogue in
    let loads = c.loads-step-end in
    let end : c.loop-step.step ≡ loads.result = omega (arith, c.loop-step-test.false, c.loop-step.auto.step-end) in
    let all = asked_all (load_count p) c.loop-step.step c.args.count c.cells_at_step-cells.result (largest_window p.graph p.size)
    (end ∙ loads_are p loads.result loads.ensures.most loads.ensures.load loads.ensures.work) c.cells_at_step-cells.ensures.value in
    subst (λ (n : ℕ). HasRead p.graph n before now (Ok tt)) all c.loop-step.invariant.read

pub returns-clause-permit : goal.returns-clause-permit
returns-clause-permit g c =
    let p = c.args.plan.now in
    let loads = c.loads-step-end in
    let end : c.loop-step.step ≡ loads.result = omega (arith, c.loop-step-test.false, c.loop-step.auto.step-end) in
    let all = asked_all (load_count p) c.loop-step.step c.args.count c.cells_at_step-cells.result (largest_window p.graph p.size)
    (end ∙ loads_are p loads.result loads.ensures.most loads.ensures.load loads.ensures.work) c.cells_at_step-cells.ensures.value in
    record { enough = omega (arith, all, c.loop-step.invariant.left); own = c.loop-step.invariant.own }
