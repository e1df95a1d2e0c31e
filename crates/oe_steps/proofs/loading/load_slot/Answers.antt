use Rattle.std.proofs.Common.{◌≡◌, ◌≤◌, ◌+◌, ℕ, sym, ap, ◌∙◌, subst, arith}
use Rattle.oe_plan.specs.Schedules.{node_at}
use Rattle.oe_sources.specs.CatalogueRows.{rows_of, seal_of}
use Rattle.oe_sources.specs.Permits.{PermitOf, permit_for_none, permit_raised}
use Rattle.oe_steps.proofs.PlaneLemmas.{ok_answer}
use Rattle.oe_steps.proofs.ScheduleLemmas.{few, few_positions, step_of_windows}
use Rattle.oe_steps.proofs.ReadLemmas.{AreRead-trans, has_more, has_most, has_same}
use Rattle.oe_steps.proofs.loading.load_slot.Goals as goal

pub bounds-windows-step : goal.bounds-windows-step
bounds-windows-step g c =
    omega (arith, step_of_windows c.args.checked.now c.args.schedule.now c.requires.schedule c.args.windows.now c.requires.windows, c.requires.step)

pub size-cells-requires : goal.size-cells-requires
size-cells-requires g c =
    few_positions c.args.checked.now c.args.schedule.now c.requires.schedule c.args.windows.now c.requires.windows c.args.step c.requires.step

pub ask-requires-clause-own : goal.ask-requires-clause-own
ask-requires-clause-own g c = ap (λ (p : PermitOf). p.seal) c.permit-permit.ensures

pub ask-requires-clause-few : goal.ask-requires-clause-few
ask-requires-clause-few g c = omega (arith, ap (λ (p : PermitOf). p.left) c.permit-permit.ensures)

pub look_slot-looked-requires-clause-ready : goal.look_slot-looked-requires-clause-ready
look_slot-looked-requires-clause-ready g c =
    record { scheduled = c.requires.schedule; windows_fit = c.requires.windows; room = c.requires.room }

pub look_slot-looked-requires-clause-load : goal.look_slot-looked-requires-clause-load
look_slot-looked-requires-clause-load g c = record { step_in = c.requires.step; loads = c.requires.load }

pub look_slot-looked-requires-clause-mounted : goal.look_slot-looked-requires-clause-mounted
look_slot-looked-requires-clause-mounted g c = has_same _ _ c.ask.ensures.asked.read.same c.args.checked.now c.requires.mounted

pub look_slot-looked-requires-clause-asked : goal.look_slot-looked-requires-clause-asked
look_slot-looked-requires-clause-asked g c =
    let whole : c.new-looker.result ≡ permit_raised c.size-cells.result (permit_for_none (seal_of c.args.catalogue.now)) =
    c.new-looker.ensures ∙ (c.ask.ensures.permit ∙ ap (permit_raised c.size-cells.result) c.permit-permit.ensures) in
    record {
      enough = omega (arith, c.size-cells.ensures.value, ap (λ (p : PermitOf). p.left) whole);
      own = ap (λ (p : PermitOf). p.seal) whole ∙ sym c.ask.ensures.seal;
    }

pub settle-requires-clause-mounted : goal.settle-requires-clause-mounted
settle-requires-clause-mounted g c = has_same _ _ c.ask.ensures.asked.read.same c.args.checked.now c.requires.mounted

pub returns-clause-others : goal.returns-clause-others
returns-clause-others g c = c.look_slot-looked.ensures.others

pub returns-clause-loaded : goal.returns-clause-loaded
returns-clause-loaded g c = λ rows read before.
    let now = rows_of (λ z. (goal.SharedSource-dyn g z).CubeSource.seen z.1) c.args.catalogue.now in
    let asked = rows_of (λ z. (goal.SharedSource-dyn g z).CubeSource.seen z.1) c.ask.new.catalogue in
    ok_answer _ (node_at c.args.schedule.now c.args.step) c.look_slot-looked.result c.settle.result c.settle.ensures.answer
    (c.look_slot-looked.ensures.loaded rows (AreRead-trans rows now asked read c.ask.ensures.asked.read) before)

pub returns-clause-read : goal.returns-clause-read
returns-clause-read g c =
    let graph = c.args.checked.now in
    let schedule = c.args.schedule.now in
    let n = c.size-cells.result in
    let most = subst (λ (n : ℕ). n ≤ schedule.largest) (sym c.size-cells.ensures.value) (few graph schedule c.requires.schedule c.args.windows.now c.requires.windows c.args.step c.requires.step) in
    has_most graph (n + 0) (schedule.largest) _ _ c.settle.result (omega (arith, most))
    (has_more graph n 0 _ _ _ c.settle.result c.ask.ensures.asked c.settle.ensures.read)
