use Rattle.std.proofs.Common.{◌≡◌, ◌<◌, ℕ, Some, refl, sym, subst, length, slice_get}
use Rattle.std.proofs.lemmas.Option.{same_Some}
use Rattle.oe_graph.specs.Printed.{node_count}
use Rattle.oe_plan.specs.Schedules.{TakesAt, node_at}
use Rattle.oe_plan.specs.Steps.{arguments_of_node}
use Rattle.oe_steps.proofs.ScheduleLemmas.{is_taken, node_within, taken_below, taken_stands}
use Rattle.oe_steps.proofs.step.step_of_argument.Goals as goal

pub argument_of-argument-requires-clause-node : goal.argument_of-argument-requires-clause-node
argument_of-argument-requires-clause-node c =
    let graph = c.args.checked.now in
    let schedule = c.args.schedule.now in
    subst (λ (n : ℕ). n < node_count graph.nodes) (sym c.node.ensures) (node_within graph schedule c.requires.schedule c.args.step c.requires.step)

pub argument_of-argument-requires-clause-number : goal.argument_of-argument-requires-clause-number
argument_of-argument-requires-clause-number c =
    let graph = c.args.checked.now in
    subst (λ (n : ℕ). c.args.number < length (arguments_of_node graph n)) (sym c.node.ensures) c.requires.number

pub unreachable-requires : goal.unreachable-requires
unreachable-requires c =
    let graph = c.args.checked.now in
    let schedule = c.args.schedule.now in
    let step = c.args.step in
    let a = c.argument_of-argument.result in
    let at : slice_get (arguments_of_node graph (node_at schedule step)) c.args.number ≡ Some a =
    subst (λ (n : ℕ). slice_get (arguments_of_node graph n) c.args.number ≡ Some a) c.node.ensures c.argument_of-argument.ensures.value in
    let taken = is_taken graph schedule c.requires.schedule step c.requires.step c.requires.works c.args.number a at in
    c.in-None.ensures.none.0 refl (taken_stands graph schedule c.requires.schedule step c.requires.step c.requires.works c.args.number a taken)

pub returns : goal.returns
returns c =
    let graph = c.args.checked.now in
    let schedule = c.args.schedule.now in
    let step = c.args.step in
    let a = c.argument_of-argument.result in
    let at : slice_get (arguments_of_node graph (node_at schedule step)) c.args.number ≡ Some a =
    subst (λ (n : ℕ). slice_get (arguments_of_node graph n) c.args.number ≡ Some a) c.node.ensures c.argument_of-argument.ensures.value in
    let taken = is_taken graph schedule c.requires.schedule step c.requires.step c.requires.works c.args.number a at in
    let same : Some c.in-Some.found ≡ Some taken.step_of =
    c.in-Some.ensures.only taken.step_of (taken_below graph schedule c.requires.schedule step c.requires.step c.requires.works c.args.number a taken) taken.node_is in
    subst (TakesAt graph schedule step c.args.number) (sym (same_Some c.in-Some.found taken.step_of same)) taken.takes
