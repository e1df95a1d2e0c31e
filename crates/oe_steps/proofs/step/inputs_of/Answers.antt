use Rattle.std.proofs.Common.{◌≡◌, ◌<◌, ◌∙◌, ℕ, Some, false, sym, ap, subst, arith, length, inl}
use Rattle.oe_graph.specs.Printed.{node_count}
use Rattle.oe_order.specs.Graph.{is_load}
use Rattle.oe_plan.specs.Schedules.{node_at}
use Rattle.oe_plan.specs.Steps.{arguments_of_node}
use Rattle.oe_check.specs.Checked.{operation_of_node}
use Rattle.oe_check.specs.Links.{links_of}
use Rattle.oe_requests.specs.PlainRequests.{plain_operation}
use Rattle.oe_steps.proofs.NodeLemmas.{works_on}
use Rattle.oe_steps.proofs.ScheduleLemmas.{loads_none, node_within, single, some_argument, works_at}
use Rattle.oe_steps.proofs.step.inputs_of.Goals as goal

pub operation-operation-requires : goal.operation-operation-requires
operation-operation-requires c =
    let graph = c.args.checked.now in
    let schedule = c.args.schedule.now in
    subst (λ (n : ℕ). n < node_count graph.nodes) (sym c.node-node.ensures) (node_within graph schedule c.requires.schedule c.args.step c.requires.step)

pub step_of_argument-first-requires-clause-number : goal.step_of_argument-first-requires-clause-number
step_of_argument-first-requires-clause-number c =
    let graph = c.args.checked.now in
    let schedule = c.args.schedule.now in
    let step = c.args.step in
    let operation = plain_operation c.operation-operation.result.now in
    let operates : operation_of_node graph (node_at schedule step) ≡ Some operation =
    ap (operation_of_node graph) (sym c.node-node.ensures) ∙ c.operation-operation.ensures in
    let w = works_on graph c.requires.schedule.faultless (node_at schedule step)
    (node_within graph schedule c.requires.schedule step c.requires.step) operation operates
    (loads_none graph schedule c.requires.schedule step c.requires.step c.requires.works) in
    some_argument graph schedule c.requires.schedule step c.requires.step c.requires.works operation w

pub argument_count-requires : goal.argument_count-requires
argument_count-requires c =
    let graph = c.args.checked.now in
    let schedule = c.args.schedule.now in
    subst (λ (n : ℕ). n < node_count graph.nodes) (sym c.node-node.ensures) (node_within graph schedule c.requires.schedule c.args.step c.requires.step)

pub returns-then-argument_count-lt2 : goal.returns-then-argument_count-lt2
returns-then-argument_count-lt2 c =
    let graph = c.args.checked.now in
    let schedule = c.args.schedule.now in
    let step = c.args.step in
    let operation = plain_operation c.operation-operation.result.now in
    let operates : operation_of_node graph (node_at schedule step) ≡ Some operation =
    ap (operation_of_node graph) (sym c.node-node.ensures) ∙ c.operation-operation.ensures in
    let w = works_on graph c.requires.schedule.faultless (node_at schedule step)
    (node_within graph schedule c.requires.schedule step c.requires.step) operation operates
    (loads_none graph schedule c.requires.schedule step c.requires.step c.requires.works) in
    let works = works_at graph schedule c.requires.schedule step c.requires.works in
    let counted : c.argument_count.result ≡ length (arguments_of_node graph (node_at schedule step)) =
    c.argument_count.ensures.all (subst (λ (n : ℕ). is_load (links_of graph.nodes) n ≡ false) (sym c.node-node.ensures) works)
    ∙ ap (λ (n : ℕ). length (arguments_of_node graph n)) c.node-node.ensures in
    single graph schedule c.requires.schedule step c.requires.step c.requires.works operation w
    c.argument_count.result c.step_of_argument-first.result counted c.if-argument_count-lt2.true c.step_of_argument-first.ensures

pub step_of_argument-requires-clause-number : goal.step_of_argument-requires-clause-number
step_of_argument-requires-clause-number c =
    let graph = c.args.checked.now in
    let schedule = c.args.schedule.now in
    let step = c.args.step in
    let works = works_at graph schedule c.requires.schedule step c.requires.works in
    let counted : c.argument_count.result ≡ length (arguments_of_node graph (node_at schedule step)) =
    c.argument_count.ensures.all (subst (λ (n : ℕ). is_load (links_of graph.nodes) n ≡ false) (sym c.node-node.ensures) works)
    ∙ ap (λ (n : ℕ). length (arguments_of_node graph n)) c.node-node.ensures in
    let more = c.if-argument_count-lt2.false in
    omega arith

pub returns : goal.returns
returns c = record {
  first_taken = c.step_of_argument-first.ensures;
  second_taken = inl c.step_of_argument.ensures;
}
