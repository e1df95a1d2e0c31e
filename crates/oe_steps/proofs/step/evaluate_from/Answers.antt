use Rattle.std.proofs.Common.{◌≡◌, ◌∙◌, refl, sym, ap, subst, Some}
use Rattle.oe_ops.specs.Nodes.{HasScratch}
use Rattle.oe_plan.specs.Schedules.{node_at}
use Rattle.oe_plan.specs.Windows.{window_at}
use Rattle.oe_check.specs.Checked.{operation_of_node}
use Rattle.oe_check.specs.Laws.{meaning_of_node}
use Rattle.oe_requests.specs.PlainRequests.{plain_operation}
use Rattle.oe_steps.proofs.EvalLemmas.{cube_at, cube_shape_at, fits_goal, inside_at, kinds_goal, means_goal, need_goal, room_at, second_goal, shape_goal, takes_goal}
use Rattle.oe_steps.specs.Steps.{cell_kind_at}
use Rattle.oe_steps.proofs.step.evaluate_from.Goals as goal

pub eval_node-requires-clause-works : goal.eval_node-requires-clause-works
eval_node-requires-clause-works c =
    let graph = c.args.checked.now in
    let schedule = c.args.schedule.now in
    let operates : operation_of_node graph (node_at schedule c.args.operands.step) ≡ Some (plain_operation c.operation-operation.result.now) =
    ap (operation_of_node graph) (sym c.node.ensures) ∙ c.operation-operation.ensures in
    record {
      shape_valid = c.shape_of-3.ensures.valid;
      shape_is = shape_goal graph schedule c.requires.works.scheduled c.args.operands.step c.requires.works.step_in c.requires.works.computes c.args.operands.first c.args.operands.second
          c.requires.works.arguments (plain_operation c.operation-operation.result.now) operates c.shape_of-3.result.now c.shape_of.result.now
          c.shape_of-2.result.now c.shape_of-3.ensures.value c.shape_of.ensures.value c.shape_of-2.ensures.value;
      takes = takes_goal graph schedule c.requires.works.scheduled c.args.operands.step c.requires.works.step_in c.requires.works.computes c.args.operands.first c.args.operands.second
          c.requires.works.arguments (plain_operation c.operation-operation.result.now) operates c.shape_of.result.now c.args.first.now
          c.args.second.now c.shape_of.ensures.value c.requires.works.first_input.of_kind c.requires.works.second_input.of_kind;
    }

pub eval_node-requires-clause-inside : goal.eval_node-requires-clause-inside
eval_node-requires-clause-inside c =
    inside_at c.args.checked.now c.args.schedule.now c.requires.works.scheduled c.args.windows.now c.requires.works.windows_fit c.args.operands.first
    c.shape_of.result.now (window_at c.args.windows.now c.args.operands.first) c.requires.works.first_input.within c.shape_of.ensures.value refl

pub eval_node-requires-clause-inputs : goal.eval_node-requires-clause-inputs
eval_node-requires-clause-inputs c =
    let graph = c.args.checked.now in
    let schedule = c.args.schedule.now in
    let operates : operation_of_node graph (node_at schedule c.args.operands.step) ≡ Some (plain_operation c.operation-operation.result.now) =
    ap (operation_of_node graph) (sym c.node.ensures) ∙ c.operation-operation.ensures in
    record {
      first = record {
        valid = c.shape_of.ensures.valid;
        counted = c.requires.works.first_input.counted;
        need = need_goal graph schedule c.requires.works.scheduled c.args.operands.step c.requires.works.step_in c.requires.works.computes c.args.operands.first c.args.operands.second
            c.requires.works.arguments (plain_operation c.operation-operation.result.now) operates c.args.windows.now c.requires.works.windows_fit c.shape_of.result.now c.shape_of-2.result.now (window_at c.args.windows.now c.args.operands.first)
            c.shape_of.ensures.value c.shape_of-2.ensures.value refl;
      };
      second = record {
        valid = c.shape_of-2.ensures.valid;
        counted = c.requires.works.second_input.counted;
        need = second_goal graph schedule c.requires.works.scheduled c.args.operands.step c.requires.works.step_in c.requires.works.computes c.args.operands.first c.args.operands.second
            c.requires.works.arguments (plain_operation c.operation-operation.result.now) operates c.args.windows.now c.requires.works.windows_fit c.shape_of.result.now c.shape_of-2.result.now (window_at c.args.windows.now c.args.operands.second)
            c.shape_of.ensures.value c.shape_of-2.ensures.value refl;
      };
    }

pub eval_node-requires-clause-out : goal.eval_node-requires-clause-out
eval_node-requires-clause-out c = record {
  within = inside_at c.args.checked.now c.args.schedule.now c.requires.works.scheduled c.args.windows.now c.requires.works.windows_fit c.args.operands.step
      c.shape_of-3.result.now (window_at c.args.windows.now c.args.operands.step) c.requires.works.step_in c.shape_of-3.ensures.value refl;
  counted = c.requires.out;
}

pub eval_node-requires-clause-room : goal.eval_node-requires-clause-room
eval_node-requires-clause-room c =
    subst (HasScratch c.shape_of.result.now) (sym c.requires.scratch)
    (room_at c.args.checked.now c.args.schedule.now c.requires.works.scheduled c.args.operands.first c.shape_of.result.now c.requires.works.first_input.within c.shape_of.ensures.value)

pub eval_node-requires-clause-shape_room : goal.eval_node-requires-clause-shape_room
eval_node-requires-clause-shape_room c =
    subst (HasScratch c.shape_of-3.result.now) (sym c.requires.scratch)
    (room_at c.args.checked.now c.args.schedule.now c.requires.works.scheduled c.args.operands.step c.shape_of-3.result.now c.requires.works.step_in c.shape_of-3.ensures.value)

pub returns-clause-kinds : goal.returns-clause-kinds
returns-clause-kinds c =
    let graph = c.args.checked.now in
    let schedule = c.args.schedule.now in
    let is = c.requires.works.scheduled in
    let operation = plain_operation c.operation-operation.result.now in
    let operates : operation_of_node graph (node_at schedule c.args.operands.step) ≡ Some operation =
    ap (operation_of_node graph) (sym c.node.ensures) ∙ c.operation-operation.ensures in
    let fits = fits_goal graph schedule is c.args.operands.step c.requires.works.step_in c.requires.works.computes c.args.operands.first c.args.operands.second
    c.requires.works.arguments operation operates c.args.second.now c.requires.works.second_input.of_kind in
    kinds_goal graph schedule is c.args.operands.step c.requires.works.step_in c.requires.works.computes c.args.operands.first c.args.operands.second c.requires.works.arguments
    operation operates c.eval_node.new.out
    (c.eval_node.ensures.kinds (cell_kind_at graph schedule c.args.operands.first) c.requires.works.first_input.of_kind fits)

pub returns-clause-value : goal.returns-clause-value
returns-clause-value c = λ collections has one two.
    let graph = c.args.checked.now in
    let schedule = c.args.schedule.now in
    let is = c.requires.works.scheduled in
    let operation = plain_operation c.operation-operation.result.now in
    let a = c.args.operands.first in
    let b = c.args.operands.second in
    let operates : operation_of_node graph (node_at schedule c.args.operands.step) ≡ Some operation =
    ap (operation_of_node graph) (sym c.node.ensures) ∙ c.operation-operation.ensures in
    means_goal graph schedule is c.args.operands.step c.requires.works.step_in c.requires.works.computes a b c.requires.works.arguments operation operates collections has
    c.args.windows.now c.eval_node.new.out
    (c.eval_node.ensures.value (meaning_of_node collections graph (node_at schedule a)).cube (meaning_of_node collections graph (node_at schedule b)).cube
    (cube_at graph schedule is collections has a c.requires.works.first_input.within)
    (cube_shape_at graph schedule is collections has a c.requires.works.first_input.within c.shape_of.result.now c.shape_of.ensures.value) one
    (cube_at graph schedule is collections has b c.requires.works.second_input.within)
    (cube_shape_at graph schedule is collections has b c.requires.works.second_input.within c.shape_of-2.result.now c.shape_of-2.ensures.value) two)
