use Rattle.std.proofs.Common.{sym, ◌∙◌, subst}
use Rattle.oe_dims.specs.Dimensions.{Dimensions}
use Rattle.oe_requests.specs.PlainRequests.{plain_operation}
use Rattle.oe_window.specs.Windows.{IsIn, whole_window}
use Rattle.oe_plan.specs.Steps.{argument_shapes}
use Rattle.oe_plan.proofs.NodeLemmas.{argument_shape_is}
use Rattle.oe_plan.proofs.WidenLemmas.{kernel_shape, need_of_node, node_shape}
use Rattle.oe_plan.proofs.windows.need_of_argument.Goals as goal

pub need-requires-clause-within : goal.need-requires-clause-within
need-requires-clause-within c = λ p h.
    subst (λ (d : Dimensions). IsIn (whole_window d) p) (sym c.shape_of-shape.ensures.value) (c.requires.inside p h)

pub need-requires-clause-argument_within : goal.need-requires-clause-argument_within
need-requires-clause-argument_within c = λ conv p h.
    let same = kernel_shape c.args.checked.now c.requires.faultless c.args.node c.requires.node c.requires.works c.args.number c.args.argument c.requires.number
    (plain_operation c.operation.result.now) c.operation.ensures conv in
    subst (λ (d : Dimensions). IsIn (whole_window d) p) (same ∙ sym c.shape_of.ensures.value) (c.requires.inside p h)

pub returns : goal.returns
returns c =
    let op = plain_operation c.operation.result.now in
    let shape = node_shape c.args.checked.now c.requires.faultless c.args.node c.requires.node c.requires.works c.args.number c.args.argument c.requires.number op c.operation.ensures in
    need_of_node c.args.checked.now c.args.node c.args.number op c.args.window.now c.need.result c.operation.ensures
    (c.need.ensures (argument_shapes c.args.checked.now c.args.node) c.args.number (c.shape_of-shape.ensures.value ∙ shape)
    (c.shape_of.ensures.value ∙ sym (argument_shape_is c.args.checked.now c.args.node c.args.number c.args.argument c.requires.number)))
