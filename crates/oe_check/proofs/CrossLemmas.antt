-- Threads share checked graphs and hand them on: each type by those of its fields, from the lowest on.
use denote.Param.Send.{IsSend, IsSync, sendable}
use denote.Param.SendFields.{declared_send, declared_sync}
use Rattle.std.proofs.Crossing.{crosses}
use Rattle.oe_dims.specs.contracts.text.Text as text
use Rattle.oe_dims.specs.contracts.shape.Shape as shape
use Rattle.oe_kernel.specs.contracts.kernel.Kernel as kernel
use Rattle.oe_graph.specs.contracts.node_state.NodeState as state
use Rattle.oe_expr.specs.contracts.expr.Expr as expr
use Rattle.oe_order.specs.contracts.Links as links
use Rattle.oe_requests.specs.contracts.intervals.Intervals as intervals
use Rattle.oe_requests.specs.contracts.operation.Operation as operation
use Rattle.oe_check.specs.contracts.checked.CheckedNode as node
use Rattle.oe_check.specs.contracts.checked.Checked as checked

-- ---- handed on

text_send : IsSend text.the_row
text_send = search (crosses, sendable) depth 30

shape_send : IsSend shape.the_row
shape_send = search (crosses, sendable, text_send) depth 30

-- a shape that nodes share is handed on where it may be shared
text_sync : IsSync text.the_row
text_sync = search (crosses, sendable) depth 30

shape_sync : IsSync shape.the_row
shape_sync = search (crosses, sendable, text_sync) depth 30

kernel_send : IsSend kernel.the_row
kernel_send = search (crosses, sendable) depth 30

expr_send : IsSend expr.the_row
expr_send = search (crosses, sendable) depth 80 fits 50000

intervals_send : IsSend intervals.the_row
intervals_send = search (crosses, sendable) depth 30

operation_send : IsSend operation.the_row
operation_send = search (crosses, sendable, text_send, kernel_send, intervals_send, expr_send) depth 30

node_send : IsSend node.the_row
node_send = declared_send node.the_type (
  operation_send,
  (search (crosses, sendable, text_send) depth 30, (search (crosses, sendable, shape_send, shape_sync) depth 30, (search sendable depth 30, tt))),
)

state_send : IsSend (state.the_row node.the_row)
state_send = search (crosses, sendable, node_send) depth 30

links_send : IsSend links.the_row
links_send = search (crosses, sendable) depth 30

pub checked_send : IsSend checked.the_row
checked_send = search (crosses, sendable, text_send, links_send, state_send) depth 60 fits 50000

-- ---- shared

kernel_sync : IsSync kernel.the_row
kernel_sync = search (crosses, sendable) depth 30

expr_sync : IsSync expr.the_row
expr_sync = search (crosses, sendable) depth 80 fits 50000

intervals_sync : IsSync intervals.the_row
intervals_sync = search (crosses, sendable) depth 30

operation_sync : IsSync operation.the_row
operation_sync = search (crosses, sendable, text_sync, kernel_sync, intervals_sync, expr_sync) depth 30

node_sync : IsSync node.the_row
node_sync = declared_sync node.the_type (
  operation_sync,
  (search (crosses, sendable, text_sync) depth 30, (search (crosses, sendable, shape_send, shape_sync) depth 30, (search sendable depth 30, tt))),
)

state_sync : IsSync (state.the_row node.the_row)
state_sync = search (crosses, sendable, node_sync) depth 30

links_sync : IsSync links.the_row
links_sync = search (crosses, sendable) depth 30

pub checked_sync : IsSync checked.the_row
checked_sync = search (crosses, sendable, text_sync, links_sync, state_sync) depth 60 fits 50000
