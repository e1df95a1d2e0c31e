-- Threads share plans and hand them on: a plan and its schedule by their fields.
use denote.Param.Send.{IsSend, IsSync, sendable}
use Rattle.std.proofs.Crossing.{crosses}
use Rattle.oe_order.specs.contracts.NodeOrder as order
use Rattle.oe_window.specs.contracts.grid.Grid as grid
use Rattle.oe_check.proofs.CrossLemmas.{checked_send, checked_sync}
use Rattle.oe_plan.specs.contracts.plan.Plan as plan
use Rattle.oe_plan.specs.contracts.schedule.Schedule as schedule

order_send : IsSend order.the_row
order_send = search (crosses, sendable) depth 30

order_sync : IsSync order.the_row
order_sync = search (crosses, sendable) depth 30

schedule_send : IsSend schedule.the_row
schedule_send = search (crosses, sendable, order_send) depth 30

schedule_sync : IsSync schedule.the_row
schedule_sync = search (crosses, sendable, order_sync) depth 30

grid_send : IsSend grid.the_row
grid_send = search (crosses, sendable) depth 30

grid_sync : IsSync grid.the_row
grid_sync = search (crosses, sendable) depth 30

pub plan_send : IsSend plan.the_row
plan_send = search (crosses, sendable, checked_send, schedule_send, grid_send) depth 30

pub plan_sync : IsSync plan.the_row
plan_sync = search (crosses, sendable, checked_sync, schedule_sync, grid_sync) depth 30
