use denote.Param.Send.{cell_keyless, sendable}
use Rattle.std.proofs.Crossing.{crosses}
use Rattle.oe_plan.proofs.CrossLemmas.{plan_sync}
use Rattle.oe_engine.proofs.CrossLemmas.{hand_send, shelf_sync}
use Rattle.oe_engine.proofs.hands.work_all.Goals as goal

pub for_each_mut-requires-send-T : goal.for_each_mut-requires-send-T
for_each_mut-requires-send-T g c κs within = search (sendable, hand_send)

pub for_each_mut-requires-sync-F : goal.for_each_mut-requires-sync-F
for_each_mut-requires-sync-F g c κs within = record {
  shared = λ x b o κ. search (crosses, sendable, cell_keyless, shelf_sync.shared, plan_sync.shared, c.type_bounds.sync-G.shared) depth 30;
}
