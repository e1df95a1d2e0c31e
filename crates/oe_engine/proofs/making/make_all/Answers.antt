use denote.Param.Send.{cell_keyless, sendable}
use Rattle.std.proofs.Crossing.{crosses, sync as heap_sync}
use Rattle.oe_plan.proofs.CrossLemmas.{plan_sync}
use Rattle.oe_engine.proofs.CrossLemmas.{place_send}
use Rattle.oe_engine.proofs.making.make_all.Goals as goal

pub for_each_mut-requires-send-T : goal.for_each_mut-requires-send-T
for_each_mut-requires-send-T g c κs within = search (sendable, place_send)

-- the function borrows an allocator and a plan
pub for_each_mut-requires-sync-F : goal.for_each_mut-requires-sync-F
for_each_mut-requires-sync-F g c κs within = record {
  shared = λ x b o κ. search (crosses, sendable, cell_keyless, heap_sync.shared, plan_sync.shared) depth 30;
}
