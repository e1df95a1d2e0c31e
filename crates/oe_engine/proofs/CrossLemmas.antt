-- Benches go to other threads with their plans and seats, and threads share a table.
use denote.Builtin.{u64}
use denote.Param.Object.{Ghosts, table_of}
use denote.Param.Send.{IsSend, IsSync, sendable}
use denote.Param.SendFields.{as_row_sync, declared_sync, variants_sync}
use denote.Param.Sent.{Syncs}
use denote.RattleType.{RattleType}
use denote.Struct.Field.{row_field}
use Rattle.std.proofs.Crossing.{Vec-sync, crosses, dyn_box_sync}
use Rattle.std.specs.contracts.option.Option.{the_row as option_of}
use Rattle.atomic_table.specs.contracts.shared.Shared as shared
use Rattle.atomic_table.proofs.shared.Seat.TheSendSync.{the_send as seat_send}
use Rattle.atomic_table.proofs.shared.Shared.TheSendSync.{the_sync as table_sync}
use Rattle.oe_dims.specs.contracts.shape.Shape as shape
use Rattle.oe_dims.specs.contracts.text.Text as text
use Rattle.oe_plan.proofs.CrossLemmas as plans
use Rattle.oe_plan.specs.contracts.plan.Plan as plan
use Rattle.oe_sources.specs.contracts.catalogue.Catalogue as catalogue
use Rattle.oe_sources.specs.contracts.catalogue.Kept as kept
use Rattle.oe_sources.specs.contracts.catalogue.Mounted as mounted
use Rattle.oe_sources.specs.contracts.generated_cube.GeneratedCube as generated
use Rattle.oe_sources.specs.contracts.permit.Permit as permit
use Rattle.oe_engine.specs.contracts.bench.Bench as bench
use Rattle.oe_engine.specs.contracts.table.Lent as lent
use Rattle.oe_engine.specs.contracts.table.Hand as hand
use Rattle.oe_engine.specs.contracts.table.View as view
use Rattle.oe_engine.specs.contracts.table.Task as task
use Rattle.oe_engine.specs.contracts.table.Rule as rule
use Rattle.oe_engine.specs.contracts.table.RuleTableRuleOptionLentViewTask.TheImpl.{ghosts}

pub bench_send : IsSend bench.the_row
bench_send = search (crosses, sendable) depth 30

pub lent_send : IsSend lent.the_row
lent_send = search (crosses, sendable, bench_send) depth 30

pub hand_send : IsSend hand.the_row
hand_send = search (crosses, sendable, lent_send, seat_send) depth 30

-- a place for a bench
pub place_send : IsSend (option_of bench.the_row)
place_send = search (crosses, sendable, bench_send) depth 30

content_send : IsSend (option_of lent.the_row)
content_send = search (crosses, sendable, lent_send) depth 30

pub shelf_sync : IsSync (shared.the_row (option_of lent.the_row) view.the_row task.the_row rule.the_row ghosts)
shelf_sync = table_sync (option_of lent.the_row) view.the_row task.the_row rule.the_row ghosts content_send

-- ---- what threads that load look at

pub plan_sync : IsSync plan.the_row
plan_sync = plans.plan_sync

pub permit_send : IsSend permit.the_row
permit_send = search (crosses, sendable) depth 30

text_sync : IsSync text.the_row
text_sync = search (crosses, sendable) depth 30

shape_sync : IsSync shape.the_row
shape_sync = search (crosses, sendable, text_sync) depth 30

generated_sync : IsSync generated.the_row
generated_sync = search (crosses, sendable, shape_sync) depth 30

kept_sync : (B : RattleType) → IsSync B → IsSync (kept.the_row B)
kept_sync B box = variants_sync (kept.enum B) ((as_row_sync (row_field B) box, tt), ((generated_sync, tt), tt))

mounted_sync : (B : RattleType) → IsSync B → IsSync (mounted.the_row B)
mounted_sync B box = declared_sync (mounted.the_type B) (text_sync, (kept_sync B box, tt))

seal_sync : IsSync u64
seal_sync = search sendable

-- a catalogue whose boxes may be shared
pub catalogue_sync : (D : RattleType) (g : Ghosts D.Denot) → Syncs (table_of D.Denot g) → IsSync D → IsSync (catalogue.the_row D g)
catalogue_sync D g boxes table =
    declared_sync (catalogue.the_type D g) (Vec-sync _ (mounted_sync _ (dyn_box_sync D g boxes table)), (seal_sync, tt))
