use Rattle.std.proofs.Common.{None, refl}
use Rattle.oe_parts.specs.Laid.{Lays}
use Rattle.oe_top.proofs.Joins.{damage_there, join_meets_damage, join_overflows, join_reads_none, join_spools_none, join_stopped, joined}
use Rattle.oe_top.proofs.join.write_joined.Goals as goal

pub render-requires-clause-stored : goal.render-requires-clause-stored
render-requires-clause-stored g c =
    let laid : Lays 0 c.args.shape.now c.args.parts.now (g.P.Store.bytes c.lay.new.spool) None =
    rw c.in-Ok-None.field-0-is at c.in-Ok-None.ensures.laid in
    laid.cells refl

pub returns-in-Ok-clause-ends : goal.returns-in-Ok-clause-ends
returns-in-Ok-clause-ends g c = λ input input_after faults faults_after rows.
    rw c.render.ensures.same
    (joined c.args.shape.now c.args.parts.now c.lay.new.parts (g.P.Store.bytes c.args.spool.now) (g.P.Store.bytes c.lay.new.spool)
    c.lay.ensures.changes input input_after faults faults_after rows
    (g.O.Sink.written c.args.out.now) (g.O.Sink.written c.render.new.out) (g.O.Sink.faults c.args.out.now) (g.O.Sink.faults c.render.new.out)
    (g.P.Store.faults c.args.spool.now) (g.P.Store.faults c.render.new.spool)
    (rw c.in-Ok-None.field-0-is at c.in-Ok-None.ensures.laid) c.in-Ok.ensures.text)

pub returns-in-Err-clause-ends : goal.returns-in-Err-clause-ends
returns-in-Err-clause-ends g c = λ input input_after faults faults_after rows.
    rw c.render.ensures.same
    (join_stopped c.args.shape.now c.args.parts.now c.lay.new.parts (g.P.Store.bytes c.args.spool.now) (g.P.Store.bytes c.lay.new.spool)
    c.lay.ensures.changes input input_after faults faults_after rows
    (g.O.Sink.written c.args.out.now) (g.O.Sink.written c.render.new.out) (g.O.Sink.faults c.args.out.now) (g.O.Sink.faults c.render.new.out)
    (g.P.Store.faults c.args.spool.now) (g.P.Store.faults c.render.new.spool)
    (g.P.Store.faults c.lay.new.spool) c.in-Err.fail c.fail_of_text.result c.fail_of_text.ensures
    (rw c.in-Ok-None.field-0-is at c.in-Ok-None.ensures.laid) c.in-Err.ensures.prefix
    c.lay.ensures.count c.in-Err.ensures.spool_cause c.in-Err.ensures.sink_cause c.in-Err.ensures.damage)

pub returns-in-Ok-Some-clause-ends : goal.returns-in-Ok-Some-clause-ends
returns-in-Ok-Some-clause-ends g c = λ input input_after faults faults_after rows.
    join_overflows c.args.shape.now c.args.parts.now c.lay.new.parts (g.P.Store.bytes c.args.spool.now) (g.P.Store.bytes c.lay.new.spool)
    c.lay.ensures.changes input input_after faults faults_after rows
    (g.O.Sink.written c.args.out.now) (g.O.Sink.faults c.args.out.now) (g.P.Store.faults c.args.spool.now) (g.P.Store.faults c.lay.new.spool)
    c.in-Ok-Some.number (rw c.in-Ok-Some.field-0-is at c.in-Ok-Some.ensures.laid)

pub returns-in-Err-PartFailed-clause-ends : goal.returns-in-Err-PartFailed-clause-ends
returns-in-Err-PartFailed-clause-ends g c = λ input input_after faults faults_after rows.
    join_reads_none c.args.shape.now c.args.parts.now c.lay.new.parts (g.P.Store.bytes c.args.spool.now) (g.P.Store.bytes c.lay.new.spool)
    c.lay.ensures.changes input input_after faults faults_after rows
    (g.O.Sink.written c.args.out.now) (g.O.Sink.faults c.args.out.now) (g.P.Store.faults c.args.spool.now) (g.P.Store.faults c.lay.new.spool)
    _ (rw c.in-Err-PartFailed.field-0-is at c.in-Err-PartFailed.ensures.stops)

pub name_of-requires : goal.name_of-requires
name_of-requires g c =
    damage_there c.args.parts.now c.lay.new.parts (g.P.Store.faults c.args.spool.now) (g.P.Store.faults c.lay.new.spool)
    c.in-Err-PartDamaged.part c.in-Err-PartDamaged.number
    (rw c.in-Err-PartDamaged.field-0-is at c.in-Err-PartDamaged.ensures.stops) c.lay.ensures.read

pub returns-in-Err-PartDamaged-clause-ends : goal.returns-in-Err-PartDamaged-clause-ends
returns-in-Err-PartDamaged-clause-ends g c = λ input input_after faults faults_after rows.
    join_meets_damage c.args.shape.now c.args.parts.now c.lay.new.parts (g.P.Store.bytes c.args.spool.now) (g.P.Store.bytes c.lay.new.spool)
    c.lay.ensures.changes input input_after faults faults_after rows
    (g.O.Sink.written c.args.out.now) (g.O.Sink.faults c.args.out.now) (g.P.Store.faults c.args.spool.now) (g.P.Store.faults c.lay.new.spool)
    c.in-Err-PartDamaged.part c.in-Err-PartDamaged.number c.name_of.result
    (rw c.in-Err-PartDamaged.field-0-is at c.in-Err-PartDamaged.ensures.stops) c.lay.ensures.read c.name_of.ensures

pub returns-in-Err-SpoolFailed-clause-ends : goal.returns-in-Err-SpoolFailed-clause-ends
returns-in-Err-SpoolFailed-clause-ends g c = λ input input_after faults faults_after rows.
    join_spools_none c.args.shape.now c.args.parts.now c.lay.new.parts (g.P.Store.bytes c.args.spool.now) (g.P.Store.bytes c.lay.new.spool)
    c.lay.ensures.changes input input_after faults faults_after rows
    (g.O.Sink.written c.args.out.now) (g.O.Sink.faults c.args.out.now) (g.P.Store.faults c.args.spool.now) (g.P.Store.faults c.lay.new.spool)
    (rw c.in-Err-SpoolFailed.field-0-is at c.in-Err-SpoolFailed.ensures.stops)
