use Rattle.std.proofs.Common.{Some, refl, w64}
use Rattle.std.proofs.lemmas.Int.{to_z-of_z}
use Rattle.oe_service.specs.declared.service.Service.{Service}
use Rattle.oe_service.proofs.DueLemmas.{round_failed, round_moved}
use Rattle.oe_service.proofs.RoundLemmas.{job_of_run}
use Rattle.oe_service.proofs.due.round.Goals as goal

pub returns-in-Ok : goal.returns-in-Ok
returns-in-Ok g c =
    let s = c.args.service.now in
    let r = c.in-Some.run' in
    let after = c.round.new.self in
    let t : Service = record { book = s.book; size = s.size; workers = s.workers; ids = s.ids; run = Some after } in
    let job = job_of_run s c.requires.service r c.in-Some.is in
    round_moved s t c.requires.service job.0 job.1 c.args.now _ r c.in-Some.is _ _ (rw c.in-Some.is at c.requires.going) _ _ _
    (rw c.in-Some.is at c.requires.left) after _ _ c.round.ensures.reads c.round.ensures.writes _ c.in-Ok.field-0
    c.in-Ok.ensures.advances refl refl refl refl refl c.requires.kept c.round.ensures.causes.spool_cause.count

pub returns-in-Err : goal.returns-in-Err
returns-in-Err g c =
    let s = c.args.service.now in
    let r = c.in-Some.run' in
    let after = c.round.new.self in
    let from : Service = record { book = s.book; size = s.size; workers = s.workers; ids = s.ids; run = Some after } in
    let job = job_of_run s c.requires.service r c.in-Some.is in
    let steps = rw (to_z-of_z w64 c.args.now c.ranges.now, c.of_round.ensures) at c.fail.ensures in
    round_failed s c.fail.new.service c.requires.service job.0 job.1 c.args.now _ r c.in-Some.is _ _
    (rw c.in-Some.is at c.requires.going) _ _ _ (rw c.in-Some.is at c.requires.left) after _ _ c.round.ensures.reads
    c.round.ensures.writes _ c.in-Err.refused c.in-Err.ensures.advances c.in-Err.ensures.causes from refl refl refl refl _ _ _ steps
