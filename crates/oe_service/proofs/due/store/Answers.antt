use Rattle.std.proofs.Common.{w64}
use Rattle.std.proofs.lemmas.Int.{to_z-of_z}
use Rattle.oe_service.proofs.DueLemmas.{text_failed, text_stored}
use Rattle.oe_service.proofs.RoundLemmas.{job_of_run}
use Rattle.oe_service.proofs.StepLemmas.{steps_from}
use Rattle.oe_service.proofs.due.store.Goals as goal

pub returns-in-Ok : goal.returns-in-Ok
returns-in-Ok g c = λ rows going.
    let s = c.args.service.now in
    let r = c.in-Some.run' in
    let is = rw c.in-Some.is at going in
    let job = job_of_run s c.requires.service r c.in-Some.is in
    let steps = rw (to_z-of_z w64 c.args.now c.ranges.now) at c.store_text.ensures in
    rw c.text_of_run.ensures.same (text_stored s c.store_text.new.service c.requires.service job.0 job.1 c.args.now _ r c.in-Some.is rows _ is _ _ _
    (rw c.in-Some.is at c.requires.complete) _ _ _ _ c.text_of_run.ensures.count c.in-Ok.text (c.in-Ok.ensures.text rows is)
    (steps_from s c.text_of_run.new.run r c.in-Some.is c.text_of_run.ensures.run _ _ _ _ _ _ _ _ steps))

pub returns-in-Err : goal.returns-in-Err
returns-in-Err g c = λ rows going.
    let s = c.args.service.now in
    let r = c.in-Some.run' in
    let is = rw c.in-Some.is at going in
    let job = job_of_run s c.requires.service r c.in-Some.is in
    let steps = rw (to_z-of_z w64 c.args.now c.ranges.now) at c.fail.ensures in
    rw c.text_of_run.ensures.same (text_failed s c.fail.new.service c.requires.service job.0 job.1 c.args.now _ r c.in-Some.is rows _ is _ _ _
    (rw c.in-Some.is at c.requires.complete) _ _ _ _ c.text_of_run.ensures.count c.in-Err.refusal
    (c.in-Err.ensures.refused rows is)
    (steps_from s c.text_of_run.new.run r c.in-Some.is c.text_of_run.ensures.run _ _ _ _ _ _ _ _ steps))
