use Rattle.std.proofs.Common.{Some, refl, w64}
use Rattle.std.proofs.lemmas.Int.{to_z-of_z}
use Rattle.oe_jobs.specs.Events.{running_job}
use Rattle.oe_jobs.specs.Plain.{plain_book}
use Rattle.oe_service.specs.GoesOn.{MissesAsset}
use Rattle.oe_service.specs.declared.service.Service.{Service}
use Rattle.oe_service.proofs.DueLemmas.{plan_refused, planned}
use Rattle.oe_service.proofs.StepLemmas.{some_and}
use Rattle.oe_service.proofs.due.plan.Goals as goal

pub returns-in-Ok : goal.returns-in-Ok
returns-in-Ok g c = λ store faults.
    let s = c.args.service.now in
    let r = c.in-Ok.run' in
    let t : Service = record { book = s.book; size = s.size; workers = s.workers; ids = s.ids; run = Some r } in
    let job = some_and MissesAsset (running_job (plain_book s.book)) c.requires.misses in
    planned s t c.requires.service job.0 job.1 c.args.now _ c.requires.no_run _ store faults _ _ job.2 r refl refl refl refl refl
    (rw job.1 at c.in-Ok.ensures.run) c.in-Ok.ensures.none_done (c.in-Ok.ensures.going store)
    (rw job.1 at c.in-Ok.ensures.plannable) c.requires.kept

pub returns-in-Err : goal.returns-in-Err
returns-in-Err g c = λ store faults.
    let s = c.args.service.now in
    let job = some_and MissesAsset (running_job (plain_book s.book)) c.requires.misses in
    let steps = rw (to_z-of_z w64 c.args.now c.ranges.now) at c.fail.ensures in
    plan_refused s c.fail.new.service c.requires.service job.0 job.1 c.args.now _ c.requires.no_run _ store faults _ _ _ _ _ job.2
    c.in-Err.refusal (rw job.1 at c.in-Err.ensures.refused) steps
