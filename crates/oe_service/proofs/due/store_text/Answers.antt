use Rattle.std.proofs.Common.{None, refl, w64}
use Rattle.std.proofs.lemmas.Int.{to_z-of_z}
use Rattle.oe_jobs.specs.Events.{running_job}
use Rattle.oe_jobs.specs.Plain.{plain_book}
use Rattle.oe_service.specs.GoesOn.{MissesAsset}
use Rattle.oe_service.specs.declared.service.Service.{Service}
use Rattle.oe_service.proofs.StepLemmas.{some_and, steps_stays, stored_runs}
use Rattle.oe_service.proofs.due.store_text.Goals as goal

pub returns-in-Ok-install : goal.returns-in-Ok-install
returns-in-Ok-install g c =
    let s = c.args.service.now in
    let t : Service = record { book = c.install.new.book; size = s.size; workers = s.workers; ids = s.ids; run = None } in
    let job = some_and MissesAsset (running_job (plain_book s.book)) c.requires.misses in
    let line = rw (to_z-of_z w64 c.args.now c.ranges.now) at c.in-Ok.ensures.line in
    steps_stays s t _ _ _ _ _ _ _ _ c.requires.service line c.in-Ok.ensures.valid refl c.in-Ok-install.ensures job.0 _ job.1
    (stored_runs s.ids.items c.args.text c.args.now (plain_book s.book) job.0 c.requires.service.book job.1) refl refl refl refl refl
