use Rattle.std.proofs.Common.{ap, w64}
use Rattle.std.proofs.lemmas.Int.{to_z-of_z}
use Rattle.oe_jobs.specs.Plain.{plain_book}
use Rattle.oe_service.specs.declared.service.Service.{Service}
use Rattle.oe_service.proofs.ServiceLemmas.{none_runs}
use Rattle.oe_service.proofs.StepLemmas.{steps_ended}
use Rattle.oe_service.proofs.due.end.Goals as goal

pub returns-in-Ok-install : goal.returns-in-Ok-install
returns-in-Ok-install g c =
    let s = c.args.service.now in
    let same = c.end.ensures.same in
    let line = rw (to_z-of_z w64 c.args.now c.ranges.now) at c.in-Ok.ensures.line in
    steps_ended s c.end.new.self _ _ _ _ _ _ _ _ c.requires.service line c.in-Ok.ensures.valid
    (ap (λ (z : Service). plain_book z.book) same) c.in-Ok-install.ensures
    (none_runs (plain_book s.book) c.args.event c.args.now c.requires.service.book c.requires.runs c.requires.ends)
    (ap (λ (z : Service). z.size) same) (ap (λ (z : Service). z.workers) same) c.end.ensures.none
    (ap (λ (z : Service). z.run) same)
