use Rattle.std.proofs.Common.{sym}
use Rattle.oe_jobs.specs.Events.{running_job}
use Rattle.oe_jobs.specs.Plain.{plain_book, plain_job}
use Rattle.oe_service.specs.GoesOn.{MissesAsset}
use Rattle.oe_service.proofs.BookLemmas.{running_has_ran}
use Rattle.oe_service.proofs.StepLemmas.{and_at}
use Rattle.oe_service.proofs.due.begin_next.Goals as goal

pub begin_asset-requires-clause-ran : goal.begin_asset-requires-clause-ran
begin_asset-requires-clause-ran g c κs within =
    running_has_ran (plain_book c.args.service.now.book) (plain_job c.in-Some.job.now) c.requires.service.book
    (sym c.in-Some.ensures.job)

pub begin_asset-requires-clause-missing : goal.begin_asset-requires-clause-missing
begin_asset-requires-clause-missing g c κs within =
    and_at MissesAsset (running_job (plain_book c.args.service.now.book)) (plain_job c.in-Some.job.now)
    (sym c.in-Some.ensures.job) c.requires.misses
