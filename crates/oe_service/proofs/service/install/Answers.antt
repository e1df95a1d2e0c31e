use Rattle.oe_jobs.specs.Plain.{plain_book, plain_change}
use Rattle.oe_service.proofs.CommitLemmas.{installs_by}
use Rattle.oe_service.proofs.service.install.Goals as goal

pub returns-in-Err : goal.returns-in-Err
returns-in-Err g c =
    installs_by (plain_change c.args.change) (plain_book c.args.book.now) _ _ _ _ _ _ c.requires.kept c.in-Err.ensures.kept
    c.in-Err.ensures.cause c.in-Err.ensures.last.1 _ c.ready.ensures.same
