use Rattle.oe_jobs.proofs.TextLemmas.{no_status}
use Rattle.oe_jobs.proofs.status.Status.of.Goals as goal

pub returns-in_default : goal.returns-in_default
returns-in_default c = λ status is.
    no_status c.args.text.now status c.in_default.not-created c.in_default.not-queued c.in_default.not-running c.in_default.not-canceled
    c.in_default.not-finished c.in_default.not-error is
