use Rattle.oe_jobs.proofs.TextLemmas.{no_level}
use Rattle.oe_jobs.proofs.level.Level.of.Goals as goal

pub returns-in_default : goal.returns-in_default
returns-in_default c = λ level is.
    no_level c.args.text.now level c.in_default.not-error c.in_default.not-warning c.in_default.not-info c.in_default.not-debug is
