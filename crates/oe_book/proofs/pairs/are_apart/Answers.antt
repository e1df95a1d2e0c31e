use Rattle.oe_jobs.specs.Plain.{plain_job}
use Rattle.oe_book.proofs.PairLemmas.{runs_told, turn_told}
use Rattle.oe_book.proofs.pairs.are_apart.Goals as goal

pub returns-then-both_run : goal.returns-then-both_run
returns-then-both_run c =
    runs_told (plain_job c.args.job.now) (plain_job c.args.other.now) c.both_run.result c.both_run.ensures c.if-both_run.true

pub returns : goal.returns
returns c =
    turn_told (plain_job c.args.job.now) (plain_job c.args.other.now) c.both_run.result c.share_turn.result c.both_run.ensures
    c.if-both_run.false c.share_turn.ensures
