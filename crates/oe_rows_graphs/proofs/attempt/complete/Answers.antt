use Rattle.std.proofs.Common.{◌≡◌}
use Rattle.oe_rows_graphs.proofs.Rounds.{still_mounted}
use Rattle.oe_rows_graphs.proofs.attempt.complete.Goals as goal

pub returns-then-is_complete-clause-records : goal.returns-then-is_complete-clause-records
returns-then-is_complete-clause-records g c = c.round-answer.ensures.writes.records c.loop.invariant.records

pub returns-in_err-refusals_of-clause-records : goal.returns-in_err-refusals_of-clause-records
returns-in_err-refusals_of-clause-records g c = c.round-answer.ensures.writes.records c.loop.invariant.records

pub loop-preserved : goal.loop-preserved
loop-preserved g c = record {
  mounted = still_mounted c.reads_change_nothing.ensures c.round-answer.ensures.advances.plan c.round-answer.ensures.reads.read c.loop.invariant.mounted;
  records = c.round-answer.ensures.writes.records c.loop.invariant.records;
}
