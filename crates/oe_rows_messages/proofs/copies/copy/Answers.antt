use Rattle.std.proofs.Common.{◌++◌, take}
use Rattle.oe_outside.proofs.Causes.{NeverFalls-trans}
use Rattle.oe_outside.proofs.Runs.{Gave-read, Gave-more, Appends-more}
use Rattle.oe_rows_messages.proofs.copies.copy.Goals as goal

pub loop-round-preserved : goal.loop-round-preserved
loop-round-preserved g c =
    let before = c.loop-round.invariant in
    record {
      source = NeverFalls-trans before.source c.read.ensures.cause.count;
      sink = NeverFalls-trans before.sink c.write.ensures.cause.count;
      moved = (before.moved.0 ++ take c.in-Ok.count c.read.new.into, Gave-more _ _ _ _ _ before.moved.1 (Gave-read _ _ _ _ c.in-Ok.ensures.taken), Appends-more _ _ _ _ _ before.moved.2 c.in-Ok-write.ensures.appended);
    }
