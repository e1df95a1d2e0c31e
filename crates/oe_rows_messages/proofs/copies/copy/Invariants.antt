use Rattle.std.proofs.Common.{List, ℕ}
use Rattle.oe_outside.specs.Faults.{NeverFalls}
use Rattle.oe_outside.specs.Visible.{Gave, Appends}
use Rattle.oe_rows_messages.proofs.copies.copy.Given as goal

abbrev pub invariant-loop-round : goal.invariant-loop-round
invariant-loop-round g l = record {
  source : NeverFalls (g.S.Source.faults l.initial.source) (g.S.Source.faults l.source);
  sink : NeverFalls (g.K.Sink.faults l.initial.sink) (g.K.Sink.faults l.sink);
  moved : (given : List ℕ) × Gave (g.S.Source.left l.initial.source) given (g.S.Source.left l.source) × Appends (g.K.Sink.written l.initial.sink) given (g.K.Sink.written l.sink);
}
