use Rattle.std.proofs.Common.{◌+◌, ◌-◌, ◌<◌, ◌≤◌, vec_len}
use Rattle.oe_outside.specs.Faults.{NeverFalls}
use Rattle.oe_outside.specs.Visible.{Gave}
use Rattle.oe_outside.proofs.input.read_up_to.Given as goal

abbrev pub invariant-loop-source : goal.invariant-loop-source
invariant-loop-source g l = record {
  most : vec_len l.bytes ≤ l.limit + 1;
  gave : Gave (g.S.Source.left l.initial.source) l.bytes.items (g.S.Source.left l.source);
  falls : NeverFalls (g.S.Source.faults l.initial.source) (g.S.Source.faults l.source);
  room : 0 < vec_len l.piece;
}

abbrev pub decreases-loop-source : goal.decreases-loop-source
decreases-loop-source g l = l.limit + 1 - vec_len l.bytes
