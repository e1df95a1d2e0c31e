use Rattle.std.proofs.Common.{◌≡◌, ◌<◌, ◌≤◌, ◌-◌, length, vec_len}
use Rattle.oe_outside.specs.Faults.{NeverFalls}
use Rattle.oe_outside.specs.Visible.{Gave}
use Rattle.oe_http.specs.Front.{HasNoHead, most_head}
use Rattle.oe_http.proofs.front.read_front.Given as goal

abbrev pub invariant-loop-bytes : goal.invariant-loop-bytes
invariant-loop-bytes g l = record {
  most : vec_len l.bytes ≤ most_head;
  gave : Gave (g.L.Link.left l.initial.link) l.bytes.items (g.L.Link.left l.link);
  none : HasNoHead l.bytes.items;
  same : g.L.Link.written l.link ≡ g.L.Link.written l.initial.link;
  falls : NeverFalls (g.L.Link.faults l.initial.link) (g.L.Link.faults l.link);
  room : 0 < length l.piece;
}

abbrev pub decreases-loop-bytes : goal.decreases-loop-bytes
decreases-loop-bytes g l = most_head - vec_len l.bytes
