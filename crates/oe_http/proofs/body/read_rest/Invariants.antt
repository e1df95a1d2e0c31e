use Rattle.std.proofs.Common.{◌≡◌, ◌<◌, ◌≤◌, ◌-◌, ◌++◌, ℕ, List, length, vec_len}
use Rattle.oe_outside.specs.Faults.{NeverFalls}
use Rattle.oe_outside.specs.Visible.{Gave}
use Rattle.oe_http.proofs.body.read_rest.Given as goal

abbrev pub invariant-loop-link : goal.invariant-loop-link
invariant-loop-link g l = record {
  most : vec_len l.body ≤ l.number;
  given : (given : List ℕ) × (l.body.items ≡ l.initial.body.items ++ given) × Gave (g.L.Link.left l.initial.link) given (g.L.Link.left l.link);
  same : g.L.Link.written l.link ≡ g.L.Link.written l.initial.link;
  falls : NeverFalls (g.L.Link.faults l.initial.link) (g.L.Link.faults l.link);
  room : 0 < length l.piece;
}

abbrev pub decreases-loop-link : goal.decreases-loop-link
decreases-loop-link g l = l.number - vec_len l.body
