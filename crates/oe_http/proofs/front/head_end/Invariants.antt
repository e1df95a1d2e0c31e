use Rattle.oe_http.specs.Front.{EndsNowhere}
use Rattle.oe_http.proofs.front.head_end.Given as goal

abbrev pub invariant-loop-at : goal.invariant-loop-at
invariant-loop-at l = EndsNowhere l.bytes l.at
