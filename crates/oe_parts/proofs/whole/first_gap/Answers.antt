use Rattle.std.proofs.Common.{inl, inr}
use Rattle.std.proofs.lemmas.Bool.{cases_lt}
use Rattle.oe_parts.proofs.whole.first_gap.Goals as goal

pub loop-next-preserved : goal.loop-next-preserved
loop-next-preserved g c k below = elim (cases_lt k c.loop-next.next) [
  | inl lt ↦ c.loop-next.invariant k lt
  | inr ge ↦ c.in-Some.ensures.end.1 k below ge
]
