use Rattle.std.proofs.Common.{◌≡◌, ◌%◌}
use Rattle.oe_cell.proofs.HalvingLemmas.{IsGcd-halved, IsGcd-stepped, min_odd, IsGcd-same}
use Rattle.oe_cell.proofs.gcd.odd_gcd.Goals as goal

pub loop-x-preserved : goal.loop-x-preserved
loop-x-preserved c =
    let odd : c.min-least.result % 2 ≡ 1 = min_odd _ _ _ c.loop-x.invariant.0 c.loop-x.invariant.1 c.min-least.ensures in
    (c.odd_part-x.ensures.odd, odd, λ g h. c.loop-x.invariant.2 g (IsGcd-stepped _ _ _ _ g c.min-least.ensures c.abs_diff.ensures (IsGcd-halved _ _ _ (c.odd_part-x.ensures.power.0) g odd (c.odd_part-x.ensures.power.1) h)))

pub returns : goal.returns
returns c = c.loop-x.invariant.2 _ (IsGcd-same _ _ c.loop-x-test.false)
