use Rattle.std.proofs.Common.{◌≡◌, ◌-◌, ◌<◌, ◌≤◌, ℕ, true, false, length, get_or}
use Rattle.oe_order.proofs.listing.first_missing.Given as goal

abbrev pub invariant-loop-at : goal.invariant-loop-at
invariant-loop-at l = (l.passed ≤ l.at) × ((k : ℕ) → l.passed ≤ k → k < l.at → k < length l.arguments →
    get_or l.standing (get_or l.arguments k 0) false ≡ true)

abbrev pub decreases-loop-at : goal.decreases-loop-at
decreases-loop-at l = length l.arguments - l.at
