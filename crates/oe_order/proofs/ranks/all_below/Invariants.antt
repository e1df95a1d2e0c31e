use Rattle.std.proofs.Common.{◌≡◌, ◌<◌, ℕ, true, length, get_or, take}
use Rattle.oe_order.specs.Order.{contains}
use Rattle.oe_order.proofs.ranks.all_below.Given as goal

abbrev pub invariant-loop-argument : goal.invariant-loop-argument
invariant-loop-argument l = (a : ℕ) → contains (take l.argument-index l.arguments) a ≡ true → (a < length l.ranks) × (get_or l.ranks a 0 < l.rank)
