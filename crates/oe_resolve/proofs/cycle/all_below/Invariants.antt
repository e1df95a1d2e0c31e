use Rattle.std.proofs.Common.{◌≡◌, ◌<◌, ℕ, true, take}
use Rattle.oe_order.specs.Order.{contains}
use Rattle.oe_resolve.proofs.cycle.all_below.Given as goal

abbrev pub invariant-loop-argument : goal.invariant-loop-argument
invariant-loop-argument l = (a : ℕ) → contains (take l.argument-index l.arguments) a ≡ true → a < l.node
