use Rattle.std.proofs.Common.{◌≡◌, ◌<◌, ℕ, get_or}
use Rattle.oe_plan.proofs.widths.takes.Given as goal

-- none so far is the node
abbrev pub invariant-loop-argument : goal.invariant-loop-argument
invariant-loop-argument l = (k : ℕ) → k < l.argument-index → get_or l.arguments k 0 ≡ l.node → ⊥
