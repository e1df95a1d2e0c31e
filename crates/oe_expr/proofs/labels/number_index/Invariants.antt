use Rattle.std.proofs.Common.{◌≡◌, ℕ, ◌<◌, false, get_or, pos}
use Rattle.oe_dims.specs.Indices.{same_number}
use Rattle.oe_expr.proofs.labels.number_index.Given as goal

abbrev pub invariant-loop-index : goal.invariant-loop-index
invariant-loop-index l = (k : ℕ) → k < l.index → same_number l.label (get_or l.numbers k (pos 0)) ≡ false
