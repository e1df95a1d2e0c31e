use Rattle.std.proofs.Common.{◌≡◌, ℕ, ◌<◌, false, [], get_or}
use Rattle.oe_dims.specs.Names.{same_name}
use Rattle.oe_expr.proofs.labels.name_index.Given as goal

abbrev pub invariant-loop-index : goal.invariant-loop-index
invariant-loop-index l = (k : ℕ) → k < l.index → same_name l.label (get_or l.names k []) ≡ false
