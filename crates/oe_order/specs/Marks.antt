-- Marks that say which nodes a list has.
use Rattle.std.specs.Prelude.{◌≡◌, ℕ, Bool, false, List, length, slice_index_or, count_by}
use Rattle.oe_order.specs.Order.{contains}

-- the nodes of the list are those with a mark, and it has each of them once
pub record IsMarked (marks : List Bool) (nodes : List ℕ) : Type 0 where
  pub same : (n : ℕ) → slice_index_or marks n false ≡ contains nodes n
  pub once : count_by (λ b. b) marks ≡ length nodes
