-- The order of a run's nodes: its load nodes first, by index; then, again and again, the node of least index all of
-- whose arguments stand already.
use Rattle.std.specs.Prelude.{◌≡◌, ◌≢◌, ◌<◌, ◌-◌, ◌↔◌, ℕ, zero, suc, Bool, false, not, ◌&&◌, ◌||◌, ◌==◌, List, [], ◌∷◌, ◌++◌, Option, length, slice_index, Contains}
use Rattle.std.specs.Option.{option_to_list}
use Rattle.std.specs.List.{list_all, find, filter}
use Rattle.oe_order.specs.Graph.{Node, is_load, arguments, run_of, IsInRun}

-- whether a list of nodes has node n
abbrev pub contains : List ℕ → ℕ → Bool
contains [] n = false
contains (m ∷ ms) n = (m == n) || contains ms n

-- the node does not stand yet, and all its arguments do
abbrev pub is_ready : List Node → List ℕ → ℕ → Bool
is_ready nodes standing n = not (contains standing n) && list_all (contains standing) (arguments nodes n)

-- the node of the run of least index that is ready
unfoldable pub next_of : List Node → List ℕ → List ℕ → Option ℕ
next_of nodes run standing = find (is_ready nodes standing) run

-- the next node is put behind those that stand, so many times
unfoldable pub extend_order : List Node → List ℕ → ℕ → List ℕ → List ℕ
extend_order nodes run zero standing = standing
extend_order nodes run (suc times) standing =
    extend_order nodes run times (standing ++ option_to_list (next_of nodes run standing))

-- the load nodes of the run, by index
unfoldable pub loads_of : List Node → ℕ → List ℕ
loads_of nodes last = filter (is_load nodes) (run_of nodes last)

-- the order of the run of `last`; once no node is ready, further times change nothing
unfoldable pub order_of : List Node → ℕ → List ℕ
order_of nodes last =
    extend_order nodes (run_of nodes last) (length nodes - length (loads_of nodes last)) (loads_of nodes last)

-- what makes steps an order to work by: each node of the run stands once, no other does, and a node that is no load
-- stands behind all its arguments
pub record IsListing (nodes : List Node) (last : ℕ) (steps : List ℕ) : Type 0 where
  pub once : (i j : ℕ) → i < j → j < length steps → slice_index steps i ≢ slice_index steps j
  pub members : (n : ℕ) → Contains steps n ↔ IsInRun nodes last n
  pub arguments_first : (j a : ℕ) → j < length steps → is_load nodes (slice_index steps j) ≡ false →
      Contains (arguments nodes (slice_index steps j)) a → (i : ℕ) × (i < j) × (slice_index steps i ≡ a)
