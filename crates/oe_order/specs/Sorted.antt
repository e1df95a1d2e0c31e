-- Nodes in an order in which each stands behind those whose results it takes: a topological order.
use Rattle.std.specs.Prelude.{◌≡◌, ◌≢◌, ◌<◌, ℕ, false, List, length, slice_index, Contains}
use Rattle.oe_order.specs.Graph.{Node, is_load, arguments}

-- no node loads, so that each takes the results of all that it refers to
abbrev pub AreNoLoads : List Node → Type 0
AreNoLoads nodes = (n : ℕ) → is_load nodes n ≡ false

-- these are nodes, no one of them twice, and each stands behind all that it refers to
pub record AreSorted (nodes : List Node) (steps : List ℕ) : Type 0 where
  pub once : (i j : ℕ) → i < j → j < length steps → slice_index steps i ≢ slice_index steps j
  pub within : (n : ℕ) → Contains steps n → n < length nodes
  pub behind : (j a : ℕ) → j < length steps → Contains (arguments nodes (slice_index steps j)) a
      → (i : ℕ) × (i < j) × (slice_index steps i ≡ a)

-- and no other can be put behind them: each other node refers to one that is not among them either
pub record AreAllSorted (nodes : List Node) (steps : List ℕ) : Type 0 where
  pub sorted : AreSorted nodes steps
  pub left : (n : ℕ) → n < length nodes → (Contains steps n → ⊥)
      → (a : ℕ) × Contains (arguments nodes n) a × (Contains steps a → ⊥)
