-- For private functions. How the nodes that do not stand yet are kept: each waits in the chain of one argument that it
-- lacks, or is ready.
use Rattle.std.specs.Prelude.{◌≡◌, ◌≢◌, ◌<◌, ℕ, Bool, true, false, cond, not, ◌&&◌, ◌==◌, List, [], ◌∷◌, Option, Some, None, length, slice_index, slice_index_or, slice_get, is_none, count_by}
use Rattle.std.specs.List.{filter, range_with_len}
use Rattle.std.specs.Ordering.{nat_cmp}
use Rattle.std.specs.BinaryHeap.{IsHeap}
use Rattle.std.specs.declared.cmp.Reverse.{Reverse}
use Rattle.oe_order.specs.Graph.{Node, is_load, arguments}
use Rattle.oe_order.specs.Order.{contains}
use Rattle.oe_order.specs.Marks.{IsMarked}

-- a chain from a first node by `next` has these nodes in this order
abbrev pub IsChain : List (Option ℕ) → Option ℕ → List ℕ → Type 0
IsChain next first [] = first ≡ None
IsChain next first (n ∷ ns) = (first ≡ Some n) × (n < length next) × IsChain next (slice_index_or next n None) ns

-- the argument that a node waits for, once so many of its arguments are passed
abbrev pub lacks : List Node → List ℕ → ℕ → Option ℕ
lacks nodes passed n = slice_get (arguments nodes n) (slice_index passed n)

-- whether it is this one
abbrev pub is_for : Option ℕ → ℕ → Bool
is_for None a = false
is_for (Some b) a = b == a

-- the nodes that are kept: each waits in the chain of the argument that it lacks, or else stands among the ready
pub record IsKept (nodes : List Node) (kept : ℕ → Bool) (first next : List (Option ℕ)) (passed : List ℕ)
    (ready : List (Reverse ℕ)) : Type 0 where
  pub chains : ℕ → List ℕ
  pub chained : (a : ℕ) → a < length nodes → IsChain next (slice_index_or first a None) (chains a)
  pub waiting : (n a : ℕ) → count_by (λ m. m == n) (chains a) ≡ cond (kept n && is_for (lacks nodes passed n) a) 1 0
  pub queued : (n : ℕ) → count_by (λ (r : Reverse ℕ). r.0 == n) ready
      ≡ cond (kept n && is_none (lacks nodes passed n)) 1 0
  pub least_first : IsHeap (λ (x y : Reverse ℕ). nat_cmp y.0 x.0) ready
  pub within : (n : ℕ) → kept n ≡ true → n < length nodes
  pub firsts : length first ≡ length nodes
  pub nexts : length next ≡ length nodes
  pub passes : length passed ≡ length nodes

-- the arguments that are passed stand
abbrev pub HasPassed : List Node → List Bool → List ℕ → Type 0
HasPassed nodes standing passed = (n k : ℕ) → k < slice_index passed n → k < length (arguments nodes n) →
    slice_index_or standing (slice_index (arguments nodes n) k) false ≡ true

-- a node of the run that is no load and does not stand
abbrev pub is_wanted : List Node → List Bool → List Bool → ℕ → Bool
is_wanted nodes members standing n =
    slice_index_or members n false && (not (is_load nodes n) && not (slice_index_or standing n false))

-- the steps so far: no node twice, members of the run alone, and a node that is no load behind all its arguments
pub record IsPartial (nodes : List Node) (members : List Bool) (steps : List ℕ) : Type 0 where
  pub once : (i j : ℕ) → i < j → j < length steps → slice_index steps i ≢ slice_index steps j
  pub member : (n : ℕ) → contains steps n ≡ true → slice_index_or members n false ≡ true
  pub arguments_first : (j a : ℕ) → j < length steps → is_load nodes (slice_index steps j) ≡ false →
      contains (arguments nodes (slice_index steps j)) a ≡ true → (i : ℕ) × (i < j) × (slice_index steps i ≡ a)

-- what holds between two steps: the marks say what stands, what is passed stands, and each kept node waits or is ready
pub record IsQueue (nodes : List Node) (kept : ℕ → Bool) (members standing : List Bool) (steps : List ℕ)
    (first next : List (Option ℕ)) (passed : List ℕ) (ready : List (Reverse ℕ)) : Type 0 where
  pub marked : IsMarked standing steps
  pub partial : IsPartial nodes members steps
  pub passing : HasPassed nodes standing passed
  pub keeping : IsKept nodes kept first next passed ready
  pub standing_len : length standing ≡ length nodes
  pub members_len : length members ≡ length nodes

-- nothing waits for a node that stands
abbrev pub AllReleased : List Bool → List (Option ℕ) → Type 0
AllReleased standing first = (a : ℕ) → slice_index_or standing a false ≡ true → slice_index_or first a None ≡ None

-- the nodes with a mark, by index
abbrev pub marked_nodes : List Bool → ℕ → List ℕ
marked_nodes members count = filter (λ n. slice_index_or members n false) (range_with_len 0 count)
