-- A process graph as contracts see it: its nodes, the references between them, and the nodes that a result needs.
use Rattle.std.specs.Prelude.{◌≡◌, ◌<◌, ◌⊎◌, ℕ, zero, suc, Bool, false, ◌||◌, ◌==◌, List, [], ◌∷◌, length, Contains}
use Rattle.std.specs.List.{list_any, range_with_len, filter}
use Rattle.oe_order.specs.declared.Links.{Links}

-- one node: whether it loads a cube, and the nodes whose results it takes
pub record Node : Type 0 where
  pub load : Bool
  pub arguments : List ℕ

-- the nodes of a list of links
abbrev pub graph_of : List Links → List Node
graph_of [] = []
graph_of (x ∷ xs) = record { load = x.load; arguments = x.arguments.items } ∷ graph_of xs

-- whether node n loads a cube
abbrev pub is_load : List Node → ℕ → Bool
is_load [] n = false
is_load (x ∷ xs) zero = x.load
is_load (x ∷ xs) (suc n) = is_load xs n

-- the nodes whose results node n takes
abbrev pub arguments : List Node → ℕ → List ℕ
arguments [] n = []
arguments (x ∷ xs) zero = x.arguments
arguments (x ∷ xs) (suc n) = arguments xs n

-- each reference names a node
abbrev pub RefersWithin : List Node → Type 0
RefersWithin nodes = (n a : ℕ) → Contains (arguments nodes n) a → a < length nodes

-- references lead from one node to another: one reference at least
pub data Reaches (nodes : List Node) : ℕ → ℕ → Type 0 where
  refers : {a b : ℕ} → Contains (arguments nodes a) b → Reaches nodes a b
  onwards : {a b c : ℕ} → Contains (arguments nodes a) b → Reaches nodes b c → Reaches nodes a c

-- references from a node never lead back to it
abbrev pub IsAcyclic : List Node → Type 0
IsAcyclic nodes = (n : ℕ) → Reaches nodes n n → ⊥

-- a node of the run: the result, or one that it reaches
abbrev pub IsInRun : List Node → ℕ → ℕ → Type 0
IsInRun nodes last n = (n ≡ last) ⊎ Reaches nodes last n

-- whether b is a, or is reached from it by so many references at most
unfoldable pub reaches_within : List Node → ℕ → ℕ → ℕ → Bool
reaches_within nodes zero a b = a == b
reaches_within nodes (suc most) a b =
    (a == b) || list_any (λ c. reaches_within nodes most c b) (arguments nodes a)

-- whether node n belongs to the run, which no path of more references than there are nodes decides
unfoldable pub in_run : List Node → ℕ → ℕ → Bool
in_run nodes last n = reaches_within nodes (length nodes) last n

-- the nodes of the run, by index
unfoldable pub run_of : List Node → ℕ → List ℕ
run_of nodes last = filter (in_run nodes last) (range_with_len 0 (length nodes))
