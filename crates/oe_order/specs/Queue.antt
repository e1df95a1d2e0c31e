-- For private functions. The queue of a run: the steps so far, and how the nodes that are to come are kept.
use Rattle.std.specs.Prelude.{◌≡◌, ◌≢◌, ◌<◌, ◌-◌, ◌&&◌, ◌||◌, ◌==◌, ℕ, Bool, true, false, not, List, Some, None, length, slice_index, slice_index_or, slice_get}
use Rattle.std.specs.BinaryHeap.{heap_items}
use Rattle.oe_order.specs.Graph.{Node, is_load, arguments}
use Rattle.oe_order.specs.Order.{contains, extend_order}
use Rattle.oe_order.specs.Waiting.{AllReleased, IsKept, IsQueue, is_wanted, marked_nodes}
use Rattle.oe_order.specs.declared.listing.Queue.{Queue}

-- these are the nodes that the queue keeps
abbrev pub Keeps : List Node → (ℕ → Bool) → Queue → Type 0
Keeps nodes kept queue =
    IsKept nodes kept queue.first.items queue.next.items queue.passed.items (heap_items queue.ready)

-- and what holds between two steps holds of it
abbrev pub IsQueueOf : List Node → (ℕ → Bool) → Queue → Type 0
IsQueueOf nodes kept queue =
    IsQueue nodes kept queue.members.items queue.standing.items queue.steps.items queue.first.items
    queue.next.items queue.passed.items (heap_items queue.ready)

-- no node is kept yet, whatever the nodes are
abbrev pub IsNewQueue : Queue → Type 0
IsNewQueue queue = (nodes : List Node) → length nodes ≡ length queue.members.items → IsQueueOf nodes (λ _. false) queue

-- this node is kept as well, whichever nodes were
abbrev pub KeepsOneMore : Queue → Queue → ℕ → List ℕ → Type 0
KeepsOneMore old new node named =
    (nodes : List Node) (kept : ℕ → Bool) → arguments nodes node ≡ named → node < length nodes → kept node ≡ false
    → Keeps nodes kept old → Keeps nodes (λ n. kept n || n == node) new

-- the chains of all arguments begin as before, but for the one that the node waits for
abbrev pub KeepsOtherChains : Queue → Queue → ℕ → List ℕ → Type 0
KeepsOtherChains old new node named =
    (a : ℕ) → slice_get named (slice_index old.passed.items node) ≢ Some a
    → slice_index_or new.first.items a None ≡ slice_index_or old.first.items a None

-- between two steps: each wanted node is kept, and nothing waits for a node that stands
pub record IsBetweenSteps (nodes : List Node) (queue : Queue) : Type 0 where
  pub wanted : IsQueueOf nodes (is_wanted nodes queue.members.items queue.standing.items) queue
  pub released : AllReleased queue.standing.items queue.first.items

-- the same of a queue in which nodes still wait for one that stands
pub record IsReleasing (nodes : List Node) (node : ℕ) (queue : Queue) : Type 0 where
  pub stands : slice_index_or queue.standing.items node false ≡ true
  pub wanted : IsQueueOf nodes (is_wanted nodes queue.members.items queue.standing.items) queue
  pub released : (a : ℕ) → a ≢ node → slice_index_or queue.standing.items a false ≡ true
      → slice_index_or queue.first.items a None ≡ None

-- and of one from which the node was taken that comes next: a member of the run that does not stand, all of whose
-- arguments do unless it is a load
pub record ComesNext (nodes : List Node) (node : ℕ) (queue : Queue) : Type 0 where
  pub member : slice_index_or queue.members.items node false ≡ true
  pub comes : slice_index_or queue.standing.items node false ≡ false
  pub arguments_stand : is_load nodes node ≡ false → (a : ℕ) → contains (arguments nodes node) a ≡ true
      → contains queue.steps.items a ≡ true
  pub others : IsQueueOf nodes
      (λ n. is_wanted nodes queue.members.items queue.standing.items n && not (n == node)) queue
  pub released : AllReleased queue.standing.items queue.first.items

-- the nodes of the run, by index
abbrev pub run_in : List Node → Queue → List ℕ
run_in nodes queue = marked_nodes queue.members.items (length nodes)

-- the steps so far, and behind them the nodes that come next, one after the other, until none is ready
abbrev pub order_behind : List Node → Queue → List ℕ
order_behind nodes queue =
    extend_order nodes (run_in nodes queue) (length nodes - length queue.steps.items) queue.steps.items
