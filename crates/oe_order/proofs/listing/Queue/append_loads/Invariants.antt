use Rattle.std.proofs.Common.{◌≡◌, List, Bool, ℕ, Option}
use Rattle.std.specs.List.{filter}
use Rattle.std.specs.BinaryHeap.{heap_items}
use Rattle.std.specs.declared.cmp.Reverse.{Reverse}
use Rattle.oe_order.specs.Graph.{Node, graph_of, is_load}
use Rattle.oe_order.specs.Waiting.{IsQueue, AllReleased, is_wanted, marked_nodes}
use Rattle.oe_order.proofs.listing.Queue.append_loads.Given as goal

pub record Loads (nodes : List Node) (i : ℕ) (members0 members standing : List Bool) (steps : List ℕ) (first next : List (Option ℕ)) (passed : List ℕ) (ready : List (Reverse ℕ)) : Type 0 where
  pub queue : IsQueue nodes (is_wanted nodes members standing) members standing steps first next passed ready
  pub released : AllReleased standing first
  pub same_members : members ≡ members0
  pub loads : steps ≡ filter (is_load nodes) (marked_nodes members0 i)

abbrev pub invariant-loop-node : goal.invariant-loop-node
invariant-loop-node l =
    Loads (graph_of l.nodes) l.node l.initial.self.members.items l.self.members.items l.self.standing.items l.self.steps.items l.self.first.items l.self.next.items l.self.passed.items (heap_items l.self.ready)
