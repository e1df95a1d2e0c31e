use Rattle.std.proofs.Common.{◌≡◌, ◌&&◌, ltb, [], List, Bool, ℕ, Option}
use Rattle.std.specs.BinaryHeap.{heap_items}
use Rattle.std.specs.declared.cmp.Reverse.{Reverse}
use Rattle.oe_order.specs.Graph.{Node, graph_of}
use Rattle.oe_order.specs.Waiting.{IsQueue, is_wanted}
use Rattle.oe_order.proofs.listing.Queue.park_all.Given as goal

pub record Parks (nodes : List Node) (i : ℕ) (members0 members standing : List Bool) (steps : List ℕ) (first next : List (Option ℕ)) (passed : List ℕ) (ready : List (Reverse ℕ)) : Type 0 where
  pub queue : IsQueue nodes (λ n. ltb n i && is_wanted nodes members standing n) members standing steps first next passed ready
  pub same_members : members ≡ members0
  pub none : steps ≡ []

abbrev pub invariant-loop-node : goal.invariant-loop-node
invariant-loop-node l =
    Parks (graph_of l.nodes) l.node l.initial.self.members.items l.self.members.items l.self.standing.items l.self.steps.items l.self.first.items l.self.next.items l.self.passed.items (heap_items l.self.ready)
