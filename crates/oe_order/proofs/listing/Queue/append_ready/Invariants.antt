use Rattle.std.proofs.Common.{◌≡◌, ◌-◌, true, false, List, Bool, ℕ, Option, length, get_or}
use Rattle.std.specs.BinaryHeap.{heap_items}
use Rattle.std.specs.declared.cmp.Reverse.{Reverse}
use Rattle.oe_order.specs.Graph.{Node, graph_of, is_load}
use Rattle.oe_order.specs.Order.{contains, extend_order}
use Rattle.oe_order.specs.Waiting.{IsQueue, AllReleased, is_wanted, marked_nodes}
use Rattle.oe_order.proofs.listing.Queue.append_ready.Given as goal

pub record Appended (nodes : List Node) (members0 members standing : List Bool) (steps0 steps : List ℕ) (first next : List (Option ℕ)) (passed : List ℕ) (ready : List (Reverse ℕ)) : Type 0 where
  pub queue : IsQueue nodes (is_wanted nodes members standing) members standing steps first next passed ready
  pub released : AllReleased standing first
  pub same_members : members ≡ members0
  pub loads : (n : ℕ) → get_or members n false ≡ true → is_load nodes n ≡ true → contains steps n ≡ true
  pub extended : extend_order nodes (marked_nodes members (length nodes)) (length nodes - length steps) steps ≡ extend_order nodes (marked_nodes members (length nodes)) (length nodes - length steps0) steps0

abbrev pub invariant-loop-least : goal.invariant-loop-least
invariant-loop-least l =
    Appended (graph_of l.nodes) l.initial.self.members.items l.self.members.items l.self.standing.items l.initial.self.steps.items l.self.steps.items l.self.first.items l.self.next.items l.self.passed.items (heap_items l.self.ready)

abbrev pub decreases-loop-least : goal.decreases-loop-least
decreases-loop-least l = length l.nodes - length l.self.steps.items
