use Rattle.std.proofs.Common.{◌≡◌, ◌≢◌, ◌-◌, ℕ, true, false, List, Bool, Option, None, length, get_or}
use Rattle.std.specs.List.{sum_by, range_with_len}
use Rattle.std.specs.BinaryHeap.{heap_items}
use Rattle.std.specs.declared.cmp.Reverse.{Reverse}
use Rattle.oe_order.specs.Graph.{Node, graph_of, arguments}
use Rattle.oe_order.specs.Waiting.{IsQueue, is_wanted}
use Rattle.oe_order.proofs.listing.Queue.release.Given as goal

pub record Releases (nodes : List Node) (x : ℕ) (members0 members standing0 standing : List Bool) (steps0 steps : List ℕ) (first next : List (Option ℕ)) (passed : List ℕ) (ready : List (Reverse ℕ)) : Type 0 where
  pub queue : IsQueue nodes (is_wanted nodes members standing) members standing steps first next passed ready
  pub released : (a : ℕ) → a ≢ x → get_or standing a false ≡ true → get_or first a None ≡ None
  pub same_members : members ≡ members0
  pub same_standing : standing ≡ standing0
  pub same_steps : steps ≡ steps0

-- the arguments that are still to be passed
abbrev pub to_pass : List Node → List ℕ → ℕ
to_pass nodes passed = sum_by (λ n. length (arguments nodes n) - get_or passed n 0) (range_with_len 0 (length nodes))

abbrev pub invariant-loop-waiting : goal.invariant-loop-waiting
invariant-loop-waiting l =
    Releases (graph_of l.nodes) l.node l.initial.self.members.items l.self.members.items l.initial.self.standing.items l.self.standing.items l.initial.self.steps.items l.self.steps.items
    l.self.first.items l.self.next.items l.self.passed.items (heap_items l.self.ready)

abbrev pub decreases-loop-waiting : goal.decreases-loop-waiting
decreases-loop-waiting l = to_pass (graph_of l.nodes) l.self.passed.items
