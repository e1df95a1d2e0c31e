use Rattle.std.proofs.Common.{◌≡◌, ◌||◌, ℕ, Bool, List, length, take}
use Rattle.oe_order.specs.Order.{contains}
use Rattle.oe_order.specs.Marks.{IsMarked}
use Rattle.oe_order.proofs.run.mark_new.Given as goal

pub record Finds (named : List ℕ) (k : ℕ) (old new : List ℕ) (before marks : List Bool) : Type 0 where
  pub len : length marks ≡ length before
  pub marked : IsMarked marks new
  pub found : (n : ℕ) → contains new n ≡ contains old n || contains (take k named) n
  pub kept : take (length old) new ≡ old

abbrev pub invariant-loop-node : goal.invariant-loop-node
invariant-loop-node l =
    Finds l.named l.node-index l.initial.found.items l.found.items l.initial.marks.items l.marks.items
