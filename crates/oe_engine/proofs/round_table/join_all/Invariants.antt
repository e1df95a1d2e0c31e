use Rattle.std.proofs.Common.{◌≡◌, ◌+◌, ℕ, List, length}
use Rattle.std.specs.Prelude.{vec_capacity}
use Rattle.std.specs.List.{All}
use Rattle.oe_engine.specs.Views.{Content, HasNothing, Stands}
use Rattle.oe_engine.proofs.round_table.join_all.Given as goal

abbrev pub invariant-loop-hand : goal.invariant-loop-hand
invariant-loop-hand l = record {
  table_is : l.seat.table_id ≡ l.fn.seat.table_id;
  capacity : vec_capacity l.hands ≡ vec_capacity l.fn.hands;
  hands : All (HasNothing l.shelf.table_id) l.hands.items;
  ended : (first : ℕ) (laid : List Content)
      → Stands l.shelf.key first (length l.fn.hands.items) 0 0 laid l.fn.seat.me
      → (gone : ℕ) × (gone + length l.hands.items ≡ length l.fn.hands.items)
      × Stands l.shelf.key first (length l.fn.hands.items) gone 0 laid l.seat.me;
}

abbrev pub decreases-loop-hand : goal.decreases-loop-hand
decreases-loop-hand l = length l.hands.items
