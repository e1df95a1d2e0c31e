use Rattle.std.proofs.Common.{◌≡◌, ℕ, List, length}
use Rattle.std.specs.Prelude.{vec_capacity}
use Rattle.std.specs.List.{All}
use Rattle.oe_engine.specs.Views.{Content, IsSpareAt, Stands}
use Rattle.oe_engine.proofs.round_table.split_all.Given as goal

abbrev pub invariant-loop-number : goal.invariant-loop-number
invariant-loop-number l = record {
  table_is : l.seat.table_id ≡ l.fn.seat.table_id;
  capacity : vec_capacity l.hands ≡ vec_capacity l.fn.hands;
  many : length l.hands.items ≡ l.number;
  made : (first : ℕ) (laid : List Content) → Stands l.shelf.key first 0 0 0 laid l.fn.seat.me
      → Stands l.shelf.key first l.number 0 0 laid l.seat.me;
  seats : (first : ℕ) (laid : List Content) → Stands l.shelf.key first 0 0 0 laid l.fn.seat.me
      → All (IsSpareAt l.shelf.key l.shelf.table_id first laid) l.hands.items;
}
