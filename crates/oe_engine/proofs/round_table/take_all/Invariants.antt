use Rattle.std.proofs.Common.{◌≡◌, ℕ, List, length, drop}
use Rattle.std.specs.Prelude.{vec_capacity}
use Rattle.oe_engine.specs.Views.{AreEvaluated, AreFull, Content, Stands}
use Rattle.oe_engine.proofs.round_table.take_all.Given as goal

abbrev pub invariant-loop-slot : goal.invariant-loop-slot
invariant-loop-slot g l = record {
  table_is : l.seat.table_id ≡ l.fn.seat.table_id;
  capacity : vec_capacity l.benches ≡ vec_capacity l.fn.benches;
  many : length l.benches.items ≡ l.slot;
  stands : (first made : ℕ) (laid : List Content) → Stands l.shelf.key first made made 0 laid l.fn.seat.me
      → AreFull l.plan l.slots laid → Stands l.shelf.key first made made l.slot (drop l.slot laid) l.seat.me;
  evaluated : (first made : ℕ) (laid : List Content) → Stands l.shelf.key first made made 0 laid l.fn.seat.me
      → AreFull l.plan l.slots laid → AreEvaluated l.plan laid l.benches.items;
}
