use Rattle.std.proofs.Common.{◌≡◌, []}
use Rattle.oe_engine.specs.Views.{Stands}
use Rattle.oe_engine.proofs.round_table.hold.Given as goal

abbrev pub invariant-loop-slot : goal.invariant-loop-slot
invariant-loop-slot l = record {
  table_is : l.seat.table_id ≡ l.fn.seat.table_id;
  stands : Stands l.shelf.key 0 0 0 l.slot [] l.seat.me;
}
