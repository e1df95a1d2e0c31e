use Rattle.std.proofs.Common.{◌≡◌, length}
use Rattle.std.specs.Prelude.{vec_capacity}
use Rattle.oe_engine.proofs.SeatLemmas.{IsLaying}
use Rattle.oe_engine.proofs.round_table.lay.Given as goal

abbrev pub invariant-loop-bench : goal.invariant-loop-bench
invariant-loop-bench l = record {
  table_is : l.seat.table_id ≡ l.fn.seat.table_id;
  capacity : vec_capacity l.benches ≡ vec_capacity l.fn.benches;
  laying : IsLaying l.plan l.shelf.key l.first l.fn.benches.items l.benches.items l.seat.me;
}

abbrev pub decreases-loop-bench : goal.decreases-loop-bench
decreases-loop-bench l = length l.benches.items
