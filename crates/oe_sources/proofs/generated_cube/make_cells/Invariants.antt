use Rattle.std.proofs.Common.{◌≡◌, ◌*◌, map, take}
use Rattle.oe_sources.specs.Generated.{generated_cell}
use Rattle.oe_window.specs.Windows.{positions, span_length}
use Rattle.oe_sources.proofs.generated_cube.make_cells.Given as goal

abbrev pub invariant-loop-number : goal.invariant-loop-number
invariant-loop-number l = record {
  done_is : l.done ≡ l.number * span_length l.window.x;
  made : take l.done l.into ≡ map (generated_cell l.seed) (take l.done (positions l.window));
}
