use Rattle.std.proofs.Common.{◌≡◌, ◌*◌, ◌≤◌, length, map, take}
use Rattle.oe_window.specs.Parts.{plane_size}
use Rattle.oe_window.specs.Windows.{positions}
use Rattle.oe_ops.proofs.rows.fill_planes.Given as goal

-- the planes so far are done
abbrev pub invariant-loop-number : goal.invariant-loop-number
invariant-loop-number g l = record {
  done_is : l.done ≡ l.number * plane_size l.window;
  within : l.done ≤ length l.out;
  value : take l.done l.out ≡ take l.done (map (g.P.Planes.cell l.planes) (positions l.window));
}
