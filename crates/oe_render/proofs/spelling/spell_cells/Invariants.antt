use Rattle.std.proofs.Common.{◌≡◌, ◌+◌, ◌*◌, ◌≤◌, length, map, drop}
use Rattle.oe_cell.specs.Spelling.{cell_text}
use Rattle.oe_render.specs.Text.{more_text}
use Rattle.oe_render.proofs.spelling.spell_cells.Given as goal

abbrev pub invariant-loop-left : goal.invariant-loop-left
invariant-loop-left l = record {
  within : l.left ≤ length l.cells;
  room : 44 * l.left ≤ l.start;
  last : l.start ≤ 2816;
  text : drop l.start l.into ≡ more_text (l.before + l.left) (map cell_text (drop l.left l.cells));
}

abbrev pub decreases-loop-left : goal.decreases-loop-left
decreases-loop-left l = l.left
