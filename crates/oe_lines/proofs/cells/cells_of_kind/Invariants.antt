use Rattle.std.proofs.Common.{◌≡◌, true}
use Rattle.std.specs.List.{list_all}
use Rattle.oe_cube.specs.Kinds.{is_null_or_of}
use Rattle.oe_lines.proofs.cells.cells_of_kind.Given as goal

abbrev pub invariant-loop-cell : goal.invariant-loop-cell
invariant-loop-cell l = list_all (is_null_or_of l.kind) l.kept.items ≡ true
