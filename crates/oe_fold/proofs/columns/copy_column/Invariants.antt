use Rattle.std.proofs.Common.{◌≡◌, take}
use Rattle.oe_fold.specs.Columns.{column}
use Rattle.oe_fold.proofs.columns.copy_column.Given as goal

abbrev pub invariant-loop-t : goal.invariant-loop-t
invariant-loop-t l = take l.t l.list ≡ column l.cells l.stride l.t l.k
