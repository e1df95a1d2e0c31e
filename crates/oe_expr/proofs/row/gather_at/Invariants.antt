use Rattle.std.proofs.Common.{◌≡◌, ◌+◌, map, take}
use Rattle.oe_expr.specs.Programs.{operand_value}
use Rattle.oe_expr.specs.Strips.{register_at, row_inputs}
use Rattle.oe_expr.proofs.row.gather_at.Given as goal

abbrev pub invariant-loop-index : goal.invariant-loop-index
invariant-loop-index l =
    take l.index l.list ≡ map (operand_value (row_inputs l.row l.start (l.from + l.k)) (register_at l.registers l.n l.k)) (take l.index l.elements)
