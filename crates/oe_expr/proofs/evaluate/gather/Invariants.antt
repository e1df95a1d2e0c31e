use Rattle.std.proofs.Common.{◌≡◌, map, take}
use Rattle.std.specs.List.{slice_index_or}
use Rattle.oe_cell.specs.declared.cell.Cell.TheVariants.{Empty}
use Rattle.oe_expr.specs.Programs as spec
use Rattle.oe_expr.proofs.evaluate.gather.Given as goal

abbrev pub invariant-loop-index : goal.invariant-loop-index
invariant-loop-index l =
    take l.index l.list ≡ map (spec.operand_value (spec.env_inputs l.env l.start) (λ r. slice_index_or l.registers r Empty)) (take l.index l.elements)
