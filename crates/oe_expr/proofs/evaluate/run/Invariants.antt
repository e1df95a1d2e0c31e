use Rattle.std.proofs.Common.{◌≡◌, ℕ, ◌<◌}
use Rattle.std.specs.List.{slice_index_or}
use Rattle.oe_cell.specs.declared.cell.Cell.TheVariants.{Empty}
use Rattle.oe_expr.specs.Programs as spec
use Rattle.oe_expr.proofs.evaluate.run.Given as goal

abbrev pub invariant-loop-number : goal.invariant-loop-number
invariant-loop-number l =
    (r : ℕ) → r < l.number → slice_index_or l.registers r Empty ≡ spec.register_of l.program.elements.items (spec.env_inputs l.env l.start) l.program.steps.items r
