use Rattle.oe_window.specs.Runs.{cells_of_runs}
use Rattle.oe_window.proofs.CellLemmas.{Copying}
use Rattle.oe_window.proofs.cells.copy_window.Given as goal

abbrev pub invariant-loop-first : goal.invariant-loop-first
invariant-loop-first g l =
    (goal.iterator-loop-first g).can_next l.first-iterator ×
    (goal.iterator-loop-first g).is_finite l.first-iterator ×
    Copying l.cells l.first-iterator l.done l.into (cells_of_runs l.cells l.initial.first-iterator)
