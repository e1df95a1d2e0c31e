use Rattle.std.proofs.Common.{◌≤◌}
use Rattle.oe_window.specs.Runs.{window_numbers, EndWithin}
use Rattle.oe_dims.specs.Dimensions.{cell_count}
use Rattle.oe_window.proofs.VisitLemmas.{Visiting}
use Rattle.oe_spool.proofs.least.number_at.Given as goal

abbrev pub invariant-loop-first : goal.invariant-loop-first
invariant-loop-first l =
    (goal.iterator-loop-first).can_next l.first-iterator ×
    (goal.iterator-loop-first).is_finite l.first-iterator ×
    Visiting (window_numbers l.shape l.window) l.first-iterator l.done ×
    EndWithin (cell_count l.shape) l.first-iterator ×
    (l.done ≤ l.index)
