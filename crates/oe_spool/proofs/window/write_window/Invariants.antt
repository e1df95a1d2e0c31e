use Rattle.std.proofs.Common.{◌≡◌, length}
use Rattle.oe_dims.specs.Dimensions.{cell_count}
use Rattle.oe_outside.specs.Faults.{NeverFalls}
use Rattle.oe_spool.specs.Spooled.{ChangesOnly}
use Rattle.oe_spool.proofs.RunRecords.{AreWritten}
use Rattle.oe_window.specs.Runs.{window_numbers, EndWithin}
use Rattle.oe_window.specs.Windows.{IsIn}
use Rattle.oe_window.proofs.VisitLemmas.{Visiting}
use Rattle.oe_spool.proofs.window.write_window.Given as goal

abbrev pub invariant-loop-first : goal.invariant-loop-first
invariant-loop-first g l =
    (goal.iterator-loop-first g).can_next l.first-iterator ×
    (goal.iterator-loop-first g).is_finite l.first-iterator ×
    Visiting (window_numbers l.shape l.window) l.first-iterator l.done ×
    EndWithin (cell_count l.shape) l.first-iterator ×
    AreWritten (g.P.Store.bytes l.spool) l.base (window_numbers l.shape l.window) l.cells l.done ×
    ChangesOnly l.base l.shape (IsIn l.window) (g.P.Store.bytes l.initial.spool) (g.P.Store.bytes l.spool) ×
    NeverFalls (g.P.Store.faults l.initial.spool) (g.P.Store.faults l.spool) ×
    (length l.bytes ≡ 69632)
