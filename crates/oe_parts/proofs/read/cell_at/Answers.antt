use Rattle.std.proofs.Common.{◌≡◌, ℕ, List, IfNone, IfSome, subst}
use Rattle.oe_cell.specs.Cells.{IsCell}
use Rattle.oe_cell.specs.Record.{IsRecord, record_of}
use Rattle.oe_parts.proofs.read.cell_at.Goals as goal

pub returns-clause-cell : goal.returns-clause-cell
returns-clause-cell c =
    subst (λ (bytes : List ℕ). IfSome c.read_record.result (λ cell. IsCell cell × (record_of cell ≡ bytes))) c.record_at-record.ensures c.read_record.ensures.«record»

pub returns-clause-none : goal.returns-clause-none
returns-clause-none c =
    subst (λ (bytes : List ℕ). IfNone c.read_record.result (¬ IsRecord bytes)) c.record_at-record.ensures c.read_record.ensures.none
