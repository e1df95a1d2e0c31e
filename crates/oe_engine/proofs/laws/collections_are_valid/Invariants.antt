use Rattle.std.proofs.Common.{ℕ, ◌<◌, get_or}
use Rattle.oe_dims.specs.declared.dims.DimsRow.{DimsRow}
use Rattle.oe_sources.specs.CatalogueRows.{rows_of}
use Rattle.oe_engine.specs.Laws.{HasValid}
use Rattle.oe_engine.proofs.laws.collections_are_valid.Given as goal

abbrev pub invariant-loop-row : goal.invariant-loop-row
invariant-loop-row g l =
    let rows = rows_of (λ z. (goal.SharedSource-dyn g z).CubeSource.seen z.1) l.catalogue in
    (k : ℕ) (d : DimsRow) → k < l.row-index → HasValid rows (get_or l.row-items k d)
