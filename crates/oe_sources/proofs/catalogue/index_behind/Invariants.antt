use Rattle.std.proofs.Common.{◌≡◌, ◌++◌, take, drop}
use Rattle.oe_dims.specs.declared.dims.DimsRow.{DimsRow}
use Rattle.oe_sources.specs.CatalogueDims.{put_row}
use Rattle.oe_sources.proofs.catalogue.index_behind.Given as goal

abbrev pub invariant-loop-index : goal.invariant-loop-index
invariant-loop-index l =
    (row : DimsRow) → row.id ≡ l.id → put_row row l.rows ≡ take l.index l.rows ++ put_row row (drop l.index l.rows)
