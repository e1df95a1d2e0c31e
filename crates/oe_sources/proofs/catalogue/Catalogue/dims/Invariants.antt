use Rattle.std.proofs.Common.{◌≡◌, [], drop}
use Rattle.oe_sources.specs.Catalogue.{rows_shown}
use Rattle.oe_sources.specs.CatalogueDims.{put_rows}
use Rattle.oe_sources.proofs.catalogue.Catalogue.dims.Given as goal

abbrev pub invariant-loop-row : goal.invariant-loop-row
invariant-loop-row g l =
    let rows = rows_shown (λ cube. (goal.SharedSource-dyn g (cube.vtable, cube.value)).CubeSource.seen cube.value) l.self.seal l.row-items in
    put_rows l.rows.items (drop l.row-index rows) ≡ put_rows [] rows
