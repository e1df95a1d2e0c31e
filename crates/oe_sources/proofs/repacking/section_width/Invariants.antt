use Rattle.std.proofs.Common.{◌≡◌, ◌-◌, ◌*◌, ◌≤◌, length, IfSome}
use Rattle.oe_sources.specs.Catalogue.{OnlyReads, source_at}
use Rattle.oe_sources.specs.CatalogueRows.{rows_in}
use Rattle.oe_sources.specs.Packed.{plane_size}
use Rattle.oe_sources.specs.Repacked.{IsWidthFrom}
use Rattle.oe_sources.proofs.repacking.section_width.Given as goal

abbrev pub decreases-loop-done : goal.decreases-loop-done
decreases-loop-done g l = l.rows - l.done

abbrev pub invariant-loop-done : goal.invariant-loop-done
invariant-loop-done g l =
    let before = rows_in (λ cube. (goal.SharedSource-dyn g (cube.vtable, cube.value)).CubeSource.seen cube.value) l.fn.catalogue in
    let source = source_at before l.place in
    record {
      reads : OnlyReads before l.place (rows_in (λ cube. (goal.SharedSource-dyn g (cube.vtable, cube.value)).CubeSource.seen cube.value) l.catalogue);
      room : length l.cells ≡ 65536;
      within : l.done ≤ l.rows;
      width : IfSome source.contents (λ c. IsWidthFrom c (l.section * plane_size source.shape) (l.done * l.sides.x) l.width);
    }
