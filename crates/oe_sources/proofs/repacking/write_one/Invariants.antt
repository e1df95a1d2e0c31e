use Rattle.std.proofs.Common.{◌≡◌, ◌-◌, ◌*◌, ◌≤◌, length, drop, take, vec_len, IfSome}
use Rattle.oe_outside.specs.Faults.{NeverFalls}
use Rattle.oe_outside.specs.Visible.{Appends}
use Rattle.oe_sources.specs.Catalogue.{OnlyReads, source_at}
use Rattle.oe_sources.specs.CatalogueRows.{rows_in}
use Rattle.oe_sources.specs.Packed.{plane_size}
use Rattle.oe_wide.specs.Wide.{records_in}
use Rattle.oe_sources.proofs.repacking.write_one.Given as goal

abbrev pub decreases-loop-done : goal.decreases-loop-done
decreases-loop-done g l = l.rows - l.done

abbrev pub invariant-loop-done : goal.invariant-loop-done
invariant-loop-done g l =
    let before = rows_in (λ cube. (goal.SharedSource-dyn g (cube.vtable, cube.value)).CubeSource.seen cube.value) l.fn.catalogue in
    let source = source_at before l.place in
    let size = plane_size source.shape in
    record {
      reads : OnlyReads before l.place (rows_in (λ cube. (goal.SharedSource-dyn g (cube.vtable, cube.value)).CubeSource.seen cube.value) l.catalogue);
      room : length l.cells ≡ 65536;
      within : l.done ≤ l.rows;
      buffer : vec_len l.buffer ≡ 65536;
      sink : NeverFalls (g.O.Sink.faults l.initial.out) (g.O.Sink.faults l.out);
      written : IfSome source.contents (λ c. Appends (g.O.Sink.written l.initial.out) (records_in l.width (take (l.done * l.sides.x) (take size (drop (l.section * size) c.cells)))) (g.O.Sink.written l.out));
    }
