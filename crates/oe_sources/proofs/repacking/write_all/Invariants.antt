use Rattle.std.proofs.Common.{◌≡◌, length, take, vec_len, IfSome}
use Rattle.oe_outside.specs.Faults.{NeverFalls}
use Rattle.oe_outside.specs.Visible.{Appends}
use Rattle.oe_sources.specs.Catalogue.{OnlyReads, source_at}
use Rattle.oe_sources.specs.CatalogueRows.{rows_in}
use Rattle.oe_sources.specs.Packed.{plane_size, section_records}
use Rattle.oe_sources.proofs.repacking.write_all.Given as goal

abbrev pub invariant-loop-section : goal.invariant-loop-section
invariant-loop-section g l =
    let before = rows_in (λ cube. (goal.SharedSource-dyn g (cube.vtable, cube.value)).CubeSource.seen cube.value) l.fn.catalogue in
    let source = source_at before l.place in
    record {
      reads : OnlyReads before l.place (rows_in (λ cube. (goal.SharedSource-dyn g (cube.vtable, cube.value)).CubeSource.seen cube.value) l.catalogue);
      room : length l.cells ≡ 65536;
      buffer : vec_len l.buffer ≡ 65536;
      sink : NeverFalls (g.O.Sink.faults l.initial.out) (g.O.Sink.faults l.out);
      written : IfSome source.contents (λ c. Appends (g.O.Sink.written l.initial.out) (section_records (plane_size source.shape) (take l.section l.widths) c.cells) (g.O.Sink.written l.out));
    }
