use Rattle.std.proofs.Common.{◌≡◌, length, IfSome}
use Rattle.oe_sources.specs.Catalogue.{OnlyReads, source_at}
use Rattle.oe_sources.specs.CatalogueRows.{rows_in}
use Rattle.oe_sources.proofs.RepackLemmas.{AreFirstWidths}
use Rattle.oe_sources.proofs.repacking.find_widths.Given as goal

abbrev pub invariant-loop-section : goal.invariant-loop-section
invariant-loop-section g l =
    let before = rows_in (λ cube. (goal.SharedSource-dyn g (cube.vtable, cube.value)).CubeSource.seen cube.value) l.fn.catalogue in
    let source = source_at before l.place in
    record {
      reads : OnlyReads before l.place (rows_in (λ cube. (goal.SharedSource-dyn g (cube.vtable, cube.value)).CubeSource.seen cube.value) l.catalogue);
      room : length l.cells ≡ 65536;
      counted : length l.widths.items ≡ l.section;
      widths : IfSome source.contents (λ c. AreFirstWidths source.shape c l.section l.widths.items);
    }
