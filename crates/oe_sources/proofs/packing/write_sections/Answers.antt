use Rattle.std.proofs.Common.{arith}
use Rattle.oe_outside.proofs.Causes.{NeverFalls-trans}
use Rattle.oe_sources.proofs.PackingLemmas.{part_fits, records_more, records_prefix}
use Rattle.oe_wide.specs.declared.width.Width.TheVariants.{One}
use Rattle.oe_sources.proofs.packing.write_sections.Goals as goal

pub write_section-requires-clause-fit : goal.write_section-requires-clause-fit
write_section-requires-clause-fit g c =
    part_fits c.args.size c.args.widths.now c.args.cells.now c.section_cells-part.result.now c.loop-section.section One c.requires.least (omega (arith, c.loop-section-test.true)) c.section_cells-part.ensures

pub loop-section-preserved : goal.loop-section-preserved
loop-section-preserved g c = record {
  written = records_more (g.O.Sink.written c.args.out.now) (g.O.Sink.written c.loop-section.out) (g.O.Sink.written c.write_section.new.out) c.args.size c.args.widths.now c.args.cells.now c.section_cells-part.result.now c.loop-section.section One (omega (arith, c.loop-section-test.true)) c.section_cells-part.ensures c.loop-section.invariant.written c.in-Ok.ensures.appended;
  room = c.write_section.ensures.kept;
  falls = NeverFalls-trans c.loop-section.invariant.falls c.write_section.ensures.cause.count;
}

pub returns-in-Err-clause-prefix : goal.returns-in-Err-clause-prefix
returns-in-Err-clause-prefix g c =
    records_prefix (g.O.Sink.written c.args.out.now) (g.O.Sink.written c.loop-section.out) (g.O.Sink.written c.write_section.new.out) c.args.size c.args.widths.now c.args.cells.now c.section_cells-part.result.now c.loop-section.section One (omega (arith, c.loop-section-test.true)) c.section_cells-part.ensures c.loop-section.invariant.written c.in-Err.ensures.prefix
