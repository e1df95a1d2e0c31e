use Rattle.std.proofs.Common.{List, subst}
use Rattle.std.proofs.lemmas.Result.{on_err_weaker}
use Rattle.oe_cell.specs.declared.cell.Cell.{Cell}
use Rattle.oe_outside.specs.Visible.{AppendsPrefix}
use Rattle.oe_sources.proofs.PackingLemmas.{file_prefix, front_prefix}
use Rattle.oe_sources.specs.Packed.{plane_size, section_records}
use Rattle.oe_sources.proofs.packing.write_file.Goals as goal

pub returns-in-Err-clause-prefix : goal.returns-in-Err-clause-prefix
returns-in-Err-clause-prefix g c =
    front_prefix (g.O.Sink.written c.args.out.now) (g.O.Sink.written c.write.new.self) c.args.front.now
    (section_records (plane_size c.args.cube.now.shape) c.args.widths.now c.args.cube.now.cells.items) c.in-Err.ensures.prefix

pub returns-clause-prefix : goal.returns-clause-prefix
returns-clause-prefix g c =
    on_err_weaker c.write_sections.result
    (λ part. file_prefix (g.O.Sink.written c.args.out.now) (g.O.Sink.written c.write.new.self) (g.O.Sink.written c.write_sections.new.out) c.args.front.now c.section_size-size.result (plane_size c.args.cube.now.shape) c.args.widths.now c.args.cube.now.cells.items c.section_size-size.ensures c.in-Ok.ensures.appended
    (subst (λ (cells : List Cell). AppendsPrefix (g.O.Sink.written c.write.new.self) (section_records c.section_size-size.result c.args.widths.now cells) (g.O.Sink.written c.write_sections.new.out)) c.deref.ensures.value part))
    c.write_sections.ensures.prefix
