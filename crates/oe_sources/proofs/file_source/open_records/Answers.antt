use Rattle.std.proofs.Common.{arith}
use Rattle.oe_sources.specs.Head.{section_size, section_widths}
use Rattle.oe_sources.proofs.PieceLemmas.{front_few}
use Rattle.oe_sources.proofs.SizeLemmas.{bytes_few, sections_few}
use Rattle.oe_sources.proofs.file_source.open_records.Goals as goal

pub overflow_add-base : goal.overflow_add-base
overflow_add-base c =
    let head = c.args.head in
    let s = c.in-Ok.ensures in
    omega (arith, c.bytes.ensures, s.starts_are.end_is, bytes_few (section_size head) (section_widths head) (section_widths head) (omega arith) (sections_few head c.requires.valid), front_few head c.requires.valid, c.requires.base)
