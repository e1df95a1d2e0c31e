use Rattle.std.proofs.Common.{length, ap, arith}
use Rattle.oe_sources.proofs.HeadSizes.{packed_short}
use Rattle.oe_sources.proofs.head.front_bytes.Goals as goal

pub overflow_cast-count : goal.overflow_cast-count
overflow_cast-count c =
    let short = packed_short c.args.id.now c.args.shape.now c.args.kind c.args.widths.now c.requires.id c.requires.shape c.requires.widths in
    omega (arith, short, ap length c.in_ok-header.ensures, c.len-count.ensures, c.in_ok-header.header.ok)
