use Rattle.std.proofs.Common.{arith}
use Rattle.oe_sources.proofs.RepackLemmas.{row_number_most}
use Rattle.oe_sources.proofs.repacking.number_of_row.Goals as goal

pub returns : goal.returns
returns c =
    row_number_most c.args.section c.saturating_mul-rows.result c.args.row c.args.sides.x c.saturating_mul.result c.saturating_add.result c.saturating_mul-2.result c.args.sides.bands c.args.sides.y
    (omega (arith, c.saturating_mul-rows.ensures)) (omega (arith, rw c.from.ensures at c.saturating_mul.ensures)) (omega (arith, c.saturating_add.ensures)) (omega (arith, c.saturating_mul-2.ensures))
