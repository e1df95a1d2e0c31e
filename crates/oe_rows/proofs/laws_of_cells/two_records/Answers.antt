use Rattle.std.proofs.Common.{arith}
use Rattle.oe_rows.proofs.laws_of_cells.two_records.Goals as goal

pub returns : goal.returns
returns c = c.write_records.ensures.each 1 (omega arith)
