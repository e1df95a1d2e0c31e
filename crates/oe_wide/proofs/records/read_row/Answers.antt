use Rattle.std.proofs.Common.{take, length, ◌∙◌, arith}
use Rattle.oe_wide.specs.declared.width.Width.TheVariants.{One, Nine, Seventeen}
use Rattle.oe_wide.proofs.RowLemmas.{have_in, from_records_of}
use Rattle.oe_wide.proofs.records.read_row.Goals as goal

pub returns-in-One-clause-read : goal.returns-in-One-clause-read
returns-in-One-clause-read c =
    have_in c.args.width One c.args.bytes.now (take c.read_ones.result c.read_ones.new.into) c.in-One.is c.read_ones.ensures.read

pub returns-in-Nine-clause-read : goal.returns-in-Nine-clause-read
returns-in-Nine-clause-read c =
    have_in c.args.width Nine c.args.bytes.now (take c.read_nines.result c.read_nines.new.into) c.in-Nine.is c.read_nines.ensures.read

pub returns-in-Seventeen-clause-read : goal.returns-in-Seventeen-clause-read
returns-in-Seventeen-clause-read c =
    have_in c.args.width Seventeen c.args.bytes.now (take c.read_records.result c.read_records.new.into) c.in-Seventeen.is
    (from_records_of c.args.bytes.now c.read_records.new.into c.read_records.result (omega (arith, c.read_records.ensures.room, c.read_records.auto.into)) c.read_records.ensures.cells c.read_records.ensures.read)
