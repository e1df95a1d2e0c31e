use Rattle.oe_wide.specs.declared.width.Width.TheVariants.{One, Nine, Seventeen}
use Rattle.oe_wide.proofs.RowLemmas.{have_written}
use Rattle.oe_wide.proofs.records.write_row.Goals as goal

pub returns-in-One-clause-each : goal.returns-in-One-clause-each
returns-in-One-clause-each c valid =
    have_written c.args.width One c.write_ones.new.into c.args.cells.now c.in-One.is c.requires.fit c.write_ones.ensures valid

pub returns-in-Nine-clause-each : goal.returns-in-Nine-clause-each
returns-in-Nine-clause-each c valid =
    have_written c.args.width Nine c.write_nines.new.into c.args.cells.now c.in-Nine.is c.requires.fit c.write_nines.ensures valid

pub returns-in-Seventeen-clause-each : goal.returns-in-Seventeen-clause-each
returns-in-Seventeen-clause-each c valid =
    have_written c.args.width Seventeen c.write_records.new.into c.args.cells.now c.in-Seventeen.is c.requires.fit c.write_records.ensures.records valid
