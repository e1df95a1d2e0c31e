use Rattle.oe_sources.proofs.StoredLemmas.{stored_in, stopped_in}
use Rattle.oe_wide.specs.declared.width.Width.TheVariants.{Nine}
use Rattle.oe_sources.proofs.stored.read_stored.Goals as goal

pub returns-in-Nine-clause-read : goal.returns-in-Nine-clause-read
returns-in-Nine-clause-read c =
    stored_in c.args.width Nine c.args.kind c.args.bytes.now c.read_nines.new.into c.read_nines.result c.in-Nine.is c.read_nines.ensures.read

pub returns-in-Nine-clause-stop : goal.returns-in-Nine-clause-stop
returns-in-Nine-clause-stop c below =
    stopped_in c.args.width Nine c.args.kind c.args.bytes.now c.read_nines.result c.in-Nine.is (c.read_nines.ensures.stop below)

pub returns-in_default-clause-read : goal.returns-in_default-clause-read
returns-in_default-clause-read c = c.read_of_kind.ensures.read

pub returns-in_default-clause-stop : goal.returns-in_default-clause-stop
returns-in_default-clause-stop c = c.read_of_kind.ensures.stop
