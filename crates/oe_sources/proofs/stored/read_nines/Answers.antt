use Rattle.std.proofs.Common.{◌≤◌, length, take, arith}
use Rattle.oe_sources.proofs.StoredLemmas.{number_stop, numbers_of_kind, numbers_stored}
use Rattle.oe_wide.specs.Wide.{part_at}
use Rattle.oe_wide.specs.declared.width.Width.TheVariants.{Nine}
use Rattle.oe_sources.proofs.stored.read_nines.Goals as goal

pub returns-in-Numbers-clause-read : goal.returns-in-Numbers-clause-read
returns-in-Numbers-clause-read c =
    let room : c.read_numbers.result ≤ length c.read_numbers.new.into = omega (arith, c.read_numbers.ensures.room, c.read_numbers.auto.into) in
    numbers_stored c.args.kind c.args.bytes.now c.read_numbers.new.into c.read_numbers.result c.in-Numbers.is room c.read_numbers.ensures.read c.read_numbers.ensures.numeric

pub returns-in-Numbers-clause-of_kind : goal.returns-in-Numbers-clause-of_kind
returns-in-Numbers-clause-of_kind c =
    numbers_of_kind c.args.kind c.args.bytes.now (take c.read_numbers.result c.read_numbers.new.into) c.in-Numbers.is c.read_numbers.ensures.read c.read_numbers.ensures.numeric

pub returns-in-Numbers-clause-stop : goal.returns-in-Numbers-clause-stop
returns-in-Numbers-clause-stop c below =
    number_stop c.args.kind (part_at Nine c.args.bytes.now c.read_numbers.result) c.in-Numbers.is (c.read_numbers.ensures.stop below)

pub returns-in-Flags-clause-read : goal.returns-in-Flags-clause-read
returns-in-Flags-clause-read c = c.read_of_kind.ensures.read

pub returns-in-Flags-clause-stop : goal.returns-in-Flags-clause-stop
returns-in-Flags-clause-stop c = c.read_of_kind.ensures.stop
