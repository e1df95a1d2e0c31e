use Rattle.std.proofs.Common.{arith}
use Rattle.std.proofs.lemmas.Int.{to_z-of_z}
use Rattle.oe_cell.proofs.NumberLemmas.{IsNumber-tested, IsNumber-one}
use Rattle.oe_cell.proofs.frac.is_number.Goals as goal

pub returns-then-den-eq1 : goal.returns-then-den-eq1
returns-then-den-eq1 c =
    IsNumber-one c.args.num c.args.den c.unsigned_abs-size.result (search (arith, to_z-of_z, c.unsigned_abs-size.ensures.value)) (omega arith) c.if-den-eq1.true

pub returns : goal.returns
returns c =
    IsNumber-tested c.args.num c.args.den c.unsigned_abs-size.result c.gcd.result (search (arith, to_z-of_z, c.unsigned_abs-size.ensures.value)) (omega arith) (omega arith) (omega arith) c.gcd.ensures.gcd
