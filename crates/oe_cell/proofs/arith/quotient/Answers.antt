use Rattle.std.proofs.Common.{◌≡◌, arith}
use Rattle.std.proofs.lemmas.Grind.{common_steps}
use borrow.Author.Differences.{ints}
use Rattle.oe_cell.specs.Exact.{exact_value}
use Rattle.oe_cell.specs.Rational.{quotient_of}
use Rattle.oe_cell.proofs.QuotientLemmas.{quotient-means}
use Rattle.oe_cell.proofs.arith.quotient.Goals as goal

pub returns-then-d-eq1-clause-exact : goal.returns-then-d-eq1-clause-exact
returns-then-d-eq1-clause-exact c =
    let value : c.whole_quotient.result ≡ exact_value (quotient_of c.args.p c.args.q) = grind (arith, common_steps) in
    quotient-means c.args.p c.args.q c.whole_quotient.result c.parts-a.ensures.number c.requires value

pub returns-clause-exact : goal.returns-clause-exact
returns-clause-exact c =
    quotient-means c.args.p c.args.q c.fraction_quotient.result c.parts-a.ensures.number c.requires c.fraction_quotient.ensures

pub returns-clause-cell : goal.returns-clause-cell
returns-clause-cell c = grind (arith, common_steps) steps 2000000

pub returns-clause-operands : goal.returns-clause-operands
returns-clause-operands c = grind (arith, common_steps) steps 2000000

pub returns-clause-value : goal.returns-clause-value
returns-clause-value c = grind (arith, common_steps) steps 2000000

pub returns-then-d-eq1-clause-cell : goal.returns-then-d-eq1-clause-cell
returns-then-d-eq1-clause-cell c = grind (arith, common_steps) steps 2000000

pub returns-then-d-eq1-clause-operands : goal.returns-then-d-eq1-clause-operands
returns-then-d-eq1-clause-operands c = grind (arith, common_steps) steps 2000000

pub returns-then-d-eq1-clause-value : goal.returns-then-d-eq1-clause-value
returns-then-d-eq1-clause-value c = grind (ints, arith, common_steps) steps 4000000
