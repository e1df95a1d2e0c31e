use Rattle.std.proofs.Common.{◌≡◌, ap, ◌∙◌, subst}
use Rattle.oe_cell.specs.Fraction.{Fraction}
use Rattle.oe_cell.specs.Exact.{IsExactValue}
use Rattle.oe_cell.specs.Rational.{sum_of, difference_of}
use Rattle.oe_cell.proofs.DifferenceLemmas.{difference_is}
use Rattle.oe_cell.proofs.arith.difference.Goals as goal

pub returns-clause-exact : goal.returns-clause-exact
returns-clause-exact c =
    let same : sum_of c.args.p c.negative.result ≡ difference_of c.args.p c.args.q = ap (λ (q : Fraction). sum_of c.args.p q) c.negative.ensures.value ∙ difference_is c.args.p c.args.q in
    subst (λ (r : Fraction). IsExactValue r c.sum.result) same c.sum.ensures.exact
