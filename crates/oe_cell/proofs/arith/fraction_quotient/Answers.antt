use Rattle.std.proofs.Common.{◌≡◌, ap, ◌∙◌}
use Rattle.oe_cell.specs.Fraction.{Fraction}
use Rattle.oe_cell.specs.Exact.{exact_value}
use Rattle.oe_cell.specs.Rational.{product_of, quotient_of}
use Rattle.oe_cell.proofs.DifferenceLemmas.{quotient_is}
use Rattle.oe_cell.proofs.arith.fraction_quotient.Goals as goal

pub returns : goal.returns
returns c =
    let same : product_of c.args.p c.reciprocal.result ≡ quotient_of c.args.p c.args.q = ap (λ (q : Fraction). product_of c.args.p q) c.reciprocal.ensures.value ∙ quotient_is c.args.p c.args.q in
    c.times.ensures.value ∙ ap exact_value same
