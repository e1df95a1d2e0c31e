use Rattle.std.proofs.Common.{rules}
use Rattle.oe_cell.specs.Fraction.{IsNumber}
use Rattle.oe_cell.proofs.OrderLemmas.{is_eq-compare_of}
use Rattle.oe_cell.proofs.order.is_equal.Goals as goal

pub returns-clause-value : goal.returns-clause-value
returns-clause-value c =
    let left : IsNumber c.args.x = search rules in
    let right : IsNumber c.args.y = search rules in
    is_eq-compare_of c.args.x c.args.y c.is_same.result left right c.is_same.ensures.0 c.is_same.ensures.1
