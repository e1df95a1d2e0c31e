use Rattle.std.proofs.Common.{arith}
use Rattle.oe_plan.proofs.SizeLemmas.{product_most}
use Rattle.oe_plan.proofs.bound.product.Goals as goal

pub returns-clause-most : goal.returns-clause-most
returns-clause-most c =
    product_most c.from.result c.from-2.result c.from-3.result c.from-4.result
    (omega arith) (omega arith) (omega arith) (omega arith)
