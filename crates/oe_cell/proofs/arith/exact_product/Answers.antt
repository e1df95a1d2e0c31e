use Rattle.std.proofs.Common.{◌≡◌, sym, arith}
use Rattle.std.proofs.lemmas.Grind.{common_steps}
use Rattle.oe_cell.specs.Exact.{exact_value}
use Rattle.oe_cell.specs.Rational.{product_of}
use Rattle.oe_cell.proofs.ProductLemmas.{product-means}
use Rattle.oe_cell.proofs.arith.exact_product.Goals as goal

pub returns-then-d-eq1-clause-exact : goal.returns-then-d-eq1-clause-exact
returns-then-d-eq1-clause-exact c =
    let value : c.whole_product.result ≡ exact_value (product_of c.args.p c.args.q) = grind (arith, common_steps) in
    product-means c.args.p c.args.q c.whole_product.result c.parts-a.ensures.number c.parts-c.ensures.number (sym value)

pub returns-clause-exact : goal.returns-clause-exact
returns-clause-exact c =
    product-means c.args.p c.args.q c.fraction_product.result c.parts-a.ensures.number c.parts-c.ensures.number (sym c.fraction_product.ensures)
