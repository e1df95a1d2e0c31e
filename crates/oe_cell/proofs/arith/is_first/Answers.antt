use Rattle.std.proofs.Common.{◌∙◌, sym, ap, w64, to_z, arith}
use Rattle.oe_cell.proofs.NumberLemmas.{num_read}
use Rattle.oe_cell.proofs.ProductLemmas.{product-zero, product-one}
use Rattle.oe_cell.proofs.arith.is_first.Goals as goal

pub returns-then-a-eq0-clause-value : goal.returns-then-a-eq0-clause-value
returns-then-a-eq0-clause-value c = λ holds.
    let read = num_read c.parts-a.result.0 c.args.p.num c.parts-a.ensures.num c.parts-a.ensures.number.num_fits in
    product-zero c.args.p c.args.q c.parts-a.ensures.number c.parts-c.ensures.number (sym read ∙ ap (to_z w64) c.if-a-eq0.true)

pub returns-then-c-eq1-clause-value : goal.returns-then-c-eq1-clause-value
returns-then-c-eq1-clause-value c = λ holds.
    let read = num_read c.parts-c.result.0 c.args.q.num c.parts-c.ensures.num c.parts-c.ensures.number.num_fits in
    product-one c.args.p c.args.q c.parts-a.ensures.number c.parts-c.ensures.number (sym read ∙ ap (to_z w64) c.if-c-eq1.true) (grind (arith, holds))
