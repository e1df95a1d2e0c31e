use Rattle.std.proofs.Common.{◌≡◌, ◌*ℤ◌, w64, ℤ, FitsSigned, to_z, of_z, sym, ap, ◌∙◌, rules}
use Rattle.std.specs.Int.{w128}
use Rattle.std.proofs.lemmas.Int.{to_z-of_z}
use Rattle.oe_cell.specs.Exact.{cell_of_lowest}
use Rattle.oe_cell.proofs.Coprime.{IsCoprime-one}
use Rattle.oe_cell.proofs.ExactLemmas.{exact-lowest}
use Rattle.oe_cell.proofs.arith.whole_product.Goals as goal

pub lowest-requires-clause-coprime : goal.lowest-requires-clause-coprime
lowest-requires-clause-coprime c = IsCoprime-one _

pub returns : goal.returns
returns c =
    let fits : FitsSigned w128 c.product.result = search rules in
    let a : to_z w64 (of_z w64 c.args.a) ≡ c.args.a = to_z-of_z w64 c.args.a c.ranges.a in
    let by : to_z w64 (of_z w64 c.args.c) ≡ c.args.c = to_z-of_z w64 c.args.c c.ranges.c in
    let value : to_z w128 (of_z w128 c.product.result) ≡ c.args.a *ℤ c.args.c = to_z-of_z w128 c.product.result fits ∙ c.product.ensures.value ∙ ap (λ (z : ℤ). z *ℤ to_z w64 (of_z w64 c.args.c)) a ∙ ap (λ (z : ℤ). c.args.a *ℤ z) by in
    c.lowest.ensures ∙ ap (λ (z : ℤ). cell_of_lowest z 1) value ∙ sym (exact-lowest (c.args.a *ℤ c.args.c) 1 (IsCoprime-one _))
