use Rattle.std.proofs.Common.{◌≡◌, ℤ, ◌+ℤ◌, to_z, of_z, sym, ap, ◌∙◌, arith}
use Rattle.std.specs.Int.{w128}
use Rattle.std.proofs.lemmas.Int.{ints}
use Rattle.oe_cell.specs.Exact.{cell_of_lowest}
use Rattle.oe_cell.proofs.Coprime.{IsCoprime-one}
use Rattle.oe_cell.proofs.ExactLemmas.{exact-lowest}
use Rattle.oe_cell.proofs.arith.whole_sum.Goals as goal

pub lowest-requires-clause-coprime : goal.lowest-requires-clause-coprime
lowest-requires-clause-coprime c = IsCoprime-one _

pub returns : goal.returns
returns c =
    let total : to_z w128 (of_z w128 (to_z w128 (of_z w128 c.from.result) +ℤ to_z w128 (of_z w128 c.from-2.result))) ≡ c.args.a +ℤ c.args.c = omega (arith, ints) in
    c.lowest.ensures ∙ ap (λ (z : ℤ). cell_of_lowest z 1) total ∙ sym (exact-lowest (c.args.a +ℤ c.args.c) 1 (IsCoprime-one _))
