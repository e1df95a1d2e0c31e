use Rattle.std.proofs.Common.{pos, sym, arith, FitsSigned, w64}
use Rattle.std.proofs.lemmas.Int.{ints, to_z-of_z}
use Rattle.oe_dims.specs.Indices.{same_number}
use Rattle.oe_dims.proofs.IndexLemmas.{index_where_found, index_where_none}
use Rattle.oe_expr.proofs.labels.number_index.Goals as goal

pub returns-then-numbers-index : goal.returns-then-numbers-index
returns-then-numbers-index c =
    let fits : FitsSigned w64 c.args.label = c.ranges.label in
    let before = simp to_z-of_z at c.loop-index.invariant in
    sym (index_where_found (same_number c.args.label) c.args.numbers.now c.loop-index.index (pos 0) c.loop-index-test.true before
    (grind (arith, ints, to_z-of_z)))

pub returns : goal.returns
returns c =
    let fits : FitsSigned w64 c.args.label = c.ranges.label in
    let before = simp to_z-of_z at c.loop-index.invariant in
    sym (index_where_none (same_number c.args.label) c.args.numbers.now (pos 0) (λ k h. before k (omega arith)))
