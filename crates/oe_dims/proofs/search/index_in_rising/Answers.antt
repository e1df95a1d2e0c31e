use Rattle.std.proofs.Common.{ap, sym, arith, rules, get_or, pos, FitsSigned, w64, of_z}
use Rattle.std.proofs.lemmas.Int.{to_z-of_z}
use Rattle.oe_dims.proofs.RunLemmas.{found_rising, absent_rising, same_bits}
use Rattle.oe_dims.proofs.search.index_in_rising.Goals as goal
use Rattle.oe_dims.proofs.search.index_in_rising.Goals.{else-index-labels-via-then-index-labels+else-labels-index, else-index-labels-via-else-index-labels}

pub returns-then-labels-index : goal.returns-then-labels-index
returns-then-labels-index c =
    let fits : FitsSigned w64 c.args.label = c.ranges.label in
    let point = simp to_z-of_z at c.count_below-index.ensures.point in
    let here : FitsSigned w64 (get_or c.args.labels.now c.count_below-index.result (pos 0)) = search rules in
    sym (found_rising c.args.labels.now c.args.label c.count_below-index.result (pos 0) point (omega arith) (same_bits _ _ here fits c.if-labels-index.true))

pub returns-else-index-labels : goal.returns-else-index-labels
returns-else-index-labels c =
    let fits : FitsSigned w64 c.args.label = c.ranges.label in
    let point = simp to_z-of_z at c.count_below-index.ensures.point in
    sym (absent_rising c.args.labels.now c.args.label c.count_below-index.result (pos 0) c.requires point
    (λ within same. elim c.else-index-labels.branch [
      | else-index-labels-via-then-index-labels+else-labels-index w ↦ w.if-labels-index.false (ap (of_z w64) same)
      | else-index-labels-via-else-index-labels w ↦ omega (arith, w.if-index-labels.false)
    ]))
