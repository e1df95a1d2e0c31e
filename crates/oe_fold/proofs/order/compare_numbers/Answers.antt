use Rattle.std.proofs.Common.{◌≡◌, ◌∙◌, sym}
use Rattle.std.specs.Ordering.{int_cmp}
use Rattle.oe_cell.proofs.NumberLemmas.{num_read}
use Rattle.oe_fold.proofs.OrderLemmas.{compare_of-same_den}
use Rattle.oe_fold.proofs.order.compare_numbers.Goals as goal

pub returns-then-den-clause-value : goal.returns-then-den-clause-value
returns-then-den-clause-value c =
    let p = c.args.p in
    let q = c.args.q in
    let left = num_read c.num.result p.num c.num.ensures.value c.num.ensures.number.num_fits in
    let right = num_read c.num-then-den.result q.num c.num-then-den.ensures.value c.num-then-den.ensures.number.num_fits in
    let same : p.den ≡ q.den = sym c.den.ensures.value ∙ c.if-den.true ∙ c.den-2.ensures.value in
    let read : c.cmp.result ≡ int_cmp p.num q.num = simp (left, right) at c.cmp.ensures in
    read ∙ compare_of-same_den p q c.den.ensures.number.den_positive same
