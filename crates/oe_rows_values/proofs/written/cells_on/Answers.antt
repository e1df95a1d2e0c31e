use Rattle.std.proofs.Common.{subst, arith}
use Rattle.oe_window.specs.Windows.{IsIn}
use Rattle.oe_rows_values.proofs.written.cells_on.Goals as goal

pub size-requires : goal.size-requires
size-requires c =
    let fewer = c.holds.ensures.fewer (c.holds.ensures.value.0 c.if-not-holds.false) in
    omega (arith, c.whole.ensures.count, c.cells-count.ensures.value, c.cells-count.ensures.most)

pub copy_window-requires-clause-inside : goal.copy_window-requires-clause-inside
copy_window-requires-clause-inside c p h =
    subst (λ w. IsIn w p) c.whole.ensures.value (c.holds.ensures.value.0 c.if-not-holds.false p h)
