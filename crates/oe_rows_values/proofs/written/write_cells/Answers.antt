use Rattle.std.proofs.Common.{subst, arith}
use Rattle.oe_window.specs.Windows.{IsIn}
use Rattle.oe_rows_values.proofs.written.write_cells.Goals as goal

pub size-requires : goal.size-requires
size-requires c =
    let fewer = c.holds.ensures.fewer (c.holds.ensures.value.0 c.if-not-holds.false) in
    omega (arith, c.whole.ensures.count, c.cells.ensures.value, c.cells.ensures.most)

pub least_over-over-requires-clause-within : goal.least_over-over-requires-clause-within
least_over-over-requires-clause-within c p h =
    subst (λ w. IsIn w p) c.whole.ensures.value (c.holds.ensures.value.0 c.if-not-holds.false p h)

pub write_window-outcome-requires-clause-within : goal.write_window-outcome-requires-clause-within
write_window-outcome-requires-clause-within c p h =
    subst (λ w. IsIn w p) c.whole.ensures.value (c.holds.ensures.value.0 c.if-not-holds.false p h)
