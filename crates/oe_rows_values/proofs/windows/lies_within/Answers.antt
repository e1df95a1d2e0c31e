use Rattle.std.proofs.Common.{arith}
use Rattle.oe_rows_values.proofs.windows.lies_within.Goals as goal

pub returns-clause-few : goal.returns-clause-few
returns-clause-few c = λ holds.
    let fewer = c.holds.ensures.fewer (c.holds.ensures.value.0 holds) in
    omega (arith, fewer, c.whole.ensures.count, c.cells.ensures.value, c.cells.ensures.most)
