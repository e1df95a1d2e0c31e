use Rattle.std.proofs.Common.{◌≡◌, ◌+◌, ◌-◌, ◌≤◌, length, arith, ◌∙◌}
use Rattle.oe_ops.specs.Slices.{at_indices}
use Rattle.oe_ops.proofs.AccumulateLemmas.{along_none, off_row, row_beside, row_fits, row_there}
use Rattle.oe_ops.proofs.FillLemmas.{length-part}
use Rattle.oe_ops.proofs.accumulate.put_row.Goals as goal

pub number_on-first-requires-clause-inside : goal.number_on-first-requires-clause-inside
number_on-first-requires-clause-inside c =
    along_none c.args.window.now (at_indices c.args.t c.args.band c.args.y c.args.window.now.x.from) (c.requires.inside 0 c.requires.row.some)

pub overflow_add-part : goal.overflow_add-part
overflow_add-part c =
    let w = c.args.window.now in
    let p = at_indices c.args.t c.args.band c.args.y w.x.from in
    let fits = row_fits w p (length c.args.cells.now) c.requires.row.some c.requires.inside in
    omega (arith, fits, c.number_on-first.ensures.value, c.requires.length)

pub slice_bounds-part-end : goal.slice_bounds-part-end
slice_bounds-part-end c =
    let w = c.args.window.now in
    let p = at_indices c.args.t c.args.band c.args.y w.x.from in
    let fits = row_fits w p (length c.args.cells.now) c.requires.row.some c.requires.inside in
    omega (arith, fits, c.number_on-first.ensures.value, c.requires.length)

pub write_sums-requires-clause-out : goal.write_sums-requires-clause-out
write_sums-requires-clause-out c =
    let w = c.args.window.now in
    let p = at_indices c.args.t c.args.band c.args.y w.x.from in
    let fits = row_fits w p (length c.args.cells.now) c.requires.row.some c.requires.inside in
    length-part c.args.out.now c.number_on-first.result (length c.args.cells.now) (omega (arith, fits, c.number_on-first.ensures.value, c.requires.length))

pub returns-clause-written : goal.returns-clause-written
returns-clause-written c = λ k lt ignore before has.
    let w = c.args.window.now in
    let p = at_indices c.args.t c.args.band c.args.y w.x.from in
    let n = length c.args.cells.now in
    let first = c.number_on-first.result in
    let fits : first + n ≤ length c.args.out.now = omega (arith, row_fits w p n c.requires.row.some c.requires.inside, c.number_on-first.ensures.value, c.requires.length) in
    let long : length c.write_sums.new.out ≡ n = c.write_sums.auto.out ∙ length-part c.args.out.now first n fits in
    row_there w c.args.out.now c.write_sums.new.out p first (first + n - first) k c.number_on-first.ensures.value (omega arith) (omega arith) (omega arith)
    ∙ c.write_sums.ensures k lt ignore before has

pub returns-clause-others : goal.returns-clause-others
returns-clause-others c = λ q h other.
    let w = c.args.window.now in
    let p = at_indices c.args.t c.args.band c.args.y w.x.from in
    let n = length c.args.cells.now in
    let first = c.number_on-first.result in
    let fits : first + n ≤ length c.args.out.now = omega (arith, row_fits w p n c.requires.row.some c.requires.inside, c.number_on-first.ensures.value, c.requires.length) in
    let long : length c.write_sums.new.out ≡ n = c.write_sums.auto.out ∙ length-part c.args.out.now first n fits in
    row_beside w c.args.out.now c.write_sums.new.out p q first (first + n - first) c.number_on-first.ensures.value (omega arith) (omega arith) (omega arith)
    (λ k lt. c.requires.inside k (omega arith)) h (off_row c.args.t c.args.band c.args.y w.x.from q other)
