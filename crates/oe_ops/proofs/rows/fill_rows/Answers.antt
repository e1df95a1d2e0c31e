use Rattle.std.proofs.Common.{◌≡◌, ℕ, ◌+◌, ◌*◌, ◌/◌, ◌<◌, ◌≤◌, length, ap, arith}
use Rattle.std.proofs.lemmas.Nat.{mul-le}
use Rattle.std.proofs.lemmas.Grind.{common_steps}
use Rattle.oe_window.specs.Windows.{IsIn, number_in, position_count}
use Rattle.oe_ops.specs.Slices.{at_indices, along_x}
use Rattle.oe_ops.proofs.FillLemmas.{row_at, all_rows, length-part, row_written, all_written}
use Rattle.oe_ops.proofs.rows.fill_rows.Goals as goal

pub index_after-t-requires : goal.index_after-t-requires
index_after-t-requires g c =
    let some : 0 < position_count c.args.window.now = omega (arith, c.requires.some, c.requires.counted) in
    let below : c.loop-number.number < position_count c.args.window.now / c.indices-width.result = omega (arith, ap (λ n. n / c.indices-width.result) c.requires.counted) in
    let row = row_at c.args.window.now c.loop-number.number c.indices-bands.result c.indices-lines.result c.indices-width.result c.indices-bands.ensures c.indices-lines.ensures c.indices-width.ensures some below in
    row.t

pub row-requires-clause-serves : goal.row-requires-clause-serves
row-requires-clause-serves g c = λ i h.
    let some : 0 < position_count c.args.window.now = omega (arith, c.requires.some, c.requires.counted) in
    let below : c.loop-number.number < position_count c.args.window.now / c.indices-width.result = omega (arith, ap (λ n. n / c.indices-width.result) c.requires.counted) in
    let row = row_at c.args.window.now c.loop-number.number c.indices-bands.result c.indices-lines.result c.indices-width.result c.indices-bands.ensures c.indices-lines.ensures c.indices-width.ensures some below in
    let part = length-part c.loop-number.out (c.loop-number.number * c.indices-width.result) c.indices-width.result (omega (arith, row.ends, c.requires.counted)) in
    let inside : (k : ℕ) → k < c.indices-width.result → IsIn c.args.window.now (along_x (at_indices c.index_after-t.result c.index_after-band.result c.index_after-y.result c.args.window.now.x.from) k) = rw (c.index_after-t.ensures, c.index_after-band.ensures, c.index_after-y.ensures) row.inside in
    c.requires.serves _ (inside i (omega arith))

pub loop-number-preserved : goal.loop-number-preserved
loop-number-preserved g c =
    let some : 0 < position_count c.args.window.now = omega (arith, c.requires.some, c.requires.counted) in
    let below : c.loop-number.number < position_count c.args.window.now / c.indices-width.result = omega (arith, ap (λ n. n / c.indices-width.result) c.requires.counted) in
    let row = row_at c.args.window.now c.loop-number.number c.indices-bands.result c.indices-lines.result c.indices-width.result c.indices-bands.ensures c.indices-lines.ensures c.indices-width.ensures some below in
    let fits : c.loop-number.number * c.indices-width.result + c.indices-width.result ≤ length c.loop-number.out = omega (arith, row.ends, c.requires.counted) in
    let part = length-part c.loop-number.out (c.loop-number.number * c.indices-width.result) c.indices-width.result fits in
    let long : length c.row.new.out ≡ c.indices-width.result = omega (arith, part) in
    let inside : (k : ℕ) → k < c.indices-width.result → IsIn c.args.window.now (along_x (at_indices c.index_after-t.result c.index_after-band.result c.index_after-y.result c.args.window.now.x.from) k) = rw (c.index_after-t.ensures, c.index_after-band.ensures, c.index_after-y.ensures) row.inside in
    let number : (k : ℕ) → k < c.indices-width.result → number_in c.args.window.now (along_x (at_indices c.index_after-t.result c.index_after-band.result c.index_after-y.result c.args.window.now.x.from) k) ≡ c.loop-number.number * c.indices-width.result + k = rw (c.index_after-t.ensures, c.index_after-band.ensures, c.index_after-y.ensures) row.number in
    row_written (g.R.Rows.cell c.args.rows.now) c.args.window.now c.loop-number.number c.indices-width.result c.loop-number.out c.row.new.out (at_indices c.index_after-t.result c.index_after-band.result c.index_after-y.result c.args.window.now.x.from) fits long inside number c.loop-number.invariant (λ i h. c.row.ensures i (omega (arith, part)))

pub returns : goal.returns
returns g c =
    let some : 0 < position_count c.args.window.now = omega (arith, c.requires.some, c.requires.counted) in
    let all = all_rows c.args.window.now c.indices-width.result c.indices-width.ensures some in
    let rows : position_count c.args.window.now / c.indices-width.result ≤ c.loop-number.number = omega (arith, ap (λ n. n / c.indices-width.result) c.requires.counted) in
    let product = mul-le (position_count c.args.window.now / c.indices-width.result) c.indices-width.result c.loop-number.number c.indices-width.result rows (omega arith) in
    all_written (g.R.Rows.cell c.args.rows.now) c.args.window.now c.loop-number.out (c.loop-number.number * c.indices-width.result) (omega (arith, c.requires.counted)) (omega (arith, all, product)) c.loop-number.invariant

pub index_after-band-requires : goal.index_after-band-requires
index_after-band-requires g c = grind (arith, common_steps) steps 2000000

pub nonzero_div-number : goal.nonzero_div-number
nonzero_div-number g c = grind (arith, common_steps) steps 2000000

pub nonzero_div-number-in-loop-number : goal.nonzero_div-number-in-loop-number
nonzero_div-number-in-loop-number g c = grind (arith, common_steps) steps 2000000

pub nonzero_rem-number : goal.nonzero_rem-number
nonzero_rem-number g c = grind (arith, common_steps) steps 2000000
