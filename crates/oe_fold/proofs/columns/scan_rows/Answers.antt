use Rattle.std.proofs.Common.{ℕ, ◌+◌, ◌*◌, ◌≤◌, length, arith}
use Rattle.oe_fold.proofs.ColumnLemmas.{row_ends, length-row, tally_after_row, known_after_row, count_after_row}
use Rattle.oe_fold.proofs.columns.scan_rows.Goals as goal

pub loop-t-preserved : goal.loop-t-preserved
loop-t-preserved c =
    let cells = c.args.cells.now in
    let t : ℕ = c.loop-t.t in
    let within : t * c.args.stride + c.args.from + c.args.n ≤ length cells =
    (let ends : t * c.args.stride + (c.args.from + c.args.n) ≤ length cells = row_ends t c.args.count c.args.stride (c.args.from + c.args.n) (length cells) c.loop-t-test.true (c.requires.columns.rows (omega (arith, c.loop-t-test.true))) in omega (arith, ends)) in
    let long = length-row cells c.args.stride t c.args.from c.args.n within in
    record {
      tally = λ k h. tally_after_row cells c.args.stride t c.args.from c.args.n within c.args.reducer c.skips_nulls-skips.result k _ _ h (c.push_row.ensures.value k (omega (arith, long))) (c.loop-t.invariant.tally k h);
      known = λ k h. known_after_row cells c.args.stride t c.args.from c.args.n within k h c.push_row.ensures.known (c.loop-t.invariant.known k h);
      few = λ k h. count_after_row cells c.args.stride t c.args.from c.args.n within c.args.reducer c.skips_nulls-skips.result _ _ _ (c.push_row.ensures.value k (omega (arith, long))) (c.loop-t.invariant.few k h);
    }
