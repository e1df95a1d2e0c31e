use Rattle.std.proofs.Common.{◌≡◌, ◌*◌, ◌+◌, ◌<◌, ◌≤◌, ◌∙◌, arith, length, subst, sym}
use Rattle.std.specs.List.{All}
use Rattle.std.proofs.lemmas.Grind.{common_steps}
use borrow.Author.Differences.{ints}
use Rattle.oe_cell.specs.declared.cell.Cell.TheVariants.{Empty}
use Rattle.oe_cube.specs.Kinds.{IsOfKind}
use Rattle.oe_dims.specs.declared.kind.Kind.TheVariants.{Time}
use Rattle.oe_expr.specs.Callback.{callback_kind}
use Rattle.oe_meanings.specs.Meaning.{aggregated}
use Rattle.oe_window.specs.Cells.{cells_on}
use Rattle.oe_window.specs.Windows.{position_count, span_length, whole_window}
use Rattle.oe_window.proofs.CellLemmas.{length-cells_on}
use Rattle.oe_ops.specs.Needs.{HasLabelsBeside}
use Rattle.oe_ops.proofs.DateLemmas.{all_done, area_some, date_cells, date_need, date_within, front_all, front_fits, is_date, none_fit, none_so_far, part_written}
use Rattle.oe_ops.proofs.FillLemmas.{length-part}
use Rattle.oe_ops.proofs.aggregate.eval_intervals.Goals as goal

pub loop-number-init : goal.loop-number-init
loop-number-init c = record {
  value = λ cube whole same on. none_so_far c.stride_along-area.result c.args.out.now (cells_on Empty (aggregated c.args.intervals.now c.args.expr.now cube) c.args.window.now);
  kinds = none_fit (IsOfKind (callback_kind c.args.expr.now)) c.stride_along-area.result c.args.out.now;
}

pub overflow_add-first : goal.overflow_add-first
overflow_add-first c =
    let w = c.args.window.now in
    let n = c.loop-number.number in
    let area = c.stride_along-area.result in
    let date = is_date w c.window_at-part.result n c.index_after.result area (omega (arith, c.loop-number-test.true, c.indices-number-end.ensures)) c.stride_along-area.ensures c.index_after.ensures c.window_at-part.ensures in
    omega (arith, date.ends, c.requires.out.counted, c.loop-number.auto.out)

pub slice_bounds-eval_interval-end : goal.slice_bounds-eval_interval-end
slice_bounds-eval_interval-end c =
    let w = c.args.window.now in
    let n = c.loop-number.number in
    let area = c.stride_along-area.result in
    let date = is_date w c.window_at-part.result n c.index_after.result area (omega (arith, c.loop-number-test.true, c.indices-number-end.ensures)) c.stride_along-area.ensures c.index_after.ensures c.window_at-part.ensures in
    omega (arith, date.ends, c.requires.out.counted, c.loop-number.auto.out)

pub eval_interval-requires-clause-one : goal.eval_interval-requires-clause-one
eval_interval-requires-clause-one c =
    let w = c.args.window.now in
    let n = c.loop-number.number in
    let area = c.stride_along-area.result in
    let date = is_date w c.window_at-part.result n c.index_after.result area (omega (arith, c.loop-number-test.true, c.indices-number-end.ensures)) c.stride_along-area.ensures c.index_after.ensures c.window_at-part.ensures in
    date.one

pub eval_interval-requires-clause-slice : goal.eval_interval-requires-clause-slice
eval_interval-requires-clause-slice c =
    let w = c.args.window.now in
    let n = c.loop-number.number in
    let area = c.stride_along-area.result in
    let date = is_date w c.window_at-part.result n c.index_after.result area (omega (arith, c.loop-number-test.true, c.indices-number-end.ensures)) c.stride_along-area.ensures c.index_after.ensures c.window_at-part.ensures in
    record {
      valid = c.requires.slice.valid;
      counted = c.requires.slice.counted;
      need = date_need (HasLabelsBeside Time c.args.shape.now c.args.argument.now) w c.window_at-part.result c.args.slice.window n area date c.requires.slice.need;
    }

pub eval_interval-requires-clause-out : goal.eval_interval-requires-clause-out
eval_interval-requires-clause-out c =
    let w = c.args.window.now in
    let n = c.loop-number.number in
    let area = c.stride_along-area.result in
    let date = is_date w c.window_at-part.result n c.index_after.result area (omega (arith, c.loop-number-test.true, c.indices-number-end.ensures)) c.stride_along-area.ensures c.index_after.ensures c.window_at-part.ensures in
    let fits : n * area + area ≤ length c.loop-number.out = omega (arith, date.ends, c.requires.out.counted, c.loop-number.auto.out) in
    record {
      within = date_within (whole_window c.args.shape.now) w c.window_at-part.result n area date c.requires.out.within;
      counted = length-part c.loop-number.out (n * area) area fits ∙ sym date.size;
    }

pub eval_interval-requires-clause-some : goal.eval_interval-requires-clause-some
eval_interval-requires-clause-some c =
    let w = c.args.window.now in
    let n = c.loop-number.number in
    let area = c.stride_along-area.result in
    let date = is_date w c.window_at-part.result n c.index_after.result area (omega (arith, c.loop-number-test.true, c.indices-number-end.ensures)) c.stride_along-area.ensures c.index_after.ensures c.window_at-part.ensures in
    let fits : n * area + area ≤ length c.loop-number.out = omega (arith, date.ends, c.requires.out.counted, c.loop-number.auto.out) in
    let more : 0 < position_count w = omega (arith, c.requires.some, c.requires.out.counted) in
    let some = area_some w area more c.stride_along-area.ensures in
    let long = length-part c.loop-number.out (n * area) area fits in
    omega (arith, some, long)

pub loop-number-preserved : goal.loop-number-preserved
loop-number-preserved c =
    let w = c.args.window.now in
    let n = c.loop-number.number in
    let area = c.stride_along-area.result in
    let date = is_date w c.window_at-part.result n c.index_after.result area (omega (arith, c.loop-number-test.true, c.indices-number-end.ensures)) c.stride_along-area.ensures c.index_after.ensures c.window_at-part.ensures in
    let fits : n * area + area ≤ length c.loop-number.out = omega (arith, date.ends, c.requires.out.counted, c.loop-number.auto.out) in
    let size = length-part c.loop-number.out (n * area) area fits in
    let long : length c.eval_interval.new.out ≡ area = omega (arith, size, c.eval_interval.auto.out) in
    record {
      value = λ cube whole same on.
          let all = cells_on Empty (aggregated c.args.intervals.now c.args.expr.now cube) w in
          let inside : n * area + area ≤ length all = omega (arith, date.ends, length-cells_on Empty (aggregated c.args.intervals.now c.args.expr.now cube) w) in
          part_written n area c.loop-number.out c.eval_interval.new.out all fits inside long
          (c.eval_interval.ensures.value cube whole same on ∙ date_cells (aggregated c.args.intervals.now c.args.expr.now cube) w c.window_at-part.result n area date)
          (c.loop-number.invariant.value cube whole same on);
      kinds = front_fits (IsOfKind (callback_kind c.args.expr.now)) n area c.loop-number.out c.eval_interval.new.out fits long c.loop-number.invariant.kinds c.eval_interval.ensures.kinds;
    }

pub returns-clause-value : goal.returns-clause-value
returns-clause-value c = λ cube whole same on.
    let w = c.args.window.now in
    let all = cells_on Empty (aggregated c.args.intervals.now c.args.expr.now cube) w in
    let ended : c.loop-number.number ≡ span_length w.t = omega (arith, c.loop-number-test.false, c.indices-number-end.ensures, c.loop-number.auto.number-end) in
    let done = all_done w c.loop-number.number c.stride_along-area.result ended c.stride_along-area.ensures in
    sym (front_all c.loop-number.out (c.loop-number.number * c.stride_along-area.result) (omega (arith, done, c.requires.out.counted, c.loop-number.auto.out)))
    ∙ c.loop-number.invariant.value cube whole same on
    ∙ front_all all (c.loop-number.number * c.stride_along-area.result) (omega (arith, done, length-cells_on Empty (aggregated c.args.intervals.now c.args.expr.now cube) w))

pub returns-clause-kinds : goal.returns-clause-kinds
returns-clause-kinds c =
    let w = c.args.window.now in
    let ended : c.loop-number.number ≡ span_length w.t = omega (arith, c.loop-number-test.false, c.indices-number-end.ensures, c.loop-number.auto.number-end) in
    let done = all_done w c.loop-number.number c.stride_along-area.result ended c.stride_along-area.ensures in
    subst (All (IsOfKind (callback_kind c.args.expr.now))) (front_all c.loop-number.out (c.loop-number.number * c.stride_along-area.result) (omega (arith, done, c.requires.out.counted, c.loop-number.auto.out))) c.loop-number.invariant.kinds

pub offset_bounds-out-first : goal.offset_bounds-out-first
offset_bounds-out-first c = grind (ints, arith, common_steps) steps 4000000

pub overflow_mul-first : goal.overflow_mul-first
overflow_mul-first c = grind (ints, arith, common_steps) steps 4000000
