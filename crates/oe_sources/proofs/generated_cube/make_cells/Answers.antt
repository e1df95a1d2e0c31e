use Rattle.std.proofs.Common.{◌≡◌, ◌≤◌, ◌+◌, ◌-◌, ◌*◌, ◌++◌, ℕ, length, map, take, drop, sym, ap, ◌∙◌, subst, arith}
use Rattle.std.proofs.lemmas.List.{length-take, length-drop}
use Rattle.std.proofs.lemmas.Grind.{common_steps}
use borrow.Rule.Slice.PartMut.{post_of}
use Rattle.oe_sources.specs.Generated.{generated_cell}
use Rattle.oe_sources.proofs.GeneratedLemmas.{all_rows, next_row, row_ends, row_size}
use Rattle.oe_window.specs.Parts.{IsPartFrom}
use Rattle.oe_window.specs.Windows.{position_count, positions, span_length}
use Rattle.oe_sources.proofs.generated_cube.make_cells.Goals as goal

pub overflow_add-end : goal.overflow_add-end
overflow_add-end c =
    let w = c.args.window.now in
    let ends = row_ends c.loop-number.number c.rows-number-end.result (span_length w.x) (position_count w) c.loop-number-test.true c.rows-number-end.ensures.all in
    omega (arith, c.loop-number.invariant.done_is, c.size.ensures.value, row_size w c.loop-number.number c.row-row.result c.row-row.ensures.value, ends, c.requires)

pub slice_bounds-make_row-end : goal.slice_bounds-make_row-end
slice_bounds-make_row-end c =
    let w = c.args.window.now in
    let ends = row_ends c.loop-number.number c.rows-number-end.result (span_length w.x) (position_count w) c.loop-number-test.true c.rows-number-end.ensures.all in
    omega (arith, c.loop-number.invariant.done_is, c.size.ensures.value, row_size w c.loop-number.number c.row-row.result c.row-row.ensures.value, ends, c.requires, c.loop-number.auto.into)

pub loop-number-preserved : goal.loop-number-preserved
loop-number-preserved c =
    let w = c.args.window.now in
    let seed = c.args.seed in
    let number = c.loop-number.number in
    let done = c.loop-number.done in
    let into = c.loop-number.into in
    let new = c.make_row.new.into in
    let row = c.row-row.result in
    let n = c.size.result in
    let rest = post_of done (done + n - done) into in
    let size = c.size.ensures.value in
    let span = row_size w number row c.row-row.ensures.value in
    let ends = row_ends number c.rows-number-end.result (span_length w.x) (position_count w) c.loop-number-test.true c.rows-number-end.ensures.all in
    let room : done + n ≤ length into = omega (arith, c.loop-number.invariant.done_is, size, span, ends, c.requires, c.loop-number.auto.into) in
    let part : IsPartFrom done w row = subst (λ (m : ℕ). IsPartFrom m w row) (sym c.loop-number.invariant.done_is) c.row-row.ensures.part in
    let long : length new ≡ position_count row = omega (arith, c.make_row.auto.into, length-take (done + n - done) (drop done into), length-drop done into, room, size) in
    let more : (number + 1) * span_length w.x ≡ number * span_length w.x + span_length w.x = omega arith in
    record {
      done_is = omega (arith, c.loop-number.invariant.done_is, size, span, more);
      made = subst (λ (m : ℕ). take (done + m) (take done into ++ (new ++ rest)) ≡ map (generated_cell seed) (take (done + m) (positions w))) (sym size)
          (next_row seed done w row into new rest part (omega (arith, room)) long c.loop-number.invariant.made c.make_row.ensures);
    }

pub returns : goal.returns
returns c =
    let w = c.args.window.now in
    let rows = c.rows-number-end.result in
    let end : c.loop-number.number ≡ rows = omega (arith, c.loop-number-test.false, c.loop-number.auto.number-end) in
    let done : c.loop-number.done ≡ position_count w = c.loop-number.invariant.done_is ∙ ap (λ (m : ℕ). m * span_length w.x) end ∙ c.rows-number-end.ensures.all in
    all_rows c.args.seed c.loop-number.done w c.loop-number.into (c.loop-number.auto.into ∙ c.requires) done c.loop-number.invariant.made

pub offset_bounds-into-done : goal.offset_bounds-into-done
offset_bounds-into-done c = grind (arith, common_steps) steps 2000000
