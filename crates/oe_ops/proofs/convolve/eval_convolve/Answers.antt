use Rattle.std.proofs.Common.{◌≡◌, ◌+◌, ◌-◌, ◌*◌, ◌≤◌, ℕ, length, take, sym, ap, ◌∙◌, subst, arith}
use borrow.Rule.Slice.PartMut.{post_of}
use Rattle.std.specs.List.{All, slice_range}
use Rattle.std.proofs.lemmas.List.{take_all}
use Rattle.oe_cell.specs.declared.cell.Cell.TheVariants.{Empty}
use Rattle.oe_cube.specs.Kinds.{IsOfKind}
use Rattle.oe_dims.specs.declared.kind.CellKind.TheVariants.{Numbers}
use Rattle.oe_meanings.specs.Meaning.{convolution}
use Rattle.oe_window.specs.Cells.{cells_on}
use Rattle.oe_window.specs.Parts.{IsPartFrom, plane_size}
use Rattle.oe_window.specs.Windows.{position_count}
use Rattle.oe_window.proofs.CellLemmas.{cells_on-part, length-cells_on}
use Rattle.oe_ops.proofs.FillLemmas.{all_more, length-part, piece_more, piece_of}
use Rattle.oe_ops.proofs.convolve.eval_convolve.Goals as goal

pub size-count-requires : goal.size-count-requires
size-count-requires c =
    let w = c.args.window.now in
    let n = c.loop-number.number in
    let piece = piece_of w c.plane-plane.result n c.planes-number-end.result c.plane-plane.ensures.value c.planes-number-end.ensures.value c.planes-number-end.ensures.all c.loop-number-test.true in
    omega (arith, piece.counted, piece.within, c.requires.out.counted)

pub overflow_add-part : goal.overflow_add-part
overflow_add-part c =
    let w = c.args.window.now in
    let n = c.loop-number.number in
    let piece = piece_of w c.plane-plane.result n c.planes-number-end.result c.plane-plane.ensures.value c.planes-number-end.ensures.value c.planes-number-end.ensures.all c.loop-number-test.true in
    let size = c.size-count.ensures.value in
    let done = c.loop-number.invariant.done_is in
    let counted = c.loop-number.auto.out ∙ c.requires.out.counted in
    omega (arith, size, done, counted, piece.counted, piece.within)

pub slice_bounds-part-end : goal.slice_bounds-part-end
slice_bounds-part-end c =
    let w = c.args.window.now in
    let n = c.loop-number.number in
    let piece = piece_of w c.plane-plane.result n c.planes-number-end.result c.plane-plane.ensures.value c.planes-number-end.ensures.value c.planes-number-end.ensures.all c.loop-number-test.true in
    let size = c.size-count.ensures.value in
    let done = c.loop-number.invariant.done_is in
    let counted = c.loop-number.auto.out ∙ c.requires.out.counted in
    omega (arith, size, done, counted, piece.counted, piece.within)

pub convolve_plane-requires-clause-out : goal.convolve_plane-requires-clause-out
convolve_plane-requires-clause-out c =
    let w = c.args.window.now in
    let n = c.loop-number.number in
    let piece = piece_of w c.plane-plane.result n c.planes-number-end.result c.plane-plane.ensures.value c.planes-number-end.ensures.value c.planes-number-end.ensures.all c.loop-number-test.true in
    let size = c.size-count.ensures.value in
    let done = c.loop-number.invariant.done_is in
    let counted = c.loop-number.auto.out ∙ c.requires.out.counted in
    record {
      within = λ p h. c.requires.out.within p (c.plane-plane.ensures.part.inside p h);
      counted = length-part c.loop-number.out c.loop-number.done c.size-count.result (omega (arith, size, done, counted, piece.counted, piece.within)) ∙ size;
    }

pub convolve_plane-requires-clause-some : goal.convolve_plane-requires-clause-some
convolve_plane-requires-clause-some c =
    let w = c.args.window.now in
    let n = c.loop-number.number in
    let piece = piece_of w c.plane-plane.result n c.planes-number-end.result c.plane-plane.ensures.value c.planes-number-end.ensures.value c.planes-number-end.ensures.all c.loop-number-test.true in
    let size = c.size-count.ensures.value in
    let done = c.loop-number.invariant.done_is in
    let counted = c.loop-number.auto.out ∙ c.requires.out.counted in
    let long = length-part c.loop-number.out c.loop-number.done c.size-count.result (omega (arith, size, done, counted, piece.counted, piece.within)) in
    omega (arith, long, size, piece.counted, piece.some)

pub convolve_plane-requires-clause-slice : goal.convolve_plane-requires-clause-slice
convolve_plane-requires-clause-slice c = record {
  valid = c.requires.slice.valid;
  counted = c.requires.slice.counted;
  need = λ p q h needed. c.requires.slice.need p q (c.plane-plane.ensures.part.inside p h) needed;
}

pub overflow_add-done : goal.overflow_add-done
overflow_add-done c =
    let w = c.args.window.now in
    let n = c.loop-number.number in
    let piece = piece_of w c.plane-plane.result n c.planes-number-end.result c.plane-plane.ensures.value c.planes-number-end.ensures.value c.planes-number-end.ensures.all c.loop-number-test.true in
    let size = c.size-count.ensures.value in
    let done = c.loop-number.invariant.done_is in
    let counted = c.loop-number.auto.out ∙ c.requires.out.counted in
    omega (arith, size, done, counted, piece.counted, piece.within)

pub loop-number-preserved : goal.loop-number-preserved
loop-number-preserved c =
    let w = c.args.window.now in
    let n = c.loop-number.number in
    let piece = piece_of w c.plane-plane.result n c.planes-number-end.result c.plane-plane.ensures.value c.planes-number-end.ensures.value c.planes-number-end.ensures.all c.loop-number-test.true in
    let size = c.size-count.ensures.value in
    let done = c.loop-number.invariant.done_is in
    let counted = c.loop-number.auto.out ∙ c.requires.out.counted in
    let plane = c.plane-plane.result in
    let before = c.loop-number.out in
    let k = c.loop-number.done in
    let m = c.size-count.result in
    let inside : k + m ≤ length before = omega (arith, size, done, counted, piece.counted, piece.within) in
    let made = c.convolve_plane.new.out in
    let rest = post_of k (k + m - k) before in
    let long : length made ≡ m = c.convolve_plane.auto.out ∙ length-part before k m inside in
    let part : IsPartFrom k w plane = subst (λ (i : ℕ). IsPartFrom i w plane) (sym done) c.plane-plane.ensures.part in
    record {
      done_is = omega (arith, size, done, piece.counted, piece.next);
      within = omega (arith, inside, c.convolve_plane.auto.out);
      value = λ cube whole same on.
          let all = cells_on Empty (convolution c.args.kernel.now c.args.factor c.args.border c.args.replace cube) w in
          let total = length-cells_on Empty (convolution c.args.kernel.now c.args.factor c.args.border c.args.replace cube) w in
          piece_more all before made rest k m (omega (arith, counted, total)) (omega (arith, inside, counted, total)) long (c.loop-number.invariant.value cube whole same on)
          (c.convolve_plane.ensures.value cube whole same on
          ∙ sym (cells_on-part Empty (convolution c.args.kernel.now c.args.factor c.args.border c.args.replace cube) k w plane part)
          ∙ ap (λ (i : ℕ). slice_range all k (k + i)) (sym size));
      kinds = all_more (IsOfKind Numbers) before made rest k m (omega (arith, inside)) long c.loop-number.invariant.kinds c.convolve_plane.ensures.kinds;
    }

pub returns-clause-value : goal.returns-clause-value
returns-clause-value c = λ cube whole same on.
    let cells = cells_on Empty (convolution c.args.kernel.now c.args.factor c.args.border c.args.replace cube) c.args.window.now in
    let total = length-cells_on Empty (convolution c.args.kernel.now c.args.factor c.args.border c.args.replace cube) c.args.window.now in
    let w = c.args.window.now in
    let out = c.loop-number.out in
    let end : c.loop-number.number ≡ c.planes-number-end.result = omega (arith, c.loop-number-test.false, c.loop-number.auto.number-end) in
    let all : c.loop-number.done ≡ position_count w = c.loop-number.invariant.done_is ∙ (ap (λ (m : ℕ). m * plane_size w) end ∙ c.planes-number-end.ensures.all) in
    let whole_out : take c.loop-number.done out ≡ out = take_all c.loop-number.done out (omega (arith, all, c.loop-number.auto.out, c.requires.out.counted)) in
    sym whole_out ∙ c.loop-number.invariant.value cube whole same on ∙ take_all c.loop-number.done cells (omega (arith, all, total))

pub returns-clause-kinds : goal.returns-clause-kinds
returns-clause-kinds c =
    let w = c.args.window.now in
    let out = c.loop-number.out in
    let end : c.loop-number.number ≡ c.planes-number-end.result = omega (arith, c.loop-number-test.false, c.loop-number.auto.number-end) in
    let all : c.loop-number.done ≡ position_count w = c.loop-number.invariant.done_is ∙ (ap (λ (m : ℕ). m * plane_size w) end ∙ c.planes-number-end.ensures.all) in
    let whole_out : take c.loop-number.done out ≡ out = take_all c.loop-number.done out (omega (arith, all, c.loop-number.auto.out, c.requires.out.counted)) in
    subst (All (IsOfKind Numbers)) whole_out c.loop-number.invariant.kinds
