use Rattle.std.proofs.Common.{◌≡◌, ◌+◌, ◌-◌, ◌*◌, ◌≤◌, ℕ, length, map, sym, ap, ◌∙◌, subst, arith}
use Rattle.std.specs.List.{slice_range}
use Rattle.std.proofs.lemmas.List.{length-map, take_all}
use Rattle.std.proofs.lemmas.Grind.{common_steps}
use borrow.Rule.Slice.PartMut.{post_of}
use Rattle.oe_window.specs.Parts.{IsPartFrom, plane_size}
use Rattle.oe_window.specs.Windows.{position_count, positions}
use Rattle.oe_window.proofs.WindowLemmas.{length-positions}
use Rattle.oe_ops.proofs.FillLemmas.{length-part, part_of_map, piece_more, piece_of}
use Rattle.oe_ops.proofs.rows.fill_planes.Goals as goal

pub size-count-requires : goal.size-count-requires
size-count-requires g c =
    let w = c.args.window.now in
    let n = c.loop-number.number in
    let piece = piece_of w c.plane-plane.result n c.planes-number-end.result c.plane-plane.ensures.value c.planes-number-end.ensures.value c.planes-number-end.ensures.all c.loop-number-test.true in
    omega (arith, piece.counted, piece.within, c.requires.counted)

pub overflow_add-done : goal.overflow_add-done
overflow_add-done g c =
    let w = c.args.window.now in
    let n = c.loop-number.number in
    let piece = piece_of w c.plane-plane.result n c.planes-number-end.result c.plane-plane.ensures.value c.planes-number-end.ensures.value c.planes-number-end.ensures.all c.loop-number-test.true in
    let size = c.size-count.ensures.value in
    let done = c.loop-number.invariant.done_is in
    let counted = c.loop-number.auto.out ∙ c.requires.counted in
    omega (arith, size, done, counted, piece.counted, piece.within)

pub slice_bounds-plane-end : goal.slice_bounds-plane-end
slice_bounds-plane-end g c =
    let w = c.args.window.now in
    let n = c.loop-number.number in
    let piece = piece_of w c.plane-plane.result n c.planes-number-end.result c.plane-plane.ensures.value c.planes-number-end.ensures.value c.planes-number-end.ensures.all c.loop-number-test.true in
    let size = c.size-count.ensures.value in
    let done = c.loop-number.invariant.done_is in
    let counted = c.loop-number.auto.out ∙ c.requires.counted in
    omega (arith, size, done, counted, piece.counted, piece.within)

pub plane-requires-clause-some : goal.plane-requires-clause-some
plane-requires-clause-some g c =
    let w = c.args.window.now in
    let n = c.loop-number.number in
    let piece = piece_of w c.plane-plane.result n c.planes-number-end.result c.plane-plane.ensures.value c.planes-number-end.ensures.value c.planes-number-end.ensures.all c.loop-number-test.true in
    let size = c.size-count.ensures.value in
    let done = c.loop-number.invariant.done_is in
    let counted = c.loop-number.auto.out ∙ c.requires.counted in
    let long = length-part c.loop-number.out c.loop-number.done c.size-count.result (omega (arith, size, done, counted, piece.counted, piece.within)) in
    omega (arith, long, size, piece.counted, piece.some)

pub plane-requires-clause-serves : goal.plane-requires-clause-serves
plane-requires-clause-serves g c =
    λ p h. c.requires.serves p (c.plane-plane.ensures.part.inside p h)

pub loop-number-preserved : goal.loop-number-preserved
loop-number-preserved g c =
    let w = c.args.window.now in
    let n = c.loop-number.number in
    let piece = piece_of w c.plane-plane.result n c.planes-number-end.result c.plane-plane.ensures.value c.planes-number-end.ensures.value c.planes-number-end.ensures.all c.loop-number-test.true in
    let size = c.size-count.ensures.value in
    let done = c.loop-number.invariant.done_is in
    let counted = c.loop-number.auto.out ∙ c.requires.counted in
    let f = g.P.Planes.cell c.args.planes.now in
    let before = c.loop-number.out in
    let k = c.loop-number.done in
    let m = c.size-count.result in
    let inside : k + m ≤ length before = omega (arith, size, done, counted, piece.counted, piece.within) in
    let made = c.plane.new.out in
    let rest = post_of k (k + m - k) before in
    let long : length made ≡ m = c.plane.auto.out ∙ length-part before k m inside in
    let part : IsPartFrom k w c.plane-plane.result = subst (λ (i : ℕ). IsPartFrom i w c.plane-plane.result) (sym done) c.plane-plane.ensures.part in
    let all = map f (positions w) in
    let total : length all ≡ position_count w = length-map (positions w) f ∙ length-positions w in
    record {
      done_is = omega (arith, size, done, piece.counted, piece.next);
      within = omega (arith, inside, c.plane.auto.out);
      value =
          piece_more all before made rest k m (omega (arith, counted, total)) (omega (arith, inside, counted, total)) long c.loop-number.invariant.value
          (c.plane.ensures
          ∙ sym (part_of_map f k w c.plane-plane.result part)
          ∙ ap (λ (i : ℕ). slice_range all k (k + i)) (sym size));
    }

pub returns : goal.returns
returns g c =
    let w = c.args.window.now in
    let all = map (g.P.Planes.cell c.args.planes.now) (positions w) in
    let total : length all ≡ position_count w = length-map (positions w) (g.P.Planes.cell c.args.planes.now) ∙ length-positions w in
    let out = c.loop-number.out in
    let end : c.loop-number.number ≡ c.planes-number-end.result = omega (arith, c.loop-number-test.false, c.loop-number.auto.number-end) in
    let whole : c.loop-number.done ≡ position_count w = c.loop-number.invariant.done_is ∙ (ap (λ (m : ℕ). m * plane_size w) end ∙ c.planes-number-end.ensures.all) in
    sym (take_all c.loop-number.done out (omega (arith, whole, c.loop-number.auto.out, c.requires.counted)))
    ∙ c.loop-number.invariant.value
    ∙ take_all c.loop-number.done all (omega (arith, whole, total))

pub overflow_add-done-in-loop-number : goal.overflow_add-done-in-loop-number
overflow_add-done-in-loop-number g c = grind (arith, common_steps) steps 2000000
