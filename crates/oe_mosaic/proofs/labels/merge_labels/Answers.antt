use Rattle.std.proofs.Common.{◌≡◌, ◌+◌, ℤ, List, ◌++◌, drop, refl, sym, ap, ◌∙◌, arith, rules, get_or, pos, FitsSigned, w64}
use Rattle.std.proofs.lemmas.Int.{to_z-of_z}
use Rattle.oe_mosaic.specs.Labels.{merge_labels}
use Rattle.oe_mosaic.proofs.LabelLemmas.{both_stand, first_stands, rest_of_one, rest_of_two, second_stands}
use Rattle.oe_mosaic.proofs.labels.merge_labels.Goals as goal
use Rattle.oe_mosaic.proofs.labels.merge_labels.Goals.{then-loop-first-test+else-second-two, else-loop-first-test}

pub loop-first-preserved-then-stands_before : goal.loop-first-preserved-then-stands_before
loop-first-preserved-then-stands_before c =
    let i = c.loop-first.first in
    let j = c.loop-first.second in
    let fits_a : FitsSigned w64 (get_or c.args.one.now i (pos 0)) = search rules in
    let fits_b : FitsSigned w64 (get_or c.args.two.now j (pos 0)) = search rules in
    let first = simp to_z-of_z at c.stands_before.ensures in
    let pushed = simp to_z-of_z at c.in_ok-push.ensures.items in
    record {
      merged = ap (λ (l : List ℤ). l ++ merge_labels c.args.kind (drop (i + 1) c.args.one.now) (drop j c.args.two.now)) pushed
          ∙ first_stands c.args.kind c.loop-first.labels.items c.args.one.now c.args.two.now i j _ _ c.loop-first-test.true c.if-second-two.true refl refl (sym first ∙ c.if-stands_before.true)
          ∙ c.loop-first.invariant.merged;
      first = omega (arith, c.loop-first-test.true);
      second = c.loop-first.invariant.second;
    }

pub loop-first-preserved-then-stands_before-2 : goal.loop-first-preserved-then-stands_before-2
loop-first-preserved-then-stands_before-2 c =
    let i = c.loop-first.first in
    let j = c.loop-first.second in
    let fits_a : FitsSigned w64 (get_or c.args.one.now i (pos 0)) = search rules in
    let fits_b : FitsSigned w64 (get_or c.args.two.now j (pos 0)) = search rules in
    let first = simp to_z-of_z at c.stands_before.ensures in
    let second = simp to_z-of_z at c.stands_before-else-stands_before.ensures in
    let pushed = simp to_z-of_z at c.in_ok-push-2.ensures.items in
    record {
      merged = ap (λ (l : List ℤ). l ++ merge_labels c.args.kind (drop i c.args.one.now) (drop (j + 1) c.args.two.now)) pushed
          ∙ second_stands c.args.kind c.loop-first.labels.items c.args.one.now c.args.two.now i j _ _ c.loop-first-test.true c.if-second-two.true refl refl (sym first ∙ c.if-stands_before.false) (sym second ∙ c.if-stands_before-2.true)
          ∙ c.loop-first.invariant.merged;
      first = c.loop-first.invariant.first;
      second = omega (arith, c.if-second-two.true);
    }

pub loop-first-preserved : goal.loop-first-preserved
loop-first-preserved c =
    let i = c.loop-first.first in
    let j = c.loop-first.second in
    let fits_a : FitsSigned w64 (get_or c.args.one.now i (pos 0)) = search rules in
    let fits_b : FitsSigned w64 (get_or c.args.two.now j (pos 0)) = search rules in
    let first = simp to_z-of_z at c.stands_before.ensures in
    let second = simp to_z-of_z at c.stands_before-else-stands_before.ensures in
    let pushed = simp to_z-of_z at c.in_ok-push-3.ensures.items in
    record {
      merged = ap (λ (l : List ℤ). l ++ merge_labels c.args.kind (drop (i + 1) c.args.one.now) (drop (j + 1) c.args.two.now)) pushed
          ∙ both_stand c.args.kind c.loop-first.labels.items c.args.one.now c.args.two.now i j _ _ c.loop-first-test.true c.if-second-two.true refl refl (sym first ∙ c.if-stands_before.false) (sym second ∙ c.if-stands_before-2.false)
          ∙ c.loop-first.invariant.merged;
      first = omega (arith, c.loop-first-test.true);
      second = omega (arith, c.if-second-two.true);
    }

pub returns : goal.returns
returns c =
    let i = c.loop-first.first in
    let j = c.loop-first.second in
    let done = c.loop-first.labels.items in
    let one = c.args.one.now in
    let two = c.args.two.now in
    let all : c.extend_from_slice-2.new.self.items ≡ (done ++ drop i one) ++ drop j two =
    c.in_ok-extend_from_slice-2.ensures.items
    ∙ ap (λ (l : List ℤ). c.extend_from_slice.new.self.items ++ l) c.rest_from-2.ensures
    ∙ ap (λ (l : List ℤ). l ++ drop j two) (c.in_ok-extend_from_slice.ensures.items ∙ ap (λ (l : List ℤ). done ++ l) c.rest_from.ensures) in
    elim c.loop-first-test.branch [
      | then-loop-first-test+else-second-two w ↦ all ∙ rest_of_one c.args.kind done one two i j (omega (arith, w.if-second-two.false)) ∙ c.loop-first.invariant.merged
      | else-loop-first-test w ↦ all ∙ rest_of_two c.args.kind done one two i j (omega (arith, w.loop-first-test.false)) ∙ c.loop-first.invariant.merged
    ]
