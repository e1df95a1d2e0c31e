use Rattle.std.proofs.Common.{◌≡◌, ◌+◌, ◌-◌, ◌∙◌, sym, subst, arith, Some}
use Rattle.std.specs.List.{slice_get}
use Rattle.oe_dims.specs.Dimensions.{cell_count}
use Rattle.oe_window.specs.Runs.{window_numbers, EndWithin}
use Rattle.oe_window.proofs.VisitLemmas.{visiting_begins, visiting_goes, visiting_ends, visited_number}
use Rattle.oe_spool.proofs.RunRecords.{length-numbers, within_next}
use Rattle.oe_spool.proofs.least.number_at.Goals as goal

pub loop-first-init : goal.loop-first-init
loop-first-init c =
    let runs = c.runs-first-items.ensures in
    let begun = c.into_iter-first-iterator.ensures.into_iter_gives in (
      tt,
      tt,
      visiting_begins (window_numbers c.args.shape.now c.args.window.now) c.runs-first-items.result c.into_iter-first-iterator.result runs.numbers (runs.lengths ∙ sym (length-numbers c.args.shape.now c.args.window.now)) begun,
      subst (EndWithin (cell_count c.args.shape.now)) (sym begun) runs.within,
      omega arith,
    )

pub overflow_add-result : goal.overflow_add-result
overflow_add-result c =
    let within = within_next _ _ _ _ _ c.in-Some.ensures.steps c.loop-first.invariant.3 in
    let most = c.cells-end.ensures.most in
    let value = c.cells-end.ensures.value in
    let test = c.if-index-done.true in
    omega (arith, within.0)

pub returns-then-index-done-clause-number : goal.returns-then-index-done-clause-number
returns-then-index-done-clause-number c =
    let test = c.if-index-done.true in
    let here = c.loop-first.invariant.4 in
    let j = c.args.index - c.loop-first.done in
    let same : c.loop-first.done + j ≡ c.args.index = omega arith in
    subst (λ i. slice_get (window_numbers c.args.shape.now c.args.window.now) i ≡ Some (c.in-Some.first + j)) same
    (visited_number _ _ _ _ _ _ j c.loop-first.invariant.2 c.in-Some.ensures.steps test)

pub loop-first-preserved : goal.loop-first-preserved
loop-first-preserved c =
    let test = c.if-index-done.false in
    let here = c.loop-first.invariant.4 in (
      tt,
      tt,
      visiting_goes _ _ _ _ _ _ c.loop-first.invariant.2 c.in-Some.ensures.steps,
      (within_next _ _ _ _ _ c.in-Some.ensures.steps c.loop-first.invariant.3).1,
      omega arith,
    )

pub returns-clause-number : goal.returns-clause-number
returns-clause-number c =
    let ends = visiting_ends (window_numbers c.args.shape.now c.args.window.now) _ _ c.loop-first.invariant.2 c.in-None.ensures.steps.0 in
    let long = length-numbers c.args.shape.now c.args.window.now in
    let here = c.loop-first.invariant.4 in
    let below = c.requires.index in
    absurd (omega arith)
