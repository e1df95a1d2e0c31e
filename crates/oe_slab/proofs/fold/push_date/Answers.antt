use Rattle.std.proofs.Common.{◌≡◌, ◌≢◌, ℕ, ◌+◌, ◌<◌, ◌≤◌, ◌^◌, ◌∷◌, [], ◌++◌, length, sym, ◌∙◌, subst, arith, Some}
use Rattle.std.specs.Prelude.{slice_get, slice_index_or}
use Rattle.std.proofs.lemmas.List.{get_or_read}
use Rattle.std.proofs.lemmas.Option.{slice_get-get_or, slice_get_within}
use Rattle.oe_cell.specs.declared.cell.Cell.{Cell}
use Rattle.oe_cell.specs.declared.cell.Cell.TheVariants.{Empty}
use Rattle.oe_fold.specs.Progress.{HasSeen, count_of}
use Rattle.oe_fold.specs.declared.pass.Pass.{Pass}
use Rattle.oe_slab.proofs.FoldedLemmas.{get_other, one_more}
use Rattle.oe_slab.proofs.fold.push_date.Goals as goal

pub loop-k-preserved : goal.loop-k-preserved
loop-k-preserved c =
    let k : ℕ = c.loop-k.k in
    let within : k < length c.loop-k.folds = omega arith in
    let in_cells : k < length c.args.cells.now = omega arith in
    let old : Pass = slice_index_or c.loop-k.folds k c.index-folds-k.result in
    let first : slice_get c.args.folds.now k ≡ Some old = sym (c.loop-k.invariant.rest k (omega arith)) ∙ slice_get-get_or c.loop-k.folds k c.index-folds-k.result within in
    let cell = get_or_read c.args.cells.now k c.index-cells-k.result in_cells c.index-cells-k.is Empty in
    record {
      seen = λ reducer ignores_nulls seen all. one_more (λ j fold. HasSeen fold reducer ignores_nulls (seen j ++ slice_index_or c.args.cells.now j Empty ∷ [])) c.loop-k.folds k c.push.new.self within (c.loop-k.invariant.seen reducer ignores_nulls seen all)
          (subst (λ (x : Cell). HasSeen c.push.new.self reducer ignores_nulls (seen k ++ x ∷ [])) cell (c.push.ensures.seen reducer ignores_nulls (seen k) (all k old first)));
      room = λ more room. one_more (λ j fold. count_of fold + more < 2 ^ 63) c.loop-k.folds k c.push.new.self within (c.loop-k.invariant.room more room)
          (let left = room k old first in let counted : count_of c.push.new.self ≤ count_of old + 1 = c.push.ensures.count in omega (arith, left, counted));
      rest = λ j past. let other : j ≢ k = omega arith in get_other c.loop-k.folds k j c.push.new.self other ∙ c.loop-k.invariant.rest j (omega arith);
    }

pub returns-clause-seen : goal.returns-clause-seen
returns-clause-seen c = λ reducer ignores_nulls seen all j fold at.
    let within = slice_get_within c.loop-k.folds j fold at in
    c.loop-k.invariant.seen reducer ignores_nulls seen all j fold (omega (arith, within)) at

pub returns-clause-room : goal.returns-clause-room
returns-clause-room c = λ more room j fold at.
    let within = slice_get_within c.loop-k.folds j fold at in
    c.loop-k.invariant.room more room j fold (omega (arith, within)) at
