use Rattle.std.proofs.Common.{◌≡◌, ◌+◌, ◌++◌, ◌∷◌, [], map, w64, FitsSigned, to_z, of_z, sym, ap, ◌∙◌, rules}
use Rattle.std.specs.List.{range_with_len}
use Rattle.std.proofs.lemmas.Int.{to_z-of_z}
use Rattle.oe_periods.specs.Calendar.{period_start}
use Rattle.oe_meanings.proofs.PeriodLemmas.{one_more}
use Rattle.oe_meanings.proofs.shape_periods.period_starts.Goals as goal

pub loop-index-preserved : goal.loop-index-preserved
loop-index-preserved c =
    let f = period_start c.args.periods.now.period in
    let first = c.args.periods.now.first in
    let index = c.loop-index.index in
    let fits : FitsSigned w64 c.start.result = search rules in
    let start : to_z w64 (of_z w64 c.start.result) ≡ f (first + index) = to_z-of_z w64 c.start.result fits ∙ c.start.ensures in
    let items : c.push.new.self.items ≡ c.loop-index.starts.items ++ to_z w64 (of_z w64 c.start.result) ∷ [] = c.in_ok-push.ensures.items in
    items
    ∙ (ap (λ xs. xs ++ to_z w64 (of_z w64 c.start.result) ∷ []) c.loop-index.invariant
    ∙ (ap (λ x. map f (range_with_len first index) ++ x ∷ []) start ∙ sym (one_more f first index)))
