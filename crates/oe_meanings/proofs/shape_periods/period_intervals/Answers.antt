use Rattle.std.proofs.Common.{◌≡◌, ◌++◌, ◌∷◌, [], map, sym, ap, ◌∙◌, subst, arith}
use Rattle.std.specs.List.{range_with_len}
use Rattle.oe_dims.specs.Dimensions.{number_labels}
use Rattle.oe_dims.specs.declared.kind.Kind.TheVariants.{Time}
use Rattle.oe_meanings.specs.Callbacks.{AreIntervals}
use Rattle.oe_requests.specs.Periods.{period_interval, period_intervals}
use Rattle.oe_meanings.proofs.PeriodLemmas.{one_more, intervals_are, stand_as_intervals}
use Rattle.oe_meanings.proofs.shape_periods.period_intervals.Goals as goal

pub loop-index-preserved : goal.loop-index-preserved
loop-index-preserved c =
    let f = period_interval c.periods_over-periods.result.period in
    let first = c.periods_over-periods.result.first in
    let index = c.loop-index.index in
    let items : c.push.new.self.items ≡ c.loop-index.intervals.items ++ c.interval_of.result ∷ [] = c.in_ok-push.ensures.items in
    items
    ∙ (ap (λ xs. xs ++ c.interval_of.result ∷ []) c.loop-index.invariant
    ∙ (ap (λ x. map f (range_with_len first index) ++ x ∷ []) c.interval_of.ensures ∙ sym (one_more f first index)))

pub returns-clause-stand : goal.returns-clause-stand
returns-clause-stand c =
    let labels = number_labels c.args.shape.now Time in
    let series = c.periods_over-periods.result in
    let all : c.loop-index.index ≡ series.count = omega (arith, c.loop-index-test.false, c.loop-index.auto.index-end, c.count-index-end.ensures.value) in
    let made : c.loop-index.intervals.items ≡ period_intervals c.args.period labels =
    c.loop-index.invariant
    ∙ (ap (λ n. map (period_interval series.period) (range_with_len series.first n)) all ∙ intervals_are c.args.period labels series c.periods_over-periods.ensures.value) in
    subst AreIntervals (sym made) (stand_as_intervals c.args.period c.args.shape.now c.periods_over-periods.ensures.valid)
