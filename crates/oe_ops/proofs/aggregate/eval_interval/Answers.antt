use Rattle.std.proofs.Common.{◌≡◌, ◌+◌, true, ap, ◌∙◌, arith, map, rules, subst, sym}
use Rattle.std.proofs.lemmas.Option.{slice_get_within}
use Rattle.oe_dims.specs.Dimensions.{number_labels, rises}
use Rattle.oe_dims.specs.declared.kind.Kind.TheVariants.{Time}
use Rattle.oe_dims.proofs.ShapeLemmas.{t_rises}
use Rattle.oe_expr.specs.Callback.{callback_kind}
use Rattle.oe_expr.specs.declared.scope.ListPart.{ListPart}
use Rattle.oe_window.specs.Windows.{IsIn, positions}
use Rattle.oe_requests.specs.Extents.{part_in_time}
use Rattle.oe_requests.specs.declared.extent.TemporalExtent.{TemporalExtent}
use Rattle.oe_ops.specs.Lists.{TakesList, list_from, value_of_list, with_index}
use Rattle.oe_ops.proofs.AggregateLemmas.{aggregated_is, count_of, few_intervals, first_label, from_of, held_inside, labelled_by, takes_interval, to_of}
use Rattle.oe_ops.proofs.ColumnLemmas.{value_fits}
use Rattle.oe_ops.proofs.IntervalLemmas.{intervals_differ}
use Rattle.oe_ops.proofs.KindLemmas.{all_fit}
use Rattle.oe_ops.proofs.aggregate.eval_interval.Goals as goal

pub label_at-label-requires : goal.label_at-label-requires
label_at-label-requires c = first_label c.args.intervals.now c.args.argument.now c.args.shape.now c.args.window.now c.requires.aggregation.aggregated c.requires.out.within (omega arith)

pub interval_of-list-requires : goal.interval_of-list-requires
interval_of-list-requires c = record { differ = intervals_differ c.args.intervals.now c.args.argument.now c.args.shape.now c.requires.aggregation.aggregated c.requires.aggregation.shape_valid }

pub extent_at-requires : goal.extent_at-requires
extent_at-requires c =
    let intervals = c.args.intervals.now in
    let d = c.args.argument.now in
    let list = c.interval_of-list.result in
    let found = labelled_by intervals d c.args.shape.now c.label_at-label.result c.args.window.now.t.from list c.requires.aggregation.aggregated c.label_at-label.ensures.value (search rules) c.interval_of-list.ensures in
    slice_get_within intervals list found.interval found.there

pub part_in_time-part-requires-clause-rise : goal.part_in_time-part-requires-clause-rise
part_in_time-part-requires-clause-rise c =
    subst (λ l. rises l ≡ true) (sym c.labels.ensures.value) (t_rises c.args.argument.now c.requires.slice.valid)

pub overflow_cast-rows-2 : goal.overflow_cast-rows-2
overflow_cast-rows-2 c =
    let intervals = c.args.intervals.now in
    let d = c.args.argument.now in
    let list = c.interval_of-list.result in
    let found = labelled_by intervals d c.args.shape.now c.label_at-label.result c.args.window.now.t.from list c.requires.aggregation.aggregated c.label_at-label.ensures.value (search rules) c.interval_of-list.ensures in
    let few = few_intervals intervals d c.args.shape.now c.requires.aggregation.aggregated c.requires.aggregation.shape_valid in
    let within = slice_get_within intervals list found.interval found.there in
    omega (arith, few, within)

pub fill-requires-clause-serves : goal.fill-requires-clause-serves
fill-requires-clause-serves c = λ p h.
    let intervals = c.args.intervals.now in
    let d = c.args.argument.now in
    let list = c.interval_of-list.result in
    let found = labelled_by intervals d c.args.shape.now c.label_at-label.result c.args.window.now.t.from list c.requires.aggregation.aggregated c.label_at-label.ensures.value (search rules) c.interval_of-list.ensures in
    let e = found.interval.extent in
    let part : c.part_in_time-part.result ≡ part_in_time e (number_labels d Time) =
    c.part_in_time-part.ensures
    ∙ ap (λ (x : TemporalExtent). part_in_time x c.labels.result.now) (c.extent_at.ensures found.interval found.there)
    ∙ ap (part_in_time e) c.labels.ensures.value in
    let from : c.part_in_time-part.result.from ≡ from_of e d = ap (λ (p : ListPart). p.from) part in
    let to : c.part_in_time-part.result.to ≡ to_of e d = ap (λ (p : ListPart). p.to) part in
    let count : c.saturating_sub.result ≡ count_of e d = omega (arith, c.saturating_sub.ensures, from, to) in
    let takes : TakesList c.args.expr.now list c.saturating_sub.result c.args.slice.cells.now =
    subst (λ n. TakesList c.args.expr.now list n c.args.slice.cells.now) (sym count) (takes_interval c.args.expr.now intervals d c.args.slice.cells.now list found.interval found.there c.requires.aggregation.takes) in (
      c.requires.slice.counted,
      takes,
      λ along. cc,
      λ i lt. subst (λ f. IsIn c.args.slice.window (with_index Time p (f + i))) (sym from)
          (held_inside intervals d c.args.shape.now c.args.window.now c.args.slice e c.requires.aggregation.aggregated c.requires.out.within c.requires.slice.need p h i (omega (arith, lt, count))),
    )

pub returns-clause-value : goal.returns-clause-value
returns-clause-value c = λ cube whole same on.
    let intervals = c.args.intervals.now in
    let d = c.args.argument.now in
    let list = c.interval_of-list.result in
    let found = labelled_by intervals d c.args.shape.now c.label_at-label.result c.args.window.now.t.from list c.requires.aggregation.aggregated c.label_at-label.ensures.value (search rules) c.interval_of-list.ensures in
    let e = found.interval.extent in
    let part : c.part_in_time-part.result ≡ part_in_time e (number_labels d Time) =
    c.part_in_time-part.ensures
    ∙ ap (λ (x : TemporalExtent). part_in_time x c.labels.result.now) (c.extent_at.ensures found.interval found.there)
    ∙ ap (part_in_time e) c.labels.ensures.value in
    let from : c.part_in_time-part.result.from ≡ from_of e d = ap (λ (p : ListPart). p.from) part in
    let to : c.part_in_time-part.result.to ≡ to_of e d = ap (λ (p : ListPart). p.to) part in
    let count : c.saturating_sub.result ≡ count_of e d = omega (arith, c.saturating_sub.ensures, from, to) in
    c.fill.ensures
    ∙ ap (λ f. map (λ p. value_of_list c.args.expr.now list (list_from c.args.slice Time f c.saturating_sub.result p)) (positions c.args.window.now)) from
    ∙ ap (λ n. map (λ p. value_of_list c.args.expr.now list (list_from c.args.slice Time (from_of e d) n p)) (positions c.args.window.now)) count
    ∙ aggregated_is intervals c.args.expr.now cube c.args.slice c.args.window.now c.args.shape.now d list c.label_at-label.result found same c.requires.aggregation.aggregated c.requires.slice.valid whole on c.requires.aggregation.takes c.requires.out.within c.requires.slice.need c.requires.one c.label_at-label.ensures.value

pub returns-clause-kinds : goal.returns-clause-kinds
returns-clause-kinds c =
    let intervals = c.args.intervals.now in
    let d = c.args.argument.now in
    let list = c.interval_of-list.result in
    let found = labelled_by intervals d c.args.shape.now c.label_at-label.result c.args.window.now.t.from list c.requires.aggregation.aggregated c.label_at-label.ensures.value (search rules) c.interval_of-list.ensures in
    let e = found.interval.extent in
    let part : c.part_in_time-part.result ≡ part_in_time e (number_labels d Time) =
    c.part_in_time-part.ensures
    ∙ ap (λ (x : TemporalExtent). part_in_time x c.labels.result.now) (c.extent_at.ensures found.interval found.there)
    ∙ ap (part_in_time e) c.labels.ensures.value in
    let from : c.part_in_time-part.result.from ≡ from_of e d = ap (λ (p : ListPart). p.from) part in
    let to : c.part_in_time-part.result.to ≡ to_of e d = ap (λ (p : ListPart). p.to) part in
    let count : c.saturating_sub.result ≡ count_of e d = omega (arith, c.saturating_sub.ensures, from, to) in
    let takes : TakesList c.args.expr.now list c.saturating_sub.result c.args.slice.cells.now =
    subst (λ n. TakesList c.args.expr.now list n c.args.slice.cells.now) (sym count) (takes_interval c.args.expr.now intervals d c.args.slice.cells.now list found.interval found.there c.requires.aggregation.takes) in
    all_fit (callback_kind c.args.expr.now) (λ p. value_of_list c.args.expr.now list (list_from c.args.slice Time c.part_in_time-part.result.from c.saturating_sub.result p)) (positions c.args.window.now) _ c.fill.ensures
    (λ p. value_fits c.args.expr.now c.args.slice Time c.part_in_time-part.result.from c.saturating_sub.result list p takes c.requires.aggregation.keeps)
