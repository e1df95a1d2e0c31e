use Rattle.std.proofs.Common.{◌≡◌, ◌∙◌, true, ℤ, List, map, sym, ap, subst}
use Rattle.oe_dims.proofs.ShapeLemmas.{t_rises}
use Rattle.oe_dims.specs.Dimensions.{number_labels, rises}
use Rattle.oe_dims.specs.Plain.{plain_instants}
use Rattle.oe_dims.specs.declared.kind.Kind.TheVariants.{Time}
use Rattle.oe_expr.specs.Scope.{AreLists}
use Rattle.oe_expr.specs.declared.scope.ListPart.{ListPart}
use Rattle.oe_meanings.proofs.ScopeLemmas.{gives_scopes}
use Rattle.oe_requests.specs.Extents.{part_in_time}
use Rattle.oe_requests.specs.declared.extent.Interval.{Interval}
use Rattle.oe_meanings.proofs.operation_scope.interval_scope.Goals as goal

pub parts_in_time-requires-clause-rise : goal.parts_in_time-requires-clause-rise
parts_in_time-requires-clause-rise c =
    subst (λ l. rises l ≡ true) (sym c.labels-labels.ensures.value) (t_rises c.args.shape.now c.labels-labels.ensures.valid)

pub returns-clause-valid : goal.returns-clause-valid
returns-clause-valid c =
    let shape = c.args.shape.now in
    let intervals = c.args.intervals.now in
    let parts = λ (l : List ℤ). map (λ (i : Interval). part_in_time i.extent l) intervals in
    let value = c.labels-labels.ensures.value in
    subst (λ l. AreLists (plain_instants l) c.in_ok-lists.lists.items) (sym (c.in_ok-from_slice.ensures.items ∙ value))
    (subst (λ (v : List ListPart). AreLists (plain_instants (number_labels shape Time)) v) (sym (c.in_ok-lists.ensures ∙ ap parts value))
    (gives_scopes.of_intervals intervals (record { shape = shape; kind = c.args.kind }) c.labels-labels.ensures.valid c.requires.not_empty c.requires.few))
