use Rattle.std.proofs.Common.{ap, ◌∙◌, map, subst, sym}
use Rattle.oe_dims.specs.Dimensions.{Dimensions}
use Rattle.oe_expr.specs.Callback.{callback_kind}
use Rattle.oe_window.specs.Windows.{Holds, positions, whole_window}
use Rattle.oe_ops.specs.Lists.{TakesList, list_from, value_of_list}
use Rattle.oe_ops.specs.Needs.{HasLabelsBeside, HoldsNeed}
use Rattle.oe_ops.proofs.ColumnLemmas.{value_fits}
use Rattle.oe_ops.proofs.KindLemmas.{all_fit}
use Rattle.oe_ops.proofs.ReduceLemmas.{first_along_x, held_along, reduced_is, takes_list}
use Rattle.oe_ops.proofs.reduce.eval_reduce.Goals as goal

pub fill-requires-clause-serves : goal.fill-requires-clause-serves
fill-requires-clause-serves c = λ p h.
    let along = c.args.along in
    let d = c.args.argument.now in
    let holds = subst (λ (s : Dimensions). Holds (whole_window s) c.args.window.now) c.requires.without c.requires.out.within in
    let need = subst (λ (s : Dimensions). HoldsNeed (HasLabelsBeside along s d) c.args.window.now c.args.slice.window) c.requires.without c.requires.slice.need in
    rw c.labels_count.ensures (
      c.requires.slice.counted,
      takes_list c.args.expr.now along d c.args.slice.cells.now c.requires.takes,
      first_along_x d c.args.window.now along p holds h,
      λ i lt. held_along along d c.args.window.now c.args.slice p i holds need h lt,
    )

pub returns-clause-value : goal.returns-clause-value
returns-clause-value c = λ cube whole same on.
    c.fill.ensures
    ∙ ap (λ n. map (λ p. value_of_list c.args.expr.now 0 (list_from c.args.slice c.args.along 0 n p)) (positions c.args.window.now)) c.labels_count.ensures
    ∙ reduced_is c.args.along c.args.expr.now cube c.args.slice c.args.window.now c.args.shape.now c.args.argument.now same c.requires.without c.requires.takes c.requires.slice.valid whole on c.requires.out.within c.requires.slice.need

pub returns-clause-kinds : goal.returns-clause-kinds
returns-clause-kinds c =
    let e = c.args.expr.now in
    let takes = subst (λ n. TakesList e 0 n c.args.slice.cells.now) (sym c.labels_count.ensures) (takes_list e c.args.along c.args.argument.now c.args.slice.cells.now c.requires.takes) in
    all_fit (callback_kind e) (λ p. value_of_list e 0 (list_from c.args.slice c.args.along 0 c.labels_count.result p)) (positions c.args.window.now) _ c.fill.ensures
    (λ p. value_fits e c.args.slice c.args.along 0 c.labels_count.result 0 p takes c.requires.keeps)
