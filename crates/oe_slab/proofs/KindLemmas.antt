-- The kind of what a time cut gives.
use Rattle.std.proofs.Common.{◌≡◌, ℕ, false, List, [], ◌∷◌, length, map, Option, Some, None, refl, sym, ap, ◌∙◌, subst, arith}
use Rattle.std.proofs.lemmas.Bool.{true≢false}
use Rattle.std.specs.List.{All}
use Rattle.std.specs.Prelude.{is_some}
use Rattle.oe_cell.specs.declared.cell.Cell.{Cell}
use Rattle.oe_cube.specs.Kinds.{IsOfKind}
use Rattle.oe_dims.specs.declared.kind.Kind.TheVariants.{Time}
use Rattle.oe_expr.specs.Callback.{Callback, KeepsKind, callback_kind}
use Rattle.oe_expr.specs.Scope.{count_labels}
use Rattle.oe_fold.specs.Value.{reduction_of}
use Rattle.oe_plan.specs.Steps.{arguments_of_node}
use Rattle.oe_meanings.specs.CellKinds.{IsSoundOn}
use Rattle.oe_check.specs.Checked.{AreFaultless, CheckedGraph, collection_of_node, operation_of_node, outline_of_node}
use Rattle.oe_meanings.specs.Meaning.{value_on_list}
use Rattle.oe_requests.specs.Operations.{Outline, labels_along, reduce, reduction_scope}
use Rattle.oe_check.specs.Reach.{time_fold}
use Rattle.oe_meanings.proofs.CellKindLemmas.{all_labels, list_value_fits, under_scope}
use Rattle.oe_check.proofs.LoadLemmas.{loads_where}
use Rattle.oe_check.proofs.ReachLemmas.{fold_date_by_date}
use Rattle.oe_meanings.proofs.RequestLemmas.{found}
use Rattle.oe_steps.proofs.NodeLemmas.{WorksOn, works_on}
use Rattle.oe_slab.specs.Cuts.{IsTimeCut}
use Rattle.oe_slab.specs.Figures.{taken_by}
use Rattle.oe_slab.specs.Slabs.{dates_of_fold, kind_taken}
use Rattle.oe_slab.proofs.DateLemmas.{IsBehind}
use Rattle.oe_slab.proofs.FoldLemmas.{folds_reduce}
use Rattle.oe_slab.proofs.LawLemmas.{takes_one}
use Rattle.oe_slab.proofs.NodeLemmas.{resolved_there}

no_collection : (o : Option (List ℕ)) → is_some o ≡ false → o ≡ None
no_collection None e = refl
no_collection (Some id) e = absurd (true≢false e)

module _ (c : CheckedGraph) (f : AreFaultless c) (fold : ℕ) (cut : IsTimeCut c fold) (behind : IsBehind c f fold cut fold) where
  reduces : (callback : Callback) × (operation_of_node c fold ≡ Some (reduce Time callback))
      × (time_fold (reduce Time callback) ≡ Some (cut.lone.reducer, cut.lone.ignores_nulls))
  reduces =
      let op = found time_fold (operation_of_node c fold) (cut.lone.reducer, cut.lone.ignores_nulls) cut.lone.folds in
      let by = folds_reduce op.0 (cut.lone.reducer, cut.lone.ignores_nulls) op.2 in
      (by.0, op.1 ∙ ap Some by.1, sym (ap time_fold by.1) ∙ op.2)

  abbrev callback : Callback
  callback = reduces.0

  abbrev taken : Outline
  taken = outline_of_node c (taken_by c fold)

  works : WorksOn c fold (reduce Time callback)
  works =
      works_on c f fold cut.lone.within (reduce Time callback) reduces.1
      (no_collection (collection_of_node c fold) (sym (loads_where c f fold cut.lone.within) ∙ cut.through fold behind))

  outlines : map (outline_of_node c) (arguments_of_node c fold) ≡ taken ∷ []
  outlines = ap (map (outline_of_node c)) (takes_one c f fold cut)

  sound : IsSoundOn (reduce Time callback) (taken ∷ [])
  sound = subst (IsSoundOn (reduce Time callback)) outlines works.sound

  kind_is : callback_kind callback ≡ (outline_of_node c fold).kind
  kind_is = sym (ap (λ (o : Outline). o.kind) works.outline_is)

  -- the reduction of cells of the kind that it takes, one for each date, is of the kind that it gives
  pub value_fits : (cells : List Cell) → All (IsOfKind (kind_taken c fold)) cells → length cells ≡ dates_of_fold c fold
      → IsOfKind (outline_of_node c fold).kind (reduction_of cut.lone.reducer cut.lone.ignores_nulls cells)
  value_fits cells fit counted =
      let labels = labels_along Time taken.shape in
      let given = reduction_scope Time taken in
      let value : IsOfKind (callback_kind callback) (value_on_list callback labels cells) =
      under_scope (λ k. KeepsKind k → IsOfKind (callback_kind k) (value_on_list k labels cells)) callback given sound.scope_is
      (λ keeps. list_value_fits callback.graph callback.context taken.kind labels (record { from = 0; to = count_labels labels } ∷ []) keeps 0
      (omega arith) labels (all_labels labels) cells counted fit) sound.keeps in
      subst (λ kind. IsOfKind kind (reduction_of cut.lone.reducer cut.lone.ignores_nulls cells)) kind_is
      (subst (IsOfKind (callback_kind callback))
      (fold_date_by_date.each callback cut.lone.reducer cut.lone.ignores_nulls
      (resolved_there c f fold cut.lone.within callback reduces.1) reduces.2 labels cells) value)
