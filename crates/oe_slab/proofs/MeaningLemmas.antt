-- The folds of a plane give what the folded node means.
use Rattle.std.proofs.Common.{◌≡◌, ◌<◌, ℕ, false, List, length, map, Option, Some, None, inl, inr, refl, sym, ap, ◌∙◌, subst, arith}
use Rattle.std.proofs.lemmas.Bool.{cases_Bool, true≢false}
use Rattle.std.specs.List.{range_with_len}
use Rattle.std.specs.Prelude.{Contains, is_some, slice_index_or}
use Rattle.std.proofs.lemmas.List.FromFn.{get_or-map-range_with_len, length-map-range_with_len}
use Rattle.oe_cell.specs.declared.cell.Cell.{Cell}
use Rattle.oe_cell.specs.declared.cell.Cell.TheVariants.{Empty}
use Rattle.oe_dims.specs.Cube.{Cube}
use Rattle.oe_dims.specs.Dimensions.{Dimensions, number_labels}
use Rattle.oe_dims.specs.declared.kind.Kind.TheVariants.{Time}
use Rattle.oe_expr.specs.Callback.{Callback}
use Rattle.oe_fold.specs.Value.{reduction_of}
use Rattle.oe_graph.specs.Printed.{node_count}
use Rattle.oe_order.specs.Graph.{is_load}
use Rattle.oe_plan.specs.Figures.{shape_of_node}
use Rattle.oe_plan.specs.Steps.{arguments_of_node}
use Rattle.oe_plan.proofs.NodeLemmas.{argument_below, load_alone}
use Rattle.oe_check.specs.Checked.{AreFaultless, CheckedGraph, collection_of_node, operation_of_node}
use Rattle.oe_meanings.specs.Graphs.{Collections}
use Rattle.oe_check.specs.Laws.{AreCollectionsOf, meaning_of_node}
use Rattle.oe_check.specs.Links.{links_of}
use Rattle.oe_meanings.specs.Meaning.{Datacube, operated, reduced}
use Rattle.oe_requests.specs.Operations.{Outline, reduce, without_dimension}
use Rattle.oe_check.specs.Reach.{time_fold}
use Rattle.oe_check.proofs.CheckedLemmas.{give_cubes}
use Rattle.oe_meanings.proofs.RequestLemmas.{found}
use Rattle.oe_window.specs.Cells.{cells_on}
use Rattle.oe_window.specs.Windows.{Holds, position_count, whole_window}
use Rattle.oe_window.specs.declared.window.Window.{Window}
use Rattle.oe_slab.specs.Cuts.{IsTimeCut}
use Rattle.oe_slab.specs.Figures.{taken_by}
use Rattle.oe_slab.specs.Laws.{CutsFold}
use Rattle.oe_slab.specs.Slabs.{cells_by_date, dates_of_fold}
use Rattle.oe_slab.proofs.FoldLemmas.{folds_reduce}
use Rattle.oe_slab.proofs.LawLemmas.{takes_one}
use Rattle.oe_slab.proofs.NodeLemmas.{resolved_there}
use Rattle.oe_slab.proofs.PlaneLemmas.{plane_folded}

no_collection : (o : Option (List ℕ)) → is_some o ≡ false → o ≡ None
no_collection None e = refl
no_collection (Some id) e = absurd (true≢false e)

module _ (collections : Collections) (c : CheckedGraph) (f : AreFaultless c) (of : AreCollectionsOf c collections) (fold : ℕ) (cut : IsTimeCut c fold) where
  abbrev taken : ℕ
  taken = taken_by c fold

  abbrev cube_of_node : ℕ → Cube Cell
  cube_of_node n = (meaning_of_node collections c n).cube

  takes : Contains (arguments_of_node c fold) taken
  takes = subst (λ xs. Contains xs taken) (sym (takes_one c f fold cut)) (0, omega arith, refl)

  taken_below : taken < node_count c.nodes
  taken_below = argument_below c f fold cut.lone.within taken takes

  -- it is no load
  works : is_load (links_of c.nodes) fold ≡ false
  works = elim (cases_Bool (is_load (links_of c.nodes) fold)) [
    | inl loads ↦ absurd (load_alone c f fold cut.lone.within loads taken takes)
    | inr none ↦ none
  ]

  reduces : (callback : Callback) × (operation_of_node c fold ≡ Some (reduce Time callback)) × (time_fold (reduce Time callback) ≡ Some (cut.lone.reducer, cut.lone.ignores_nulls))
  reduces =
      let op = found time_fold (operation_of_node c fold) (cut.lone.reducer, cut.lone.ignores_nulls) cut.lone.folds in
      let by = folds_reduce op.0 (cut.lone.reducer, cut.lone.ignores_nulls) op.2 in
      (by.0, op.1 ∙ ap Some by.1, sym (ap time_fold by.1) ∙ op.2)

  -- what it means is the reduction of the cube that it takes
  means : cube_of_node fold ≡ reduced Time reduces.0 (cube_of_node taken)
  means =
      ap (λ (d : Datacube). d.cube)
      (give_cubes.operated c f collections of fold cut.lone.within (reduce Time reduces.0) reduces.1
      (no_collection (collection_of_node c fold) (sym (give_cubes.loads c f fold cut.lone.within) ∙ works))
      ∙ ap (λ (nodes : List ℕ). operated (reduce Time reduces.0) (map (meaning_of_node collections c) nodes)) (takes_one c f fold cut))

  shape_taken : (cube_of_node taken).shape ≡ shape_of_node c taken
  shape_taken = ap (λ (o : Outline). o.shape) (give_cubes.cube c f collections of taken taken_below).outline_is

  shape_folded : shape_of_node c fold ≡ without_dimension Time (cube_of_node taken).shape
  shape_folded =
      sym (ap (λ (o : Outline). o.shape) (give_cubes.cube c f collections of fold cut.lone.within).outline_is)
      ∙ ap (λ (cube : Cube Cell). cube.shape) means

  -- the values of the folds of a plane, once all dates were folded, are the cells of the node
  pub folds_mean : (plane : Window) (out : List Cell) → Holds (whole_window (shape_of_node c fold)) plane → length out ≡ position_count plane
      → ((k : ℕ) → k < length out → slice_index_or out k Empty
      ≡ reduction_of cut.lone.reducer cut.lone.ignores_nulls (cells_by_date (cube_of_node taken) plane (dates_of_fold c fold) k))
      → out ≡ cells_on Empty (cube_of_node fold) plane
  folds_mean plane out holds long each =
      let cube = cube_of_node taken in
      let seen = give_cubes.cube c f collections of taken taken_below in
      let dates : dates_of_fold c fold ≡ length (number_labels cube.shape Time) =
      ap (λ (d : Dimensions). length (number_labels d Time)) (sym shape_taken) in
      plane_folded cube seen.valid seen.counted reduces.0 cut.lone.reducer cut.lone.ignores_nulls
      (resolved_there c f fold cut.lone.within reduces.0 reduces.1) reduces.2 plane
      (subst (λ (d : Dimensions). Holds (whole_window d) plane) shape_folded holds) (dates_of_fold c fold) out dates long each
      ∙ ap (λ (it : Cube Cell). cells_on Empty it plane) (sym means)

-- so each cell of a plane is the reduction of the cells by date
pub cuts_fold : CutsFold
cuts_fold collections c f of fold cut plane holds k below =
    let value : ℕ → Cell = λ i. reduction_of cut.lone.reducer cut.lone.ignores_nulls (cells_by_date (meaning_of_node collections c (taken_by c fold)).cube plane (dates_of_fold c fold) i) in
    let count = position_count plane in
    let long = length-map-range_with_len value 0 count in
    let same : map value (range_with_len 0 count) ≡ cells_on Empty (meaning_of_node collections c fold).cube plane =
    folds_mean collections c f of fold cut plane (map value (range_with_len 0 count)) holds long
    (λ i lt. get_or-map-range_with_len value 0 count i i Empty (omega (arith, lt, long)) (omega arith)) in
    ap (λ (xs : List Cell). slice_index_or xs k Empty) (sym same) ∙ get_or-map-range_with_len value 0 count k k Empty below (omega arith)
