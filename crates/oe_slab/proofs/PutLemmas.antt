-- The values of the folds of a plane, put into the slot of the cut in the part behind it.
use Rattle.std.proofs.Common.{◌≡◌, ℕ, ◌<◌, true, Bool, List, [], length, slice_get, take, get_or, Some, sym, ap, ◌∙◌, subst, arith}
use Rattle.std.proofs.lemmas.List.Elements.{All-from_get_or}
use Rattle.std.proofs.lemmas.Option.{same_Some}
use Rattle.std.specs.List.{All}
use Rattle.oe_cell.specs.declared.cell.Cell.{Cell}
use Rattle.oe_cell.specs.declared.cell.Cell.TheVariants.{Empty}
use Rattle.oe_cube.specs.Kinds.{IsOfKind}
use Rattle.oe_fold.specs.declared.pass.Pass.{Pass}
use Rattle.oe_fold.specs.declared.reducer.Reducer.{Reducer}
use Rattle.oe_plan.specs.Figures.{shape_of_node}
use Rattle.oe_plan.specs.Schedules.{AreWindowsFor, is_load_at, node_at}
use Rattle.oe_plan.specs.Windows.{window_at}
use Rattle.oe_plan.proofs.RunLemmas.{only_step}
use Rattle.oe_check.specs.Checked.{CheckedGraph, outline_of_node}
use Rattle.oe_meanings.specs.Graphs.{Collections}
use Rattle.oe_check.specs.Laws.{AreCollectionsOf}
use Rattle.oe_steps.specs.Buffers.{buffer_at}
use Rattle.oe_steps.specs.Steps.{AreCells, AreOfKind, EachLoad, buffer_cells_at, node_cells}
use Rattle.oe_window.specs.Windows.{Holds, position_count, whole_window}
use Rattle.oe_window.specs.declared.window.Window.{Window}
use Rattle.oe_slab.specs.Folds.{AreNoMedians, HaveSeen, Settles}
use Rattle.oe_slab.specs.Planes.{AreFolded}
use Rattle.oe_slab.specs.Plans.{IsSlabPlan, SlabPlanOf}
use Rattle.oe_slab.specs.Slabs.{HaveFoldedAll, HaveFoldedKind, cells_by_date, cube_taken, dates_of_fold}
use Rattle.oe_slab.proofs.BehindLemmas.{cut_behind, load_is}
use Rattle.oe_slab.proofs.KindLemmas.{value_fits}
use Rattle.oe_slab.proofs.MeaningLemmas.{folds_mean}
use Rattle.oe_slab.proofs.MedianLemmas.{folds_no_median, no_medians}
use Rattle.oe_sources.specs.Catalogue.{Row}

module _ (p : SlabPlanOf) (is : IsSlabPlan p) where
  abbrev c : CheckedGraph
  c = p.graph

  -- none of the folds is a median
  reducer_is : (folds : List Pass) (kind : HaveFoldedKind c p.fold folds)
      → ◌≡◌ {A = Reducer × Bool} (kind.reducer, kind.ignores_nulls) (is.cut.lone.reducer, is.cut.lone.ignores_nulls)
  reducer_is folds kind = same_Some _ _ (sym kind.by ∙ is.cut.lone.folds)

  seen_by : (folds : List Pass) (kind : HaveFoldedKind c p.fold folds)
      → HaveSeen folds is.cut.lone.reducer is.cut.lone.ignores_nulls kind.cells
  seen_by folds kind = subst (λ (x : Reducer × Bool). HaveSeen folds x.0 x.1 kind.cells) (reducer_is folds kind) kind.seen

  pub no_median : (folds : List Pass) → HaveFoldedKind c p.fold folds → AreNoMedians folds
  no_median folds kind =
      no_medians folds is.cut.lone.reducer is.cut.lone.ignores_nulls kind.cells (folds_no_median c p.fold is.cut) (seen_by folds kind)

  module _ (windows : List Window) (are : AreWindowsFor c p.behind windows) (plane : Window)
      (plane_at : (step : ℕ) → step < length p.behind.order.steps → node_at p.behind step ≡ p.fold → window_at windows step ≡ plane)
      (buffers : List (List Cell)) (at : ℕ) (within : at < length p.behind.order.steps) (at_is : node_at p.behind at ≡ p.fold)
      (out : List Cell) (long : length out ≡ position_count plane)
      (there : take (position_count plane) (buffer_at buffers (get_or p.behind.order.slots at 0)) ≡ out) where
    -- they stand at the front of its slot
    front_is : (step : ℕ) → step < length p.behind.order.steps → is_load_at c p.behind step ≡ true
        → buffer_cells_at p.behind windows buffers step ≡ out
    front_is step below loads =
        let node_is = load_is p is step below loads in
        let same : at ≡ step = only_step p.behind.order.steps is.schedules.behind.listing.once at step within below (at_is ∙ sym node_is) in
        ap (λ w. take (position_count w) (buffer_at buffers (get_or p.behind.order.slots step 0))) (plane_at step below node_is)
        ∙ (ap (λ i. take (position_count plane) (buffer_at buffers (get_or p.behind.order.slots i 0))) (sym same)
        ∙ there)

    module _ (folds : List Pass) (as_many : length folds ≡ position_count plane) (settles : Settles folds out) where
      pub put_kinds : HaveFoldedKind c p.fold folds → EachLoad c p.behind (AreOfKind c p.behind windows buffers)
      put_kinds kind step below loads =
          let fit : All (IsOfKind (outline_of_node c p.fold).kind) out =
          All-from_get_or (IsOfKind (outline_of_node c p.fold).kind) out Empty (λ k h.
          (let inside : k < length folds = omega (arith, h, as_many, long) in
          subst (IsOfKind (outline_of_node c p.fold).kind)
          (sym (settles is.cut.lone.reducer is.cut.lone.ignores_nulls kind.cells (seen_by folds kind) k h))
          (value_fits c is.faultless p.fold is.cut (cut_behind p is) (kind.cells k) (kind.kinds k inside) (kind.as_many k inside)))) in
          subst (All (IsOfKind (outline_of_node c (node_at p.behind step)).kind)) (sym (front_is step below loads))
          (subst (λ (n : ℕ). All (IsOfKind (outline_of_node c n).kind) out) (sym (load_is p is step below loads)) fit)

      inside_plane : Holds (whole_window (shape_of_node c p.fold)) plane
      inside_plane =
          subst (λ (n : ℕ). Holds (whole_window (shape_of_node c n)) plane) at_is
          (subst (λ (w : Window). Holds (whole_window (shape_of_node c (node_at p.behind at))) w) (plane_at at within at_is) (are.inside at within))

      pub put_cells : (collections : Collections) → AreCollectionsOf c collections → HaveFoldedAll collections c p.fold plane folds
          → EachLoad c p.behind (AreCells collections c p.behind windows buffers)
      put_cells collections of all step below loads =
          let node_is = load_is p is step below loads in
          let cells = cells_by_date (cube_taken collections c p.fold) plane (dates_of_fold c p.fold) in
          front_is step below loads
          ∙ (folds_mean collections c is.faultless of p.fold is.cut plane out inside_plane long
          (settles is.cut.lone.reducer is.cut.lone.ignores_nulls cells
          (all is.cut.lone.reducer is.cut.lone.ignores_nulls is.cut.lone.folds))
          ∙ (ap (λ (n : ℕ). node_cells collections c n plane) (sym node_is)
          ∙ ap (node_cells collections c (node_at p.behind step)) (sym (plane_at step below node_is))))

-- ---- of a plane without a position nothing is folded

abbrev no_folds : List Pass
no_folds = []

no_fold : (k : ℕ) (fold : Pass) → slice_get no_folds k ≡ Some fold → ⊥
no_fold k fold at = cc

module _ (p : SlabPlanOf) (is : IsSlabPlan p) where
  pub none_kind : HaveFoldedKind p.graph p.fold []
  none_kind = record {
    reducer = is.cut.lone.reducer;
    ignores_nulls = is.cut.lone.ignores_nulls;
    by = is.cut.lone.folds;
    cells = λ k. [];
    seen = λ k fold at. absurd (no_fold k fold at);
    kinds = λ k h. absurd (omega arith);
    as_many = λ k h. absurd (omega arith);
    room = λ k fold at. absurd (no_fold k fold at);
  }

  -- no folds saw all of a plane without a position
  pub none_are_folded : (rows : List Row) (plane : Window) → AreFolded p rows plane []
  none_are_folded rows plane = record { seen = λ collections of shows reducer ignores_nulls by k fold at. absurd (no_fold k fold at); kind = none_kind }
