-- The window of a time cut is a plane, and its slabs lie in the window of the cube that is folded.
use Rattle.std.proofs.Common.{◌≡◌, ◌<◌, ◌≤◌, ◌+◌, ℕ, false, List, [], ◌∷◌, length, map, Contains, Some, inl, inr, refl, sym, ap, ◌∙◌, subst, arith}
use Rattle.std.proofs.lemmas.Bool.{cases_Bool}
use Rattle.std.specs.Prelude.{slice_get, slice_index}
use Rattle.oe_dims.specs.Dimensions.{Dimensions}
use Rattle.oe_dims.specs.Positions.{IsPosition, Position}
use Rattle.oe_dims.specs.declared.kind.Kind.TheVariants.{Time}
use Rattle.oe_expr.specs.Callback.{Callback}
use Rattle.oe_ops.specs.Needs.{HasLabelsBeside, argument_shape}
use Rattle.oe_ops.proofs.ReduceLemmas as reduction
use Rattle.oe_order.specs.Graph.{is_load}
use Rattle.oe_plan.specs.Figures.{shape_of_node, steps_of}
use Rattle.oe_plan.specs.Laws.{IsOrdered}
use Rattle.oe_plan.specs.Steps.{NeedsOfNode, Takes, argument_shapes, arguments_of_node}
use Rattle.oe_plan.specs.Windows.{AreWindows, window_at}
use Rattle.oe_plan.proofs.NodeLemmas.{load_alone, seen}
use Rattle.oe_plan.proofs.RunLemmas.{argument_before}
use Rattle.oe_check.specs.Checked.{AreFaultless, CheckedGraph, operation_of_node}
use Rattle.oe_check.specs.Links.{links_of}
use Rattle.oe_requests.specs.Operations.{reduce, shape_of, without_dimension}
use Rattle.oe_check.specs.Reach.{time_fold}
use Rattle.oe_meanings.proofs.RequestLemmas.{found}
use Rattle.oe_window.specs.Windows.{Holds, IsEmpty, IsIn, first_position, whole_window}
use Rattle.oe_window.specs.declared.grid.ChunkSize.{ChunkSize}
use Rattle.oe_window.specs.declared.window.Window.{Window}
use Rattle.oe_window.proofs.WholeLemmas.{position_in}
use Rattle.oe_window.proofs.WindowLemmas.{IsFilled, filled_unless_empty, first_in, within_from_holds}
use Rattle.oe_slab.specs.Cuts.{IsTimeCut}
use Rattle.oe_slab.specs.Figures.{taken_by}
use Rattle.oe_slab.specs.Schedules.{IsPlaneOf, IsSlabOf}
use Rattle.oe_slab.specs.Slabs.{IsPlane, dates_of_fold, slab_window}
use Rattle.oe_slab.proofs.FoldLemmas.{folds_reduce}
use Rattle.oe_slab.proofs.LawLemmas.{takes_one}

module _ (c : CheckedGraph) (f : AreFaultless c) (fold : ℕ) (cut : IsTimeCut c fold) where
  abbrev d : Dimensions
  d = shape_of_node c (taken_by c fold)

  works : is_load (links_of c.nodes) fold ≡ false
  works = elim (cases_Bool (is_load (links_of c.nodes) fold)) [
    | inl loads ↦ absurd (load_alone c f fold cut.lone.within loads (taken_by c fold)
        (subst (λ xs. Contains xs (taken_by c fold)) (sym (takes_one c f fold cut)) (0, omega arith, refl)))
    | inr none ↦ none
  ]

  reduces : (callback : Callback) × (operation_of_node c fold ≡ Some (reduce Time callback))
  reduces =
      let op = found time_fold (operation_of_node c fold) (cut.lone.reducer, cut.lone.ignores_nulls) cut.lone.folds in
      let by = folds_reduce op.0 (cut.lone.reducer, cut.lone.ignores_nulls) op.2 in
      (by.0, op.1 ∙ ap Some by.1)

  shapes_are : argument_shapes c fold ≡ d ∷ []
  shapes_are = ap (map (shape_of_node c)) (takes_one c f fold cut)

  -- its cube has the dimensions of the one that it takes, but for t
  pub shape_is : shape_of_node c fold ≡ without_dimension Time (shape_of_node c (taken_by c fold))
  shape_is =
      (seen c f fold cut.lone.within (reduce Time reduces.0) reduces.1 works).shape_is
      ∙ ap (shape_of (reduce Time reduces.0)) shapes_are

  -- for a position of its cube it needs that of each date
  needs_each : (p : Position) (t : ℕ) → IsPosition (without_dimension Time d) p → t < dates_of_fold c fold
      → NeedsOfNode c fold 0 p (record p { t = t })
  needs_each p t at lt = record {
    operation = reduce Time reduces.0;
    operation_is = reduces.1;
    needs = subst (λ shapes. HasLabelsBeside Time (shape_of (reduce Time reduces.0) shapes) (argument_shape shapes 0) p (record p { t = t })) (sym shapes_are)
        (record {
          is_position = record { t = reduction.inside d.t t lt; band = at.band; y = at.y; x = at.x };
          labels = refl;
        });
  }

  module _ (size : ChunkSize) (ordered : IsOrdered c) (chunk : Window) (windows : List Window) (are : AreWindows c size chunk windows)
      (plane : Window) (of : IsPlaneOf c fold windows plane) (filled : ¬ IsEmpty plane) where
    full : IsFilled plane
    full = filled_unless_empty plane filled

    within : Holds (whole_window (without_dimension Time d)) plane
    within =
        let each = are.each in
        subst (λ s. Holds (whole_window s) plane) shape_is
        (subst (λ n. Holds (whole_window (shape_of_node c n)) plane) of.2
        (subst (Holds (whole_window (shape_of_node c (slice_index (steps_of c) of.0)))) of.3
        (are.inside of.0 (let under = of.1 in omega arith))))

    pub is_plane : IsPlane plane
    is_plane =
        let t = (within_from_holds plane (whole_window (without_dimension Time d)) full within).t in
        let to = t.to in
        let some = full.t in
        omega arith

    -- what the plane needs of the cube that is folded
    taken_holds : (from to : ℕ) → to ≤ dates_of_fold c fold → (i : ℕ) → i < length (steps_of c) → slice_index (steps_of c) i ≡ taken_by c fold
        → Holds (window_at windows i) (slab_window plane from to)
    taken_holds from to most i below is q h =
        let begun = full.t in
        let p : Position = record q { t = plane.t.from } in
        let inside : IsIn plane p = record { t = record { begun = omega arith; before = begun }; bands = h.bands; y = h.y; x = h.x } in
        let node_is : slice_index (steps_of c) of.0 ≡ fold = of.2 in
        let lt : q.t < dates_of_fold c fold = (let before = h.t.before in omega arith) in
        let need : NeedsOfNode c fold 0 p q = needs_each p q.t (position_in (without_dimension Time d) p (within p inside)) lt in
        let works_here : is_load (links_of c.nodes) (slice_index (steps_of c) of.0) ≡ false = ap (is_load (links_of c.nodes)) node_is ∙ works in
        let takes_here : slice_get (arguments_of_node c (slice_index (steps_of c) of.0)) 0 ≡ Some (slice_index (steps_of c) i) =
        ap (λ n. slice_get (arguments_of_node c n) 0) node_is
        ∙ (ap (λ (xs : List ℕ). slice_get xs 0) (takes_one c f fold cut) ∙ ap Some (sym is)) in
        let takes : Takes c of.0 0 i = record {
          within = of.1;
          earlier = argument_before (links_of c.nodes) c.result (steps_of c) ordered of.0 0 i of.1 below works_here takes_here;
          works = works_here;
          taken = takes_here;
        } in
        are.closed.needed of.0 0 i takes p q (subst (λ w. IsIn w p) (sym of.3) inside) (subst (λ n. NeedsOfNode c n 0 p q) (sym node_is) need)

    -- some dates of it, as many as a slab may have
    pub is_slab : (from to : ℕ) → from < to → to ≤ dates_of_fold c fold → to ≤ from + size.t
        → IsSlabOf c size fold windows (slab_window plane from to)
    is_slab from to some most few = record {
      chunk = chunk;
      are = are;
      inside = taken_holds from to most;
      filled = λ e.
          let at = first_in plane full in
          e (record (first_position plane) { t = from })
          (record { t = record { begun = omega arith; before = some }; bands = at.bands; y = at.y; x = at.x });
      few = omega arith;
    }
