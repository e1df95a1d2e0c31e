-- What the folds of a plane give is the reduction of t on it.
use Rattle.std.proofs.Common.{◌≡◌, ℕ, suc, ◌+◌, ◌<◌, ℤ, Bool, true, List, [], ◌∷◌, length, map, refl, sym, ap, ◌∙◌, arith, Option, Some, None}
use Rattle.std.specs.List.{range_with_len, slice_get, slice_index_or}
use Rattle.std.specs.Option.{unwrap_or}
use Rattle.std.proofs.lemmas.Option.{get_or_from_slice_get, slice_get-get_or, slice_get_within}
use Rattle.oe_cell.specs.declared.cell.Cell.{Cell}
use Rattle.oe_cell.specs.declared.cell.Cell.TheVariants.{Empty}
use Rattle.oe_dims.specs.Cube.{Cube, IsCube, Tuple}
use Rattle.oe_dims.specs.Dimensions.{IsShape, extent, number_labels}
use Rattle.oe_dims.specs.Positions.{Position, IsPosition, label_of, tuple_of}
use Rattle.oe_dims.specs.declared.kind.Kind.TheVariants.{Time}
use Rattle.oe_dims.proofs.CubeLemmas.{length-tuples}
use Rattle.oe_expr.specs.Callback.{Callback}
use Rattle.oe_expr.specs.Scope.{scope_parameters}
use Rattle.oe_fold.specs.Value.{reduction_of}
use Rattle.oe_fold.specs.declared.reducer.Reducer.{Reducer}
use Rattle.oe_graph.specs.Resolved.{IsResolvedUnder}
use Rattle.oe_meanings.specs.Meaning.{cell, cells_along, reduced, value_on_list}
use Rattle.oe_requests.specs.Operations.{labels_along, reduce, without_dimension}
use Rattle.oe_check.specs.Reach.{time_fold}
use Rattle.oe_check.proofs.ReachLemmas.{fold_date_by_date}
use Rattle.oe_window.specs.Cells.{cell_at, cells_on}
use Rattle.oe_window.specs.Windows.{Holds, IsIn, number_in, position_count, positions, whole_window}
use Rattle.oe_window.specs.declared.window.Window.{Window}
use Rattle.oe_window.proofs.CellLemmas.{cell_at-at, cell_at-tabulate, is_cells_on}
use Rattle.oe_window.proofs.WholeLemmas.{number_in_below, position_in}
use Rattle.oe_window.proofs.WindowLemmas.{position_at}
use Rattle.oe_slab.specs.Slabs.{cells_by_date, numbered_position}

-- ---- the cells along t, by the numbers of the dates

by_index : (f : ℕ → Cell) (g : Tuple → Cell) (h : ℤ → Tuple) (labels : List ℤ) (a : ℕ)
    → ((i j : ℕ) (l : ℤ) → slice_get labels i ≡ Some l → j ≡ a + i → f j ≡ g (h l))
    → map f (range_with_len a (length labels)) ≡ map g (map h labels)
by_index f g h [] a e = refl
by_index f g h (l ∷ labels) a e =
    let first : f a ≡ g (h l) = e 0 a l refl (omega arith) in
    let rest : map f (range_with_len (a + 1) (length labels)) ≡ map g (map h labels) =
    by_index f g h labels (a + 1) (λ i j m s place. e (suc i) j m s (omega arith)) in
    ap (λ (v : Cell). v ∷ map f (range_with_len (a + 1) (length labels))) first ∙ ap (λ (r : List Cell). g (h l) ∷ r) rest

label_there : (labels : Option (List ℤ)) (i : ℕ) (l : ℤ) → slice_get (unwrap_or labels []) i ≡ Some l → label_of labels i ≡ Some l
label_there None i l h = cc
label_there (Some ls) i l h = h

inside : (labels : Option (List ℤ)) (i : ℕ) → i < length (unwrap_or labels []) → i < extent labels
inside None i lt = absurd (omega arith)
inside (Some ls) i lt = lt

module _ (cube : Cube Cell) (valid : IsShape cube.shape) (whole : IsCube cube) where
  -- the cells of a cube at all dates are those along t
  along_t : (p : Position) → IsPosition (without_dimension Time cube.shape) p
      → map (λ t. cell_at Empty cube (record p { t = t })) (range_with_len 0 (length (number_labels cube.shape Time)))
      ≡ cells_along Time cube (tuple_of (without_dimension Time cube.shape) p)
  along_t p h =
      let tuple : Tuple = tuple_of (without_dimension Time cube.shape) p in
      by_index (λ t. cell_at Empty cube (record p { t = t })) (cell cube) (λ label. record tuple { t = Some label }) (number_labels cube.shape Time) 0
      (λ i j l e place.
      let same : j ≡ i = omega arith in
      let lt = slice_get_within (number_labels cube.shape Time) i l e in
      let q : Position = record p { t = i } in
      let here : IsPosition cube.shape q = record { t = inside cube.shape.t i lt; band = h.band; y = h.y; x = h.x } in
      ap (λ n. cell_at Empty cube (record p { t = n })) same
      ∙ (sym (ap (λ o. unwrap_or o Empty) (cell_at-at Empty cube q valid (whole ∙ length-tuples cube.shape) here))
      ∙ ap (λ (o : Option ℤ). cell cube (record tuple { t = o })) (label_there cube.shape.t i l e)))

  module _ (c : Callback) (reducer : Reducer) (ignores_nulls : Bool) (resolved : IsResolvedUnder true (scope_parameters c.scope) c.graph)
      (folds : time_fold (reduce Time c) ≡ Some (reducer, ignores_nulls)) (plane : Window)
      (holds : Holds (whole_window (without_dimension Time cube.shape)) plane) where
    -- the reduction of the cells of a position by date is the cell of the reduced cube
    reduced_at : (p : Position) → IsIn plane p
        → reduction_of reducer ignores_nulls (map (λ t. cell_at Empty cube (record p { t = t })) (range_with_len 0 (length (number_labels cube.shape Time))))
        ≡ cell_at Empty (reduced Time c cube) p
    reduced_at p h =
        let d = without_dimension Time cube.shape in
        let here = position_in d p (holds p h) in
        ap (reduction_of reducer ignores_nulls) (along_t p here)
        ∙ (sym (fold_date_by_date.each c reducer ignores_nulls resolved folds (labels_along Time cube.shape) (cells_along Time cube (tuple_of d p)))
        ∙ sym (cell_at-tabulate Empty d (λ tuple. value_on_list c (labels_along Time cube.shape) (cells_along Time cube tuple)) p here))

    -- the values of the folds of all dates are the cells of the reduced cube on the plane
    pub plane_folded : (dates : ℕ) (out : List Cell) → dates ≡ length (number_labels cube.shape Time) → length out ≡ position_count plane
        → ((k : ℕ) → k < length out → slice_index_or out k Empty ≡ reduction_of reducer ignores_nulls (cells_by_date cube plane dates k))
        → out ≡ cells_on Empty (reduced Time c cube) plane
    plane_folded dates out all long each =
        is_cells_on Empty (reduced Time c cube) plane out long (λ p h.
        let k = number_in plane p in
        let below = number_in_below plane p h in
        let within : k < length out = omega (arith, below, long) in
        let there : numbered_position plane k ≡ p =
        get_or_from_slice_get (positions plane) k p (record { t = 0; band = 0; y = 0; x = 0 }) (position_at plane p h) in
        slice_get-get_or out k Empty within
        ∙ ap Some (each k within
        ∙ (ap (λ n. reduction_of reducer ignores_nulls (cells_by_date cube plane n k)) all
        ∙ (ap (λ (q : Position). reduction_of reducer ignores_nulls (map (λ t. cell_at Empty cube (record q { t = t })) (range_with_len 0 (length (number_labels cube.shape Time))))) there
        ∙ reduced_at p h))))
