-- The values of a callback on the lists along a dimension of a cube, at the positions of a window.
use Rattle.std.proofs.Common.{◌≡◌, ℕ, suc, ◌+◌, ◌-◌, ◌<◌, ℤ, List, [], ◌∷◌, length, map, refl, sym, ap, ◌∙◌, subst, arith, Option, Some, None}
use Rattle.std.specs.List.{range_with_len, slice_get, slice_index_or}
use Rattle.std.specs.Option.{unwrap_or}
use Rattle.std.proofs.lemmas.Option.{slice_get_within}
use Rattle.oe_cell.specs.declared.cell.Cell.{Cell}
use Rattle.oe_cell.specs.declared.cell.Cell.TheVariants.{Empty}
use Rattle.oe_dims.specs.Cube.{Cube, IsCube, Tuple}
use Rattle.oe_dims.specs.Dimensions.{Dimensions, IsShape, band_names, extent, number_labels}
use Rattle.oe_dims.specs.Plain.{PlainLabels}
use Rattle.oe_dims.specs.Positions.{Position, IsPosition, label_of, tuple_of}
use Rattle.oe_dims.specs.declared.kind.Kind.{Kind}
use Rattle.oe_dims.specs.declared.kind.Kind.TheVariants.{Time, Bands, Y, X}
use Rattle.oe_dims.proofs.CubeLemmas.{length-tuples}
use Rattle.oe_expr.specs.Callback.{Callback, callback_value}
use Rattle.oe_expr.specs.Scope.{count_labels, list_labels, no_labels}
use Rattle.oe_window.specs.Cells.{cells_on}
use Rattle.oe_window.specs.Windows.{Holds, IsIn, positions, whole_window}
use Rattle.oe_window.specs.declared.window.Window.{Window}
use Rattle.oe_window.proofs.CellLemmas.{cell_at-at, cells_on-tabulate}
use Rattle.oe_window.proofs.WholeLemmas.{position_in}
use Rattle.oe_meanings.specs.Meaning.{cell, cells_along, reduced, value_on_list}
use Rattle.oe_meanings.proofs.CellKindLemmas.{all_labels}
use Rattle.oe_requests.specs.Operations.{labels_along, without_dimension}
use Rattle.oe_ops.specs.Lists.{TakesList, TakesLists, list_from, value_of_list, with_index}
use Rattle.oe_ops.specs.Needs.{HasLabelsBeside, HoldsNeed}
use Rattle.oe_ops.specs.Slices.{IsOn, cell_of}
use Rattle.oe_ops.specs.declared.slice.Slice.{Slice}
use Rattle.oe_ops.proofs.FoundLemmas.{cell_of_is}
use Rattle.oe_ops.proofs.ListLemmas.{map-agree}

-- ---- which positions are needed

-- how many labels a list has
abbrev pub count_along : Kind → Dimensions → ℕ
count_along along d = count_labels (labels_along along d)

pub inside : {L : Type 0} (labels : Option (List L)) (i : ℕ) → i < length (unwrap_or labels []) → i < extent labels
inside None i lt = absurd (omega arith)
inside (Some ls) i lt = lt

-- each position along the dimension is needed for the one of the result
pub is_beside : (along : Kind) (d : Dimensions) (p : Position) (i : ℕ) → IsPosition (without_dimension along d) p → i < count_along along d → HasLabelsBeside along (without_dimension along d) d p (with_index along p i)
is_beside Time d p i h lt = record { is_position = record { t = inside d.t i lt; band = h.band; y = h.y; x = h.x }; labels = refl }
is_beside Bands d p i h lt = record { is_position = record { t = h.t; band = inside d.bands i lt; y = h.y; x = h.x }; labels = refl }
is_beside Y d p i h lt = record { is_position = record { t = h.t; band = h.band; y = inside d.y i lt; x = h.x }; labels = refl }
is_beside X d p i h lt = record { is_position = record { t = h.t; band = h.band; y = h.y; x = inside d.x i lt }; labels = refl }

held_at : (along : Kind) (d : Dimensions) (window : Window) (slice : Slice) (p : Position) (i : ℕ) → Holds (whole_window (without_dimension along d)) window → HoldsNeed (HasLabelsBeside along (without_dimension along d) d) window slice.window → IsIn window p → i < count_along along d → IsIn slice.window (with_index along p i)
held_at along d window slice p i holds need h lt =
    need p (with_index along p i) h (is_beside along d p i (position_in (without_dimension along d) p (holds p h)) lt)

pub held_along : (along : Kind) (d : Dimensions) (window : Window) (slice : Slice) (p : Position) (i : ℕ) → Holds (whole_window (without_dimension along d)) window → HoldsNeed (HasLabelsBeside along (without_dimension along d) d) window slice.window → IsIn window p → i < count_along along d → IsIn slice.window (with_index along p (0 + i))
held_along along d window slice p i holds need h lt =
    let same : i ≡ 0 + i = omega arith in
    subst (λ n. IsIn slice.window (with_index along p n)) same (held_at along d window slice p i holds need h lt)

-- without the dimension x, the only index along it is 0
pub first_along_x : (d : Dimensions) (window : Window) (along : Kind) (p : Position) → Holds (whole_window (without_dimension along d)) window → IsIn window p → along ≡ X → p.x ≡ 0
first_along_x d window Time p holds h e = cc
first_along_x d window Bands p holds h e = cc
first_along_x d window Y p holds h e = cc
first_along_x d window X p holds h e = let x = (holds p h).x.before in omega arith

-- ---- the list is that of the cube

pub by_index : {L : Type 0} (f : ℕ → Cell) (g : Tuple → Cell) (h : L → Tuple) (labels : List L) (a : ℕ) → ((i j : ℕ) (l : L) → slice_get labels i ≡ Some l → j ≡ a + i → f j ≡ g (h l)) → map f (range_with_len a (length labels)) ≡ map g (map h labels)
by_index f g h [] a e = refl
by_index f g h (l ∷ labels) a e =
    let first : f a ≡ g (h l) = e 0 a l refl (omega arith) in
    let rest : map f (range_with_len (a + 1) (length labels)) ≡ map g (map h labels) = by_index f g h labels (a + 1) (λ i j m s place. e (suc i) j m s (omega arith)) in
    ap (λ (v : Cell). v ∷ map f (range_with_len (a + 1) (length labels))) first ∙ ap (λ (r : List Cell). g (h l) ∷ r) rest

pub label_there : {L : Type 0} (labels : Option (List L)) (i : ℕ) (l : L) → slice_get (unwrap_or labels []) i ≡ Some l → label_of labels i ≡ Some l
label_there None i l h = cc
label_there (Some ls) i l h = h

label_within : {L : Type 0} (labels : Option (List L)) (i : ℕ) (l : L) → slice_get (unwrap_or labels []) i ≡ Some l → i < length (unwrap_or labels [])
label_within labels i l h = slice_get_within (unwrap_or labels []) i l h

module _ (cube : Cube Cell) (slice : Slice) (valid : IsShape cube.shape) (whole : IsCube cube) (on : IsOn cube slice) where
  pub listed : (q : Position) → IsPosition cube.shape q → IsIn slice.window q → cell_of slice q ≡ cell cube (tuple_of cube.shape q)
  listed q here held =
      cell_of_is cube slice q on held
      ∙ sym (ap (λ o. unwrap_or o Empty) (cell_at-at Empty cube q valid (whole ∙ length-tuples cube.shape) here))

  pub list_is : (along : Kind) (p : Position) → IsPosition (without_dimension along cube.shape) p → ((i : ℕ) → i < count_along along cube.shape → IsIn slice.window (with_index along p i)) → list_from slice along 0 (count_along along cube.shape) p ≡ cells_along along cube (tuple_of (without_dimension along cube.shape) p)
  list_is Time p h held =
      by_index (λ i. cell_of slice (with_index Time p (0 + i))) (cell cube) (λ label. record (tuple_of (without_dimension Time cube.shape) p) { t = Some label }) (number_labels cube.shape Time) 0
      (λ i j l e place.
      let lt = label_within cube.shape.t i l e in
      let same : 0 + j ≡ i = omega arith in
      ap (λ n. cell_of slice (with_index Time p n)) same
      ∙ listed (with_index Time p i) (is_beside Time cube.shape p i h lt).is_position (held i lt)
      ∙ ap (λ (o : Option ℤ). cell cube (record (tuple_of (without_dimension Time cube.shape) p) { t = o })) (label_there cube.shape.t i l e))
  list_is Bands p h held =
      by_index (λ i. cell_of slice (with_index Bands p (0 + i))) (cell cube) (λ name. record (tuple_of (without_dimension Bands cube.shape) p) { band = Some name }) (band_names cube.shape) 0
      (λ i j l e place.
      let lt = label_within cube.shape.bands i l e in
      let same : 0 + j ≡ i = omega arith in
      ap (λ n. cell_of slice (with_index Bands p n)) same
      ∙ listed (with_index Bands p i) (is_beside Bands cube.shape p i h lt).is_position (held i lt)
      ∙ ap (λ (o : Option (List ℕ)). cell cube (record (tuple_of (without_dimension Bands cube.shape) p) { band = o })) (label_there cube.shape.bands i l e))
  list_is Y p h held =
      by_index (λ i. cell_of slice (with_index Y p (0 + i))) (cell cube) (λ label. record (tuple_of (without_dimension Y cube.shape) p) { y = Some label }) (number_labels cube.shape Y) 0
      (λ i j l e place.
      let lt = label_within cube.shape.y i l e in
      let same : 0 + j ≡ i = omega arith in
      ap (λ n. cell_of slice (with_index Y p n)) same
      ∙ listed (with_index Y p i) (is_beside Y cube.shape p i h lt).is_position (held i lt)
      ∙ ap (λ (o : Option ℤ). cell cube (record (tuple_of (without_dimension Y cube.shape) p) { y = o })) (label_there cube.shape.y i l e))
  list_is X p h held =
      by_index (λ i. cell_of slice (with_index X p (0 + i))) (cell cube) (λ label. record (tuple_of (without_dimension X cube.shape) p) { x = Some label }) (number_labels cube.shape X) 0
      (λ i j l e place.
      let lt = label_within cube.shape.x i l e in
      let same : 0 + j ≡ i = omega arith in
      ap (λ n. cell_of slice (with_index X p n)) same
      ∙ listed (with_index X p i) (is_beside X cube.shape p i h lt).is_position (held i lt)
      ∙ ap (λ (o : Option ℤ). cell cube (record (tuple_of (without_dimension X cube.shape) p) { x = o })) (label_there cube.shape.x i l e))

-- ---- the callback

-- the callback of a reduction takes its one list
pub takes_list : (c : Callback) (along : Kind) (d : Dimensions) (cells : List Cell) → TakesLists c along d cells → TakesList c 0 (count_along along d) cells
takes_list c along d cells takes = record {
  kind = takes.kind;
  labels = labels_along along d;
  lists = record { from = 0; to = count_along along d } ∷ [];
  scope_is = takes.scope_is;
  list_is = omega arith;
  as_many = ap count_labels (all_labels (labels_along along d));
  of_kind = takes.of_kind;
}

-- which has all labels
pub value_is : (c : Callback) (along : Kind) (d : Dimensions) (cells list : List Cell) → TakesLists c along d cells → value_of_list c 0 list ≡ value_on_list c (labels_along along d) list
value_is c along d cells list takes =
    let labels : slice_index_or (list_labels c.scope) 0 no_labels ≡ labels_along along d = ap (λ s. slice_index_or (list_labels s) 0 no_labels) takes.scope_is ∙ all_labels (labels_along along d) in
    ap (λ (its : PlainLabels). callback_value c (record { x = Empty; y = Empty; context = c.context; cells = list; labels = its })) labels

-- ---- on a window

reduced_here : (along : Kind) (c : Callback) (cube : Cube Cell) (slice : Slice) (window : Window) → TakesLists c along cube.shape slice.cells.now → IsShape cube.shape → IsCube cube → IsOn cube slice → Holds (whole_window (without_dimension along cube.shape)) window → HoldsNeed (HasLabelsBeside along (without_dimension along cube.shape) cube.shape) window slice.window → map (λ p. value_of_list c 0 (list_from slice along 0 (count_along along cube.shape) p)) (positions window) ≡ cells_on Empty (reduced along c cube) window
reduced_here along c cube slice window takes valid whole on holds need =
    let d = cube.shape in
    map-agree _ _ window (λ p h.
    value_is c along d slice.cells.now (list_from slice along 0 (count_along along d) p) takes
    ∙ ap (value_on_list c (labels_along along d)) (list_is cube slice valid whole on along p (position_in (without_dimension along d) p (holds p h)) (λ i lt. held_at along d window slice p i holds need h lt)))
    ∙ sym (cells_on-tabulate Empty (without_dimension along d) (λ tuple. value_on_list c (labels_along along d) (cells_along along cube tuple)) window holds)

pub reduced_is : (along : Kind) (c : Callback) (cube : Cube Cell) (slice : Slice) (window : Window) (shape argument : Dimensions) → cube.shape ≡ argument → shape ≡ without_dimension along argument → TakesLists c along argument slice.cells.now → IsShape argument → IsCube cube → IsOn cube slice → Holds (whole_window shape) window → HoldsNeed (HasLabelsBeside along shape argument) window slice.window → map (λ p. value_of_list c 0 (list_from slice along 0 (count_along along argument) p)) (positions window) ≡ cells_on Empty (reduced along c cube) window
reduced_is along c cube slice window shape argument same is takes valid whole on =
    subst (λ s. Holds (whole_window s) window → HoldsNeed (HasLabelsBeside along s argument) window slice.window → map (λ p. value_of_list c 0 (list_from slice along 0 (count_along along argument) p)) (positions window) ≡ cells_on Empty (reduced along c cube) window) (sym is)
    (subst (λ a. Holds (whole_window (without_dimension along a)) window → HoldsNeed (HasLabelsBeside along (without_dimension along a) a) window slice.window → map (λ p. value_of_list c 0 (list_from slice along 0 (count_along along a) p)) (positions window) ≡ cells_on Empty (reduced along c cube) window) same
    (reduced_here along c cube slice window (subst (λ a. TakesLists c along a slice.cells.now) (sym same) takes) (subst IsShape (sym same) valid) whole on))
