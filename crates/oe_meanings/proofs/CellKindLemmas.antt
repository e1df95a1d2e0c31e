-- The cells of a result are of its kind.
use Rattle.std.proofs.Common.{◌≡◌, ℕ, ◌-◌, ◌<◌, Bool, true, false, List, [], ◌∷◌, ◌++◌, length, map, refl, sym, ap, ◌∙◌, subst, arith, Option, Some, None, unwrap_or, cond, ◌==◌, unsigned_abs, ℤ}
use Rattle.std.specs.Prelude.{⊤, All, Contains, slice_get, slice_index_or}
use Rattle.std.specs.List.{slice_range}
use Rattle.std.specs.Option.{option_and_then}
use Rattle.std.proofs.lemmas.List.{length-map}
use Rattle.std.proofs.lemmas.List.Elements.{All-map, All-push, Contains-get_or}
use Rattle.std.proofs.lemmas.Option.{slice_get_within, get_or_from_slice_get}
use Rattle.std.proofs.Math.Seq.{take-length}
use Rattle.oe_cell.proofs.KindLemmas.{IsNumeric-multiply_of}
use Rattle.oe_cell.specs.Fraction.{Fraction}
use Rattle.oe_cell.specs.declared.cell.Cell.{Cell}
use Rattle.oe_cell.specs.declared.cell.Cell.TheVariants.{Empty, Flag, Number, Over}
use Rattle.oe_cube.specs.Kinds.{IsOfKind}
use Rattle.oe_dims.specs.Cube.{Tuple, Cube, at, row_major, tuples, tabulate}
use Rattle.oe_dims.specs.Dimensions.{Dimensions, number_labels}
use Rattle.oe_dims.specs.Plain.{PlainLabels, plain_instants, plain_names, plain_coordinates}
use Rattle.oe_dims.specs.declared.kind.CellKind.{CellKind}
use Rattle.oe_dims.specs.declared.kind.CellKind.TheVariants.{Numbers, Flags}
use Rattle.oe_dims.specs.declared.kind.Kind.{Kind}
use Rattle.oe_dims.specs.declared.kind.Kind.TheVariants.{Time, Bands, Y, X}
use Rattle.oe_graph.specs.Tree.{PlainGraph}
use Rattle.oe_kernel.specs.Convolution.{WholePlane, convolved}
use Rattle.oe_kernel.specs.Kernels.{KernelValues}
use Rattle.oe_kernel.specs.declared.border.Border.{Border}
use Rattle.oe_expr.specs.Callback.{Callback, callback_of, callback_kind, KeepsKind}
use Rattle.oe_expr.specs.Scope as scope
use Rattle.oe_expr.specs.Scope.{PlainScope, count_labels, labels_in, no_labels}
use Rattle.oe_expr.specs.declared.scope.ListPart.{ListPart}
use Rattle.oe_periods.proofs.SumLemmas.{running_sum-numeric, running_sum-logical}
use Rattle.oe_periods.specs.Sums.{running_sum}
use Rattle.oe_requests.specs.Extents.{Restriction, shape_of_restriction}
use Rattle.oe_requests.specs.Labels.{restrict, shape_of_merge}
use Rattle.oe_meanings.specs.Meaning.{cell, value_on_cells, value_on_list, restricted_cube, applied, convolution, reduced, cells_along, tuples_along, cells_at, labels_before, accumulated, joined, merged, covered_by, covered}
use Rattle.oe_requests.specs.Operations.{labels_along, without_dimension}

-- ---- cells of a cube

abbrev pub AllOfKind : CellKind → Cube Cell → Type 0
AllOfKind kind cube = All (IsOfKind kind) cube.cells

pub null_fits : (kind : CellKind) → IsOfKind kind Empty
null_fits Numbers = tt
null_fits Flags = tt

pub over_fits : (kind : CellKind) → IsOfKind kind Over
over_fits Numbers = tt
over_fits Flags = tt

element_fits : {A : Type 0} (P : A → Type 0) (xs : List A) (i : ℕ) (x : A) → All P xs → slice_get xs i ≡ Some x → P x
element_fits P xs i x h e = subst P (get_or_from_slice_get xs i x x e) (h i x (slice_get_within xs i x e))

-- of a cell that may be there
abbrev IfThere : CellKind → Option Cell → Type 0
IfThere kind None = ⊤
IfThere kind (Some c) = IsOfKind kind c

there_fits : (kind : CellKind) (cells : List Cell) (number : Option ℕ) → All (IsOfKind kind) cells → IfThere kind (option_and_then (slice_get cells) number)
there_fits kind cells None h = tt
there_fits kind cells (Some k) h = by (slice_get cells k) refl
  where
    by : (o : Option Cell) → slice_get cells k ≡ o → IfThere kind o
    by None e = tt
    by (Some c) e = element_fits (IsOfKind kind) cells k c h e

at_fits : (kind : CellKind) (cube : Cube Cell) (tuple : Tuple) → AllOfKind kind cube → IfThere kind (at cube tuple)
at_fits kind cube tuple h = there_fits kind cube.cells (row_major cube.shape tuple) h

or_null : (kind : CellKind) (o : Option Cell) → IfThere kind o → IsOfKind kind (unwrap_or o Empty)
or_null kind None h = null_fits kind
or_null kind (Some c) h = h

pub cell_fits : (kind : CellKind) (cube : Cube Cell) (tuple : Tuple) → AllOfKind kind cube → IsOfKind kind (cell cube tuple)
cell_fits kind cube tuple h = or_null kind (at cube tuple) (at_fits kind cube tuple h)

-- of a cube whose cells are given tuple by tuple
tabulated_fits : (kind : CellKind) (d : Dimensions) (f : Tuple → Cell) → ((tuple : Tuple) → IsOfKind kind (f tuple)) → AllOfKind kind (tabulate d f)
tabulated_fits kind d f h = All-map (IsOfKind kind) f (tuples d) (λ k other l. h (slice_index_or (tuples d) k other))

mapped_fits : (kind : CellKind) (cube : Cube Cell) (ts : List Tuple) → AllOfKind kind cube → All (IsOfKind kind) (map (cell cube) ts)
mapped_fits kind cube ts h = All-map (IsOfKind kind) (cell cube) ts (λ k other l. cell_fits kind cube (slice_index_or ts k other) h)

-- ---- values of callbacks

module _ (graph : PlainGraph) (context : Cell) where
  x_value_fits : (kind : CellKind) → KeepsKind (callback_of graph (scope.apply kind) context)
      → (x : Cell) → IsOfKind kind x → IsOfKind (callback_kind (callback_of graph (scope.apply kind) context)) (value_on_cells (callback_of graph (scope.apply kind) context) x Empty)
  x_value_fits kind keeps x h = keeps x Empty [] 0 (record { list_is = tt; cells_fit = h })

  two_value_fits : (kind : CellKind) → KeepsKind (callback_of graph (scope.merge kind) context)
      → (x y : Cell) → IsOfKind kind x → IsOfKind kind y → IsOfKind (callback_kind (callback_of graph (scope.merge kind) context)) (value_on_cells (callback_of graph (scope.merge kind) context) x y)
  two_value_fits kind keeps x y h k = keeps x y [] 0 (record { list_is = tt; cells_fit = (h, k) })

  -- on a list of the scope, by its number
  pub list_value_fits : (kind : CellKind) (labels : PlainLabels) (lists : List ListPart) → KeepsKind (callback_of graph (scope.reduce kind labels lists) context)
      → (i : ℕ) → i < length lists → (its : PlainLabels) → slice_index_or (map (labels_in labels) lists) i no_labels ≡ its
      → (cells : List Cell) → length cells ≡ count_labels its → All (IsOfKind kind) cells
      → IsOfKind (callback_kind (callback_of graph (scope.reduce kind labels lists) context)) (value_on_list (callback_of graph (scope.reduce kind labels lists) context) its cells)
  list_value_fits kind labels lists keeps i inside its is cells counted fit =
      let all = map (labels_in labels) lists in
      let as_many : length all ≡ length lists = length-map lists (labels_in labels) in
      let there : Contains all (slice_index_or all i no_labels) = Contains-get_or all i no_labels (subst (λ n. i < n) (sym as_many) inside) in
      subst (λ l. IsOfKind (callback_kind (callback_of graph (scope.reduce kind labels lists) context)) (value_on_list (callback_of graph (scope.reduce kind labels lists) context) l cells)) is
      (keeps Empty Empty cells i (record { list_is = inside; cells_fit = record { among = there; as_many = subst (λ l. length cells ≡ count_labels l) (sym is) counted; of_kind = fit } }))

-- what holds of a callback under a scope holds of one whose scope is that
pub under_scope : (P : Callback → Type 0) (c : Callback) (given : PlainScope) → c.scope ≡ given → P (callback_of c.graph given c.context) → P c
under_scope P c given is h = subst (λ s. P (callback_of c.graph s c.context)) (sym is) h

-- ---- the processes on one cube

pub kept_fits : (kind : CellKind) (r : Restriction) (cube : Cube Cell) → AllOfKind kind cube → AllOfKind kind (restricted_cube r cube)
kept_fits kind r cube h = tabulated_fits kind (shape_of_restriction r cube.shape) (cell cube) (λ tuple. cell_fits kind cube tuple h)

pub applied_fits : (kind : CellKind) (c : Callback) (cube : Cube Cell) → c.scope ≡ scope.apply kind → KeepsKind c → AllOfKind kind cube → AllOfKind (callback_kind c) (applied c cube)
applied_fits kind c cube is =
    under_scope (λ k. KeepsKind k → AllOfKind kind cube → AllOfKind (callback_kind k) (applied k cube)) c (scope.apply kind) is
    (λ keeps h. tabulated_fits _ cube.shape _ (λ tuple. x_value_fits c.graph c.context kind keeps (cell cube tuple) (cell_fits kind cube tuple h)))

convolved_fits : (k : KernelValues) (factor : Fraction) (border : Border) (replace : Fraction) (plane : WholePlane) (y x : ℕ) → IsOfKind Numbers (convolved k factor border replace plane y x)
unfolding convolved
convolved_fits k factor border replace plane y x = IsNumeric-multiply_of _ _

pub convolution_fits : (k : KernelValues) (factor : Fraction) (border : Border) (replace : Fraction) (cube : Cube Cell) → AllOfKind Numbers (convolution k factor border replace cube)
convolution_fits k factor border replace cube = tabulated_fits Numbers cube.shape _ (λ tuple. convolved_fits k factor border replace _ _ _)

-- ---- `reduce_dimension`

all_of_list : {A : Type 0} (xs : List A) → slice_range xs 0 (length xs) ≡ xs
all_of_list xs = let all : length xs - 0 ≡ length xs = omega arith in rw all (take-length xs)

pub all_labels : (labels : PlainLabels) → labels_in labels (record { from = 0; to = count_labels labels }) ≡ labels
all_labels (plain_instants labels) = ap plain_instants (all_of_list labels)
all_labels (plain_names labels) = ap plain_names (all_of_list labels)
all_labels (plain_coordinates labels) = ap plain_coordinates (all_of_list labels)

counted_along : (along : Kind) (cube : Cube Cell) (tuple : Tuple) → length (cells_along along cube tuple) ≡ count_labels (labels_along along cube.shape)
counted_along Time cube tuple = length-map (tuples_along Time cube.shape tuple) (cell cube) ∙ length-map _ _
counted_along Bands cube tuple = length-map (tuples_along Bands cube.shape tuple) (cell cube) ∙ length-map _ _
counted_along Y cube tuple = length-map (tuples_along Y cube.shape tuple) (cell cube) ∙ length-map _ _
counted_along X cube tuple = length-map (tuples_along X cube.shape tuple) (cell cube) ∙ length-map _ _

abbrev one_list : CellKind → PlainLabels → PlainScope
one_list kind labels = scope.reduce kind labels (record { from = 0; to = count_labels labels } ∷ [])

pub reduced_fits : (kind : CellKind) (along : Kind) (c : Callback) (cube : Cube Cell) → c.scope ≡ one_list kind (labels_along along cube.shape) → KeepsKind c → AllOfKind kind cube → AllOfKind (callback_kind c) (reduced along c cube)
reduced_fits kind along c cube is =
    under_scope (λ k. KeepsKind k → AllOfKind kind cube → AllOfKind (callback_kind k) (reduced along k cube)) c (one_list kind (labels_along along cube.shape)) is
    (λ keeps h. tabulated_fits _ (without_dimension along cube.shape) _ (λ tuple. list_value_fits c.graph c.context kind (labels_along along cube.shape) _ keeps 0 (omega arith) (labels_along along cube.shape) (all_labels _)
    (cells_along along cube tuple) (counted_along along cube tuple) (mapped_fits kind cube (tuples_along along cube.shape tuple) h)))

-- ---- `mask`

chosen_fits : (kind : CellKind) (b : Bool) (x y : Cell) → IsOfKind kind x → IsOfKind kind y → IsOfKind kind (cond b x y)
chosen_fits kind true x y h k = h
chosen_fits kind false x y h k = k

pub covered_by_fits : (kind : CellKind) (replacement mask c : Cell) → IsOfKind kind replacement → IsOfKind kind c → IsOfKind kind (covered_by replacement mask c)
covered_by_fits kind replacement Over c h k = over_fits kind
covered_by_fits kind replacement Empty c h k = k
covered_by_fits kind replacement (Flag b) c h k = chosen_fits kind b replacement c h k
covered_by_fits kind replacement (Number q) c h k = chosen_fits kind (unsigned_abs q.num == 0) c replacement k h

pub covered_fits : (kind : CellKind) (replacement : Cell) (cube mask : Cube Cell) → IsOfKind kind replacement → AllOfKind kind cube → AllOfKind kind (covered replacement cube mask)
covered_fits kind replacement cube mask h k =
    tabulated_fits kind cube.shape _ (λ tuple. covered_by_fits kind replacement (cell mask (restrict mask.shape tuple)) (cell cube tuple) h (cell_fits kind cube tuple k))

-- ---- running sums

sum_fits : (kind : CellKind) (ignore : Bool) (before : List Cell) (c : Cell) → All (IsOfKind kind) (before ++ c ∷ []) → IsOfKind kind (running_sum ignore before c)
sum_fits Numbers ignore before c h = running_sum-numeric ignore before c h
sum_fits Flags ignore before c h = running_sum-logical ignore before c h

cells_fit : (kind : CellKind) (cube : Cube Cell) (tuple : Tuple) (labels : List ℤ) → AllOfKind kind cube → All (IsOfKind kind) (cells_at cube tuple labels)
cells_fit kind cube tuple labels h =
    All-map (IsOfKind kind) (λ label. cell cube (record tuple { t = Some label })) labels
    (λ k other l. cell_fits kind cube (record tuple { t = Some (slice_index_or labels k other) }) h)

pub accumulated_fits : (kind : CellKind) (ignore : Bool) (cube : Cube Cell) → AllOfKind kind cube → AllOfKind kind (accumulated ignore cube)
accumulated_fits kind ignore cube h =
    tabulated_fits kind cube.shape _ (λ tuple.
    let labels = labels_before tuple.t (number_labels cube.shape Time) in
    sum_fits kind ignore (cells_at cube tuple labels) (cell cube tuple)
    (All-push (IsOfKind kind) (cells_at cube tuple labels) (cell cube tuple) (cells_fit kind cube tuple labels h) (cell_fits kind cube tuple h)))

-- ---- `merge_cubes`

-- a resolver whose values, of cells of the kind, are of the kind
abbrev pub Resolves : CellKind → Option Callback → Type 0
Resolves kind None = ⊤
Resolves kind (Some c) = (x y : Cell) → IsOfKind kind x → IsOfKind kind y → IsOfKind kind (value_on_cells c x y)

joined_fits : (kind : CellKind) (resolver : Option Callback) (a b : Option Cell) → Resolves kind resolver → IfThere kind a → IfThere kind b → IsOfKind kind (joined resolver a b)
joined_fits kind (Some c) (Some a) (Some b) r h k = r a b h k
joined_fits kind None (Some a) (Some b) r h k = null_fits kind
joined_fits kind None (Some a) None r h k = h
joined_fits kind (Some c) (Some a) None r h k = h
joined_fits kind None None (Some b) r h k = k
joined_fits kind (Some c) None (Some b) r h k = k
joined_fits kind None None None r h k = null_fits kind
joined_fits kind (Some c) None None r h k = null_fits kind

pub merged_fits : (kind : CellKind) (resolver : Option Callback) (one two : Cube Cell) → Resolves kind resolver → AllOfKind kind one → AllOfKind kind two → AllOfKind kind (merged resolver one two)
merged_fits kind resolver one two r h k =
    tabulated_fits kind (shape_of_merge one.shape two.shape) _ (λ tuple. joined_fits kind resolver (at one (restrict one.shape tuple)) (at two (restrict two.shape tuple)) r
    (at_fits kind one (restrict one.shape tuple) h) (at_fits kind two (restrict two.shape tuple) k))

pub resolves : (kind : CellKind) (c : Callback) → c.scope ≡ scope.merge kind → KeepsKind c → callback_kind c ≡ kind → Resolves kind (Some c)
resolves kind c is keeps same x y h k =
    subst (λ given. IsOfKind given (value_on_cells c x y)) same
    (under_scope (λ r. KeepsKind r → IsOfKind (callback_kind r) (value_on_cells r x y)) c (scope.merge kind) is (λ under. two_value_fits c.graph c.context kind under x y h k) keeps)
