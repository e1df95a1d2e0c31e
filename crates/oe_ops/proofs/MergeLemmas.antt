-- The cells of two cubes as one, at the positions of a window.
use Rattle.std.proofs.Common.{◌≡◌, ℕ, ◌<◌, ◌≤◌, true, List, [], length, map, refl, sym, ap, ◌∙◌, subst, arith, Option, Some, None, is_some, IfSome}
use Rattle.std.specs.List.{All, slice_index_or}
use Rattle.std.proofs.lemmas.List.{get_or_default}
use Rattle.std.specs.Option.{option_map, unwrap_or}
use Rattle.oe_cell.specs.declared.cell.Cell.{Cell}
use Rattle.oe_cell.specs.declared.cell.Cell.TheVariants.{Empty}
use Rattle.oe_cube.specs.Kinds.{IsOfKind}
use Rattle.oe_dims.specs.Cube.{Cube, IsCube, at}
use Rattle.oe_dims.specs.Dimensions.{Dimensions, IsShape}
use Rattle.oe_dims.specs.Positions.{Position, tuple_of}
use Rattle.oe_dims.specs.declared.kind.CellKind.{CellKind}
use Rattle.oe_expr.specs.Callback.{Callback, IsEnvironment, KeepsKind, callback_kind, callback_value, environment}
use Rattle.oe_expr.specs.EnvRows.{AreEnvironments, HasRowCells, environment_at, x_at, y_at, list_at}
use Rattle.oe_expr.specs.Scope.{PlainScope, IsEnvironmentOf, IsListNumber, list_labels, merge, no_labels}
use Rattle.oe_expr.specs.declared.row.EnvRow.{EnvRow}
use Rattle.oe_requests.specs.Labels.{shape_of_merge, restrict}
use Rattle.oe_meanings.specs.Meaning.{joined, merged, value_on_cells}
use Rattle.oe_meanings.proofs.CellKindLemmas.{null_fits}
use Rattle.oe_window.specs.Cells.{cells_on}
use Rattle.oe_window.specs.Windows.{Holds, positions, whole_window}
use Rattle.oe_window.specs.declared.window.Window.{Window}
use Rattle.oe_window.proofs.CellLemmas.{cells_on-tabulate}
use Rattle.oe_ops.specs.Indices.{found_in, position_in, position_on}
use Rattle.oe_ops.specs.Joins.{AreBothFound, where_found}
use Rattle.oe_ops.specs.Needs.{HasLabelsOf, HoldsNeed}
use Rattle.oe_ops.specs.Slices.{IsOn, TakesPairs, cell_of}
use Rattle.oe_ops.specs.declared.slice.Slice.{Slice}
use Rattle.oe_ops.specs.declared.source.RowIndices.{RowIndices}
use Rattle.oe_ops.proofs.FoundLemmas.{found_is}
use Rattle.oe_ops.proofs.KeepLemmas.{are_held}
use Rattle.oe_ops.proofs.KindLemmas.{fits_at}
use Rattle.oe_ops.proofs.ListLemmas.{map-agree}

-- ---- one cell

-- the cell of the cube that has the label, where only one has it
pub only_first : (r : Option Callback) (a : Option Cell) → joined r a None ≡ unwrap_or a Empty
only_first None None = refl
only_first None (Some a) = refl
only_first (Some c) None = refl
only_first (Some c) (Some a) = refl

pub only_second : (r : Option Callback) (b : Option Cell) → joined r None b ≡ unwrap_or b Empty
only_second None None = refl
only_second None (Some b) = refl
only_second (Some c) None = refl
only_second (Some c) (Some b) = refl

pub joined_where : (r : Option Callback) (f g : ℕ → Cell) (i j : Option ℕ) → where_found i j (unwrap_or (option_map f i) Empty) (unwrap_or (option_map g j) Empty) (joined r (Some (unwrap_or (option_map f i) Empty)) (Some (unwrap_or (option_map g j) Empty))) ≡ joined r (option_map f i) (option_map g j)
joined_where None f g None None = refl
joined_where None f g (Some i) None = refl
joined_where None f g None (Some j) = refl
joined_where None f g (Some i) (Some j) = refl
joined_where (Some c) f g None None = refl
joined_where (Some c) f g (Some i) None = refl
joined_where (Some c) f g None (Some j) = refl
joined_where (Some c) f g (Some i) (Some j) = refl

pub joined_both : (r : Option Callback) (f g : ℕ → Cell) (i j : Option ℕ) → is_some i ≡ true → is_some j ≡ true → joined r (Some (unwrap_or (option_map f i) Empty)) (Some (unwrap_or (option_map g j) Empty)) ≡ joined r (option_map f i) (option_map g j)
joined_both r f g None j h k = cc
joined_both r f g (Some i) None h k = cc
joined_both r f g (Some i) (Some j) h k = refl

pub where_both : (i j : Option ℕ) (a b both : Cell) → AreBothFound i j → where_found i j a b both ≡ both
where_both None j a b both h = let e = h.one_found in cc
where_both (Some i) None a b both h = let e = h.two_found in cc
where_both (Some i) (Some j) a b both h = refl

-- ---- the resolver

-- cells of a kind are a row of environments
pub are_pairs : (c : Callback) (row : EnvRow) (n : ℕ) → TakesPairs c row.x.now row.y.now → n ≤ length row.x.now → n ≤ length row.y.now → AreEnvironments c row n
are_pairs c row n takes x_long y_long = record {
  has_cells = subst (λ s. HasRowCells s row n) (sym takes.scope_is) (x_long, y_long);
  each = λ k lt. record {
    list_is = subst (λ s. IsListNumber s row.list) (sym takes.scope_is) tt;
    cells_fit = subst (λ s. IsEnvironmentOf s (environment c (x_at row k) (y_at row k) (list_at row k) row.list)) (sym takes.scope_is)
        (fits_at takes.kind row.x.now k takes.one_of_kind, fits_at takes.kind row.y.now k takes.two_of_kind);
  };
}

no_list : (s : PlainScope) (list : ℕ) → list_labels s ≡ [] → slice_index_or (list_labels s) list no_labels ≡ no_labels
no_list s list none = rw none refl

-- and their values are those on cells
pub pair_value : (c : Callback) (row : EnvRow) (k : ℕ) → TakesPairs c row.x.now row.y.now → row.count ≡ 0 → callback_value c (environment_at c row k) ≡ value_on_cells c (x_at row k) (y_at row k)
pair_value c row k takes short =
    let labels = no_list c.scope row.list (ap list_labels takes.scope_is) in
    rw (short, labels) refl

pub pairs_taken : (r : Option Callback) (one two ones twos : List Cell) → ((k : CellKind) → All (IsOfKind k) one → All (IsOfKind k) ones) → ((k : CellKind) → All (IsOfKind k) two → All (IsOfKind k) twos) → IfSome r (λ c. TakesPairs c one two) → IfSome r (λ c. TakesPairs c ones twos)
pairs_taken None one two ones twos f g h = tt
pairs_taken (Some c) one two ones twos f g h = record { kind = h.kind; scope_is = h.scope_is; one_of_kind = f h.kind h.one_of_kind; two_of_kind = g h.kind h.two_of_kind }

indexed_fits : (kind : CellKind) (slice : Slice) (row : RowIndices) (o : Option ℕ) → All (IsOfKind kind) slice.cells.now → IsOfKind kind (unwrap_or (option_map (λ i. cell_of slice (position_on row i)) o) Empty)
indexed_fits kind slice row None h = fits_at kind [] 0 (λ n other lt. absurd (omega arith))
indexed_fits kind slice row (Some i) h = fits_at kind slice.cells.now _ h

-- cells that are found in a slice are of its kind
pub row_fits : (kind : CellKind) (slice : Slice) (row : RowIndices) (index : ℕ → Option ℕ) (cells : List Cell) → ((k : ℕ) → k < length cells → slice_index_or cells k Empty ≡ unwrap_or (option_map (λ i. cell_of slice (position_on row i)) (index k)) Empty) → All (IsOfKind kind) slice.cells.now → All (IsOfKind kind) cells
row_fits kind slice row index cells is h =
    λ k other lt. subst (IsOfKind kind) (sym (get_or_default cells k other Empty lt ∙ is k lt)) (indexed_fits kind slice row (index k) h)

-- ---- kinds

abbrev FitsIfThere : CellKind → Option Cell → Type 0
FitsIfThere kind o = IfSome o (IsOfKind kind)

value_fits : (kind k : CellKind) (c : Callback) (a b : Cell) → c.scope ≡ merge k → KeepsKind c → callback_kind c ≡ kind → IsOfKind k a → IsOfKind k b → IsOfKind kind (value_on_cells c a b)
value_fits kind k c a b is keeps same fits_a fits_b =
    let at_once : IsEnvironment c a b [] 0 = record {
      list_is = subst (λ s. IsListNumber s 0) (sym is) tt;
      cells_fit = subst (λ s. IsEnvironmentOf s (environment c a b [] 0)) (sym is) (fits_a, fits_b);
    } in
    subst (λ given. IsOfKind given (value_on_cells c a b)) same
    (subst (λ labels. IsOfKind (callback_kind c) (callback_value c (record { x = a; y = b; context = c.context; cells = []; labels = labels })))
    (no_list c.scope 0 (ap list_labels is)) (keeps a b [] 0 at_once))

listed_fits : (kind : CellKind) (slice : Slice) (o : Option Position) → All (IsOfKind kind) slice.cells.now → FitsIfThere kind (option_map (cell_of slice) o)
listed_fits kind slice None h = tt
listed_fits kind slice (Some q) h = fits_at kind slice.cells.now _ h

there_fits : (kind : CellKind) (shape argument : Dimensions) (slice : Slice) (p : Position) → All (IsOfKind kind) slice.cells.now → FitsIfThere kind (found_in shape argument slice p)
there_fits kind shape argument slice p h = listed_fits kind slice (position_in shape argument p) h

joined_fits : (kind : CellKind) (r : Option Callback) (a b : Option Cell) (one two : List Cell) → IfSome r (λ c. TakesPairs c one two) → IfSome r KeepsKind → IfSome r (λ c. callback_kind c ≡ kind) → ((k : CellKind) → All (IsOfKind k) one → FitsIfThere k a) → ((k : CellKind) → All (IsOfKind k) two → FitsIfThere k b) → All (IsOfKind kind) one → All (IsOfKind kind) two → IsOfKind kind (joined r a b)
joined_fits kind (Some c) (Some a) (Some b) one two takes keeps same f g h k =
    value_fits kind takes.kind c a b takes.scope_is keeps same (f takes.kind takes.one_of_kind) (g takes.kind takes.two_of_kind)
joined_fits kind None (Some a) (Some b) one two takes keeps same f g h k = null_fits kind
joined_fits kind None (Some a) None one two takes keeps same f g h k = f kind h
joined_fits kind (Some c) (Some a) None one two takes keeps same f g h k = f kind h
joined_fits kind None None (Some b) one two takes keeps same f g h k = g kind k
joined_fits kind (Some c) None (Some b) one two takes keeps same f g h k = g kind k
joined_fits kind None None None one two takes keeps same f g h k = null_fits kind
joined_fits kind (Some c) None None one two takes keeps same f g h k = null_fits kind

pub merged_fits : (kind : CellKind) (r : Option Callback) (shape one two : Dimensions) (slice other : Slice) (p : Position) → IfSome r (λ c. TakesPairs c slice.cells.now other.cells.now) → IfSome r KeepsKind → IfSome r (λ c. callback_kind c ≡ kind) → All (IsOfKind kind) slice.cells.now → All (IsOfKind kind) other.cells.now → IsOfKind kind (joined r (found_in shape one slice p) (found_in shape two other p))
merged_fits kind r shape one two slice other p takes keeps same h k =
    joined_fits kind r (found_in shape one slice p) (found_in shape two other p) slice.cells.now other.cells.now takes keeps same
    (λ k' all. there_fits k' shape one slice p all) (λ k' all. there_fits k' shape two other p all) h k

-- ---- on a window

merged_here : (r : Option Callback) (one two : Cube Cell) (slice other : Slice) (window : Window) → IsShape one.shape → IsShape two.shape → IsCube one → IsOn one slice → IsCube two → IsOn two other → Holds (whole_window (shape_of_merge one.shape two.shape)) window → HoldsNeed (HasLabelsOf (shape_of_merge one.shape two.shape) one.shape) window slice.window → HoldsNeed (HasLabelsOf (shape_of_merge one.shape two.shape) two.shape) window other.window → map (λ p. joined r (found_in (shape_of_merge one.shape two.shape) one.shape slice p) (found_in (shape_of_merge one.shape two.shape) two.shape other p)) (positions window) ≡ cells_on Empty (merged r one two) window
merged_here r one two slice other window valid two_valid whole on two_whole two_on holds need two_need =
    let d = shape_of_merge one.shape two.shape in
    map-agree _ _ window (λ p h.
    ap (λ o. joined r o (found_in d two.shape other p)) (found_is one d slice p valid whole on (are_held d one.shape slice window need p h))
    ∙ ap (joined r (at one (restrict one.shape (tuple_of d p)))) (found_is two d other p two_valid two_whole two_on (are_held d two.shape other window two_need p h)))
    ∙ sym (cells_on-tabulate Empty d (λ tuple. joined r (at one (restrict one.shape tuple)) (at two (restrict two.shape tuple))) window holds)

pub merged_is : (r : Option Callback) (one two : Cube Cell) (slice other : Slice) (window : Window) (shape first second : Dimensions) → one.shape ≡ first → two.shape ≡ second → shape ≡ shape_of_merge first second → IsShape first → IsShape second → IsCube one → IsOn one slice → IsCube two → IsOn two other → Holds (whole_window shape) window → HoldsNeed (HasLabelsOf shape first) window slice.window → HoldsNeed (HasLabelsOf shape second) window other.window → map (λ p. joined r (found_in shape first slice p) (found_in shape second other p)) (positions window) ≡ cells_on Empty (merged r one two) window
merged_is r one two slice other window shape first second same two_same is valid two_valid whole on two_whole two_on =
    subst (λ s. Holds (whole_window s) window → HoldsNeed (HasLabelsOf s first) window slice.window → HoldsNeed (HasLabelsOf s second) window other.window → map (λ p. joined r (found_in s first slice p) (found_in s second other p)) (positions window) ≡ cells_on Empty (merged r one two) window) (sym is)
    (subst (λ b. Holds (whole_window (shape_of_merge first b)) window → HoldsNeed (HasLabelsOf (shape_of_merge first b) first) window slice.window → HoldsNeed (HasLabelsOf (shape_of_merge first b) b) window other.window → map (λ p. joined r (found_in (shape_of_merge first b) first slice p) (found_in (shape_of_merge first b) b other p)) (positions window) ≡ cells_on Empty (merged r one two) window) two_same
    (subst (λ a. Holds (whole_window (shape_of_merge a two.shape)) window → HoldsNeed (HasLabelsOf (shape_of_merge a two.shape) a) window slice.window → HoldsNeed (HasLabelsOf (shape_of_merge a two.shape) two.shape) window other.window → map (λ p. joined r (found_in (shape_of_merge a two.shape) a slice p) (found_in (shape_of_merge a two.shape) two.shape other p)) (positions window) ≡ cells_on Empty (merged r one two) window) same
    (merged_here r one two slice other window (subst IsShape (sym same) valid) (subst IsShape (sym two_same) two_valid) whole on two_whole two_on)))
