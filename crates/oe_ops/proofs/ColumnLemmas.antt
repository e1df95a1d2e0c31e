-- The lists along a dimension of a slice, as columns of its rows.
use Rattle.std.proofs.Common.{◌≡◌, ℕ, zero, suc, ◌+◌, ◌-◌, ◌*◌, ◌<◌, ◌≤◌, List, [], ◌∷◌, length, map, take, drop, get_or, refl, sym, ap, ◌∙◌, subst, arith}
use Rattle.std.specs.List.{All, range_with_len, slice_index_or}
use Rattle.std.specs.Prelude.{Contains}
use Rattle.std.proofs.Math.Nat.{add-mul, mul_assoc}
use Rattle.std.proofs.Math.Nat.{le-mul_of_pos_right}
use Rattle.std.proofs.lemmas.Nat.{mul-le}
use Rattle.std.proofs.Math.Seq.{take-length}
use Rattle.std.proofs.lemmas.List.{get_or-drop, length-drop, length-map}
use Rattle.std.proofs.lemmas.List.Elements.{All-map, Contains-get_or}
use Rattle.std.proofs.lemmas.List.FromFn.{length-map-range_with_len}
use Rattle.oe_cell.specs.declared.cell.Cell.{Cell}
use Rattle.oe_cell.specs.declared.cell.Cell.TheVariants.{Empty}
use Rattle.oe_cube.specs.Kinds.{IsOfKind}
use Rattle.oe_dims.specs.Positions.{Position}
use Rattle.oe_dims.specs.declared.kind.CellKind.{CellKind}
use Rattle.oe_dims.specs.declared.kind.Kind.{Kind}
use Rattle.oe_dims.specs.declared.kind.Kind.TheVariants.{Time, Bands, Y, X}
use Rattle.oe_expr.specs.Callback.{Callback, KeepsKind, callback_kind, callback_value, environment}
use Rattle.oe_expr.specs.EnvRows.{AreEnvironments, HasRowCells, list_at, x_at, y_at}
use Rattle.oe_expr.specs.Scope.{IsEnvironmentOf, IsListNumber, labels_in, list_labels, no_labels}
use Rattle.oe_expr.specs.declared.row.EnvRow.{EnvRow}
use Rattle.oe_fold.specs.Columns.{column}
use Rattle.oe_window.specs.Windows.{IsIn, number_in, position_count, span_length}
use Rattle.oe_window.specs.declared.window.Window.{Window}
use Rattle.oe_ops.specs.Lists.{TakesList, list_from, stride_along, value_of_list, with_index}
use Rattle.oe_ops.specs.Slices.{IsCounted, along_x, cell_of}
use Rattle.oe_ops.specs.declared.slice.Slice.{Slice}
use Rattle.oe_ops.proofs.KindLemmas.{fits_at}
use Rattle.oe_ops.proofs.NumberLemmas.{AreSome, are_some, number_below}

-- ---- numbers along a dimension

t_step : (a i b y x k nb ny nx : ℕ) → (((a + i) * nb + b) * ny + y) * nx + (x + k) ≡ ((a * nb + b) * ny + y) * nx + x + i * (nb * ny * nx) + k
t_step a i b y x k nb ny nx =
    let one = add-mul a i nb in
    let plane : (a + i) * nb + b ≡ a * nb + b + i * nb = omega (arith, one) in
    let two = add-mul (a * nb + b) (i * nb) ny in
    let line : (a * nb + b + i * nb) * ny + y ≡ (a * nb + b) * ny + y + i * nb * ny = omega (arith, two) in
    let three = add-mul ((a * nb + b) * ny + y) (i * nb * ny) nx in
    let all : i * nb * ny * nx ≡ i * (nb * ny * nx) = ap (λ n. n * nx) (mul_assoc i nb ny) ∙ mul_assoc i (nb * ny) nx in
    rw (plane, line) (omega (arith, three, all))

band_step : (a b i y x k ny nx : ℕ) → ((a + (b + i)) * ny + y) * nx + (x + k) ≡ ((a + b) * ny + y) * nx + x + i * (ny * nx) + k
band_step a b i y x k ny nx =
    let plane : a + (b + i) ≡ a + b + i = omega arith in
    let two = add-mul (a + b) i ny in
    let line : (a + b + i) * ny + y ≡ (a + b) * ny + y + i * ny = omega (arith, two) in
    let three = add-mul ((a + b) * ny + y) (i * ny) nx in
    let all = mul_assoc i ny nx in
    rw (plane, line) (omega (arith, three, all))

y_step : (a y i x k nx : ℕ) → (a + (y + i)) * nx + (x + k) ≡ (a + y) * nx + x + i * nx + k
y_step a y i x k nx =
    let line : a + (y + i) ≡ a + y + i = omega arith in
    let three = add-mul (a + y) i nx in
    rw line (omega (arith, three))

beyond : (from i begin : ℕ) → begin ≤ from → from + i - begin ≡ from - begin + i
beyond from i begin h = omega arith

-- the number of a position further along a dimension and along x
pub number_step : (w : Window) (along : Kind) (p : Position) (from i k : ℕ) → IsIn w (with_index along p from) → (along ≡ X → k ≡ 0) → number_in w (with_index along (along_x p k) (from + i)) ≡ number_in w (with_index along p from) + i * stride_along along w + k
number_step w Time p from i k h single =
    let t = h.t.begun in
    let x = h.x.begun in
    rw (beyond from i w.t.from t, beyond p.x k w.x.from x) (t_step (from - w.t.from) i (p.band - w.bands.from) (p.y - w.y.from) (p.x - w.x.from) k (span_length w.bands) (span_length w.y) (span_length w.x))
number_step w Bands p from i k h single =
    let band = h.bands.begun in
    let x = h.x.begun in
    rw (beyond from i w.bands.from band, beyond p.x k w.x.from x) (band_step ((p.t - w.t.from) * span_length w.bands) (from - w.bands.from) i (p.y - w.y.from) (p.x - w.x.from) k (span_length w.y) (span_length w.x))
number_step w Y p from i k h single =
    let y = h.y.begun in
    let x = h.x.begun in
    rw (beyond from i w.y.from y, beyond p.x k w.x.from x) (y_step (((p.t - w.t.from) * span_length w.bands + (p.band - w.bands.from)) * span_length w.y) (from - w.y.from) i (p.x - w.x.from) k (span_length w.x))
number_step w X p from i k h single =
    let x = h.x.begun in
    let none = single refl in
    rw (beyond from i w.x.from x) (omega arith)

-- ---- lists

-- the cells from one on
pub rest_is : (cells : List Cell) (n : ℕ) → take (length cells - n) (drop n cells) ≡ drop n cells
rest_is cells n = ap (λ m. take m (drop n cells)) (sym (length-drop n cells)) ∙ take-length (drop n cells)

map-range : (f g : ℕ → Cell) (a n : ℕ) → ((i : ℕ) → i < a + n → f i ≡ g i) → map f (range_with_len a n) ≡ map g (range_with_len a n)
map-range f g a zero h = refl
map-range f g a (suc n) h =
    let first : f a ≡ g a = h a (omega arith) in
    let rest : map f (range_with_len (a + 1) n) ≡ map g (range_with_len (a + 1) n) = map-range f g (a + 1) n (λ i lt. h i (omega arith)) in
    ap (λ (v : Cell). v ∷ map f (range_with_len (a + 1) n)) first ∙ ap (λ (l : List Cell). g a ∷ l) rest

-- the columns of the rows from a number on are the lists
pub column_is : (slice : Slice) (along : Kind) (p : Position) (from count k : ℕ) → IsIn slice.window (with_index along p from) → (along ≡ X → k ≡ 0) → column (drop (number_in slice.window (with_index along p from)) slice.cells.now) (stride_along along slice.window) count k ≡ list_from slice along from count (along_x p k)
column_is slice along p from count k h single =
    map-range _ _ 0 count (λ i lt.
    get_or-drop (number_in slice.window (with_index along p from)) slice.cells.now (i * stride_along along slice.window + k) Empty
    ∙ ap (λ n. get_or slice.cells.now n Empty)
    (let step = number_step slice.window along p from i k h single in
    let q : number_in slice.window (with_index along p from) + (i * stride_along along slice.window + k) ≡ number_in slice.window (with_index along (along_x p k) (from + i)) = omega (arith, step) in q))

-- the first of the first list
pub first_in : (w : Window) (along : Kind) (p : Position) (from : ℕ) → IsIn w (with_index along (along_x p 0) (from + 0)) → IsIn w (with_index along p from)
first_in w Time p from h = let x : p.x + 0 ≡ p.x = omega arith in let f : from + 0 ≡ from = omega arith in subst (λ i. IsIn w (with_index Time p i)) f (subst (λ i. IsIn w (record p { t = from + 0; x = i })) x h)
first_in w Bands p from h = let x : p.x + 0 ≡ p.x = omega arith in let f : from + 0 ≡ from = omega arith in subst (λ i. IsIn w (with_index Bands p i)) f (subst (λ i. IsIn w (record p { band = from + 0; x = i })) x h)
first_in w Y p from h = let x : p.x + 0 ≡ p.x = omega arith in let f : from + 0 ≡ from = omega arith in subst (λ i. IsIn w (with_index Y p i)) f (subst (λ i. IsIn w (record p { y = from + 0; x = i })) x h)
first_in w X p from h = let f : from + 0 ≡ from = omega arith in subst (λ i. IsIn w (with_index X p i)) f h

times_next : (count stride : ℕ) → 0 < count → count * stride ≡ (count - 1) * stride + stride
times_next count stride h =
    let next : count ≡ count - 1 + 1 = omega arith in
    ap (λ n. n * stride) next ∙ add-mul (count - 1) 1 stride ∙ (let one : (count - 1) * stride + 1 * stride ≡ (count - 1) * stride + stride = omega arith in one)

-- the lists end within the cells
pub lists_within : (slice : Slice) (along : Kind) (p : Position) (from count n first stride : ℕ) → first ≡ number_in slice.window (with_index along p from) → stride ≡ stride_along along slice.window → 0 < n → 0 < count → IsCounted slice → (along ≡ X → n ≡ 1) → ((k i : ℕ) → k < n → i < count → IsIn slice.window (with_index along (along_x p k) (from + i))) → count * stride + n ≤ length (drop first slice.cells.now) + stride
lists_within slice along p from count n first stride first_is stride_is some full counted single inside =
    let begin = first_in slice.window along p from (inside 0 0 some full) in
    let last = number_below slice.window (with_index along (along_x p (n - 1)) (from + (count - 1))) (inside (n - 1) (count - 1) (omega arith) (omega arith)) in
    let step = number_step slice.window along p from (count - 1) (n - 1) begin (λ e. let one = single e in omega arith) in
    let all = times_next count stride full in
    let scaled : (count - 1) * stride ≡ (count - 1) * stride_along along slice.window = ap (λ s. (count - 1) * s) stride_is in
    let rest = length-drop first slice.cells.now in
    omega (arith, last, step, all, scaled, rest, first_is, counted)

-- the column is the list
pub column_here : (slice : Slice) (along : Kind) (p : Position) (from count k first stride : ℕ) → first ≡ number_in slice.window (with_index along p from) → stride ≡ stride_along along slice.window → IsIn slice.window (with_index along p from) → (along ≡ X → k ≡ 0) → column (drop first slice.cells.now) stride count k ≡ list_from slice along from count (along_x p k)
column_here slice along p from count k first stride first_is stride_is begin single =
    ap (λ f. column (drop f slice.cells.now) stride count k) first_is
    ∙ ap (λ s. column (drop (number_in slice.window (with_index along p from)) slice.cells.now) s count k) stride_is
    ∙ column_is slice along p from count k begin single

-- ---- strides

pub stride_some : (w : Window) → AreSome w → (along : Kind) → 0 < stride_along along w
stride_some w some Time =
    let bands = some.bands in
    let y = some.y in
    let x = some.x in
    let planes = le-mul_of_pos_right (span_length w.bands) y in
    let all = le-mul_of_pos_right (span_length w.bands * span_length w.y) x in
    omega (arith, planes, all)
stride_some w some Bands =
    let y = some.y in
    let x = some.x in
    let lines = le-mul_of_pos_right (span_length w.y) x in
    omega (arith, lines)
stride_some w some Y = some.x
stride_some w some X = omega arith

pub record StridesFit (w : Window) : Type 0 where
  pub planes : span_length w.bands * span_length w.y ≤ position_count w
  pub times : span_length w.bands * span_length w.y * span_length w.x ≤ position_count w
  pub lines : span_length w.y * span_length w.x ≤ position_count w

pub strides_fit : (w : Window) → 0 < position_count w → StridesFit w
strides_fit w h =
    let some = are_some w h in
    let t = some.t in
    let bands = some.bands in
    let y = some.y in
    let x = some.x in
    let nt = span_length w.t in
    let nb = span_length w.bands in
    let ny = span_length w.y in
    let nx = span_length w.x in
    let one : 1 * nb ≤ nt * nb = mul-le 1 nb nt nb (omega arith) (omega arith) in
    let two : nb * ny ≤ nt * nb * ny = mul-le nb ny (nt * nb) ny (omega arith) (omega arith) in
    let three : nb * ny * nx ≤ nt * nb * ny * nx = mul-le (nb * ny) nx (nt * nb * ny) nx two (omega arith) in
    let planes = le-mul_of_pos_right (nb * ny) x in
    let four : 1 * ny ≤ nb * ny = mul-le 1 ny nb ny (omega arith) (omega arith) in
    let lines : ny * nx ≤ nb * ny * nx = mul-le ny nx (nb * ny) nx (omega arith) (omega arith) in
    record { planes = omega (arith, three, planes); times = three; lines = omega (arith, three, lines) }

-- ---- environments

nothing_at : (cells : List Cell) (k : ℕ) → cells ≡ [] → slice_index_or cells k Empty ≡ Empty
nothing_at cells k none = rw none refl

pub list_value : (c : Callback) (xs ys : List Cell) (list k : ℕ) (its cells : List Cell) → xs ≡ [] → ys ≡ [] → its ≡ cells → callback_value c (environment c (slice_index_or xs k Empty) (slice_index_or ys k Empty) its list) ≡ value_of_list c list cells
list_value c xs ys list k its cells x y is =
    ap (λ v. callback_value c (environment c v (slice_index_or ys k Empty) its list)) (nothing_at xs k x)
    ∙ ap (λ v. callback_value c (environment c Empty v its list)) (nothing_at ys k y)
    ∙ ap (λ l. callback_value c (environment c Empty Empty l list)) is

column_fits : (kind : CellKind) (cells : List Cell) (first stride count k : ℕ) → All (IsOfKind kind) cells → All (IsOfKind kind) (column (drop first cells) stride count k)
column_fits kind cells first stride count k h =
    All-map (IsOfKind kind) (λ t. slice_index_or (drop first cells) (t * stride + k) Empty) (range_with_len 0 count)
    (λ i other lt. subst (IsOfKind kind) (sym (get_or-drop first cells (slice_index_or (range_with_len 0 count) i other * stride + k) Empty)) (fits_at kind cells _ h))

pub are_lists : (c : Callback) (row : EnvRow) (n : ℕ) (cells : List Cell) (first : ℕ) → row.cells.now ≡ drop first cells → TakesList c row.list row.count cells → 0 < row.stride → row.count * row.stride + n ≤ length (drop first cells) + row.stride → AreEnvironments c row n
are_lists c row n cells first is takes some ends =
    let its = map (labels_in takes.labels) takes.lists in
    let as_many : length its ≡ length takes.lists = length-map takes.lists (labels_in takes.labels) in
    let there : Contains its (slice_index_or its row.list no_labels) = Contains-get_or its row.list no_labels (subst (λ m. row.list < m) (sym as_many) takes.list_is) in
    record {
      has_cells = subst (λ s. HasRowCells s row n) (sym takes.scope_is) (some, subst (λ (l : List Cell). row.count * row.stride + n ≤ length l + row.stride) (sym is) ends);
      each = λ k lt. record {
        list_is = subst (λ s. IsListNumber s row.list) (sym takes.scope_is) takes.list_is;
        cells_fit = subst (λ s. IsEnvironmentOf s (record { x = x_at row k; y = y_at row k; context = c.context; cells = list_at row k; labels = slice_index_or (list_labels s) row.list no_labels })) (sym takes.scope_is)
            (record {
              among = there;
              as_many = length-map-range_with_len (λ t. slice_index_or row.cells.now (t * row.stride + k) Empty) 0 row.count ∙ sym takes.as_many;
              of_kind = subst (λ (l : List Cell). All (IsOfKind takes.kind) (column l row.stride row.count k)) (sym is) (column_fits takes.kind cells first row.stride row.count k takes.of_kind);
            });
      };
    }

-- ---- kinds

pub value_fits : (c : Callback) (slice : Slice) (along : Kind) (from count list : ℕ) (p : Position) → TakesList c list count slice.cells.now → KeepsKind c → IsOfKind (callback_kind c) (value_of_list c list (list_from slice along from count p))
value_fits c slice along from count list p takes keeps =
    let its = map (labels_in takes.labels) takes.lists in
    let as_many : length its ≡ length takes.lists = length-map takes.lists (labels_in takes.labels) in
    let there : Contains its (slice_index_or its list no_labels) = Contains-get_or its list no_labels (subst (λ m. list < m) (sym as_many) takes.list_is) in
    let cells = list_from slice along from count p in
    keeps Empty Empty cells list (record {
      list_is = subst (λ s. IsListNumber s list) (sym takes.scope_is) takes.list_is;
      cells_fit = subst (λ s. IsEnvironmentOf s (record { x = Empty; y = Empty; context = c.context; cells = cells; labels = slice_index_or (list_labels s) list no_labels })) (sym takes.scope_is)
          (record {
            among = there;
            as_many = length-map-range_with_len (λ i. cell_of slice (with_index along p (from + i))) 0 count ∙ sym takes.as_many;
            of_kind = All-map (IsOfKind takes.kind) (λ i. cell_of slice (with_index along p (from + i))) (range_with_len 0 count) (λ i other lt. fits_at takes.kind slice.cells.now _ takes.of_kind);
          });
    })
