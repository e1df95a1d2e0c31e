-- What stands in a strip of a row of environments.
use Rattle.std.proofs.Common.{◌≡◌, ◌≢◌, ℕ, ◌+◌, ◌-◌, ◌*◌, ◌<◌, ◌≤◌, ◌∷◌, [], List, refl, sym, ap, ◌∙◌, length, map, drop, get_or, length-drop, arith, inl, inr, ltb, get_or-set_other, get_or-set_same, below_more, min}
use Rattle.std.specs.List.{slice_range, slice_set, range_with_len}
use Rattle.std.proofs.Math.Nat.{mul-le-mul_right}
use Rattle.std.proofs.lemmas.Bool.{cases_Bool}
use Rattle.std.proofs.lemmas.Bool.Decides.{Decides-ltb, nat_tests}
use Rattle.std.proofs.lemmas.List.{get_or-take, get_or-drop, get_or_past, take_all}
use Rattle.std.proofs.lemmas.List.FromFn.{get_or-map-range_with_len, length-map-range_with_len}
use Rattle.oe_cell.specs.declared.cell.Cell.{Cell}
use Rattle.oe_cell.specs.declared.cell.Cell.TheVariants.{Empty}
use Rattle.oe_fold.specs.Columns.{column}
use Rattle.oe_expr.specs.EnvRows.{HasRowCells}
use Rattle.oe_expr.specs.Programs.{IsOperand, IsProgramStep}
use Rattle.oe_expr.specs.Scope.{PlainScope, apply, reduce, merge}
use Rattle.oe_expr.specs.Strips.{HasOperand, HasStep}
use Rattle.oe_expr.specs.declared.program.Operand.{Operand}
use Rattle.oe_expr.specs.declared.program.Operand.TheVariants.{Constant, X, Y, At, Labelled, Register}
use Rattle.oe_expr.specs.declared.program.Step.{Step}
use Rattle.oe_expr.specs.declared.program.Step.TheVariants.{Unary, Binary, Choice, Reduction, Written}
use Rattle.oe_expr.specs.declared.row.EnvRow.{EnvRow}

-- one cell more is written
pub written : (want : ℕ → Cell) (out : List Cell) (k : ℕ) (v : Cell) → k < length out → ((j : ℕ) → j < k → get_or out j Empty ≡ want j) → v ≡ want k
    → (j : ℕ) → j < k + 1 → get_or (slice_set out k v) j Empty ≡ want j
written want out k v h before here =
    below_more (λ (j : ℕ). get_or (slice_set out k v) j Empty ≡ want j) k
    (λ j below. let other : j ≢ k = omega arith in get_or-set_other out k j v Empty other ∙ before j below)
    (get_or-set_same out k v Empty h ∙ here)

-- the others are as they were
pub not_written : (old out : List Cell) (k : ℕ) (v : Cell) → ((j : ℕ) → k ≤ j → get_or out j Empty ≡ get_or old j Empty)
    → (j : ℕ) → k + 1 ≤ j → get_or (slice_set out k v) j Empty ≡ get_or old j Empty
not_written old out k v rest j h = let other : j ≢ k = omega arith in get_or-set_other out k j v Empty other ∙ rest j (omega arith)

-- ---- parts of rows

-- a part of a list, cell by cell
pub get_or-part : (xs : List Cell) (first n j : ℕ) → j < n → get_or (slice_range xs first (first + n)) j Empty ≡ get_or xs (first + j) Empty
get_or-part xs first n j h =
    let below : j < first + n - first = omega arith in
    get_or-take (first + n - first) (drop first xs) j Empty below ∙ get_or-drop first xs j Empty

pub get_or-column : (cells : List Cell) (stride count k t : ℕ) → t < count → get_or (column cells stride count k) t Empty ≡ get_or cells (t * stride + k) Empty
get_or-column cells stride count k t h = get_or-map-range_with_len (λ (s : ℕ). get_or cells (s * stride + k) Empty) 0 count t t Empty h (omega arith)

pub column_past : (cells : List Cell) (stride count k t : ℕ) → count ≤ t → get_or (column cells stride count k) t Empty ≡ Empty
column_past cells stride count k t h =
    let long : length (column cells stride count k) ≡ count = length-map-range_with_len (λ (s : ℕ). get_or cells (s * stride + k) Empty) 0 count in
    get_or_past (column cells stride count k) t Empty (omega arith)

-- the cells of a row from one on, or from its end where it ends before
pub get_or-rest : (xs : List Cell) (from i : ℕ) → get_or (drop (min from (length xs)) xs) i Empty ≡ get_or xs (from + i) Empty
get_or-rest xs from i = elim (cases_Bool (ltb from (length xs))) [
  | inl e ↦
      let within : from < length xs = (Decides-ltb from (length xs)).0 e in
      let all : min from (length xs) ≡ from = omega arith in
      ap (λ (n : ℕ). get_or (drop n xs) i Empty) all ∙ get_or-drop from xs i Empty
  | inr e ↦
      let past : length xs ≤ from = grind (arith, nat_tests) in
      let all : min from (length xs) ≡ length xs = omega arith in
      let none : length xs ≤ length xs + i = omega arith in
      let beyond : length xs ≤ from + i = omega arith in
      ap (λ (n : ℕ). get_or (drop n xs) i Empty) all ∙ get_or-drop (length xs) xs i Empty ∙ get_or_past xs (length xs + i) Empty none ∙ sym (get_or_past xs (from + i) Empty beyond)
]

map_same : (f g : ℕ → Cell) → ((t : ℕ) → f t ≡ g t) → (ts : List ℕ) → map f ts ≡ map g ts
map_same f g same [] = refl
map_same f g same (t ∷ ts) = let one = same t in let rest : map f ts ≡ map g ts = map_same f g same ts in cc

pub column-rest : (cells : List Cell) (stride count from m k : ℕ) → m ≡ min from (length cells) → column (slice_range cells m (length cells)) stride count k ≡ column cells stride count (from + k)
column-rest cells stride count from m k e =
    let long : length (drop m cells) ≡ length cells - m = length-drop m cells in
    let all : slice_range cells m (length cells) ≡ drop m cells = take_all (length cells - m) (drop m cells) (omega arith) in
    ap (λ (xs : List Cell). column xs stride count k) (all ∙ ap (λ (n : ℕ). drop n cells) e)
    ∙ map_same (λ (t : ℕ). get_or (drop (min from (length cells)) cells) (t * stride + k) Empty) (λ (t : ℕ). get_or cells (t * stride + (from + k)) Empty)
    (λ t. let at : from + (t * stride + k) ≡ t * stride + (from + k) = omega arith in
    get_or-rest cells from (t * stride + k) ∙ ap (λ (i : ℕ). get_or cells i Empty) at) (range_with_len 0 count)

-- ---- what a program takes stands in a row

pub has_fewer : (scope : PlainScope) (row : EnvRow) (m n : ℕ) → m ≤ n → HasRowCells scope row n → HasRowCells scope row m
has_fewer (apply kind) row m n h has = omega arith
has_fewer (reduce kind labels lists) row m n h has = (has.0, omega arith)
has_fewer (merge kind) row m n h has = (omega arith, omega arith)

module _ (scope : PlainScope) (row : EnvRow) (from n m number : ℕ) (has : HasRowCells scope row (from + n)) (room : number * n ≤ m) where
  pub has_operand : (o : Operand) → IsOperand scope number o → HasOperand row from n m o
  has_operand o h = of scope o has h
    where
      register : (r : ℕ) → r < number → r * n + n ≤ m
      register r below =
          let rows : (r + 1) * n ≤ number * n = mul-le-mul_right n (omega arith) in
          let next : (r + 1) * n ≡ r * n + n = omega arith in
          omega arith

      of : (s : PlainScope) (o : Operand) → HasRowCells s row (from + n) → IsOperand s number o → HasOperand row from n m o
      of s (Constant c) has h = tt
      of (apply kind) X has h = has
      of (reduce kind labels lists) X has h = absurd h
      of (merge kind) X has h = has.0
      of (apply kind) Y has h = absurd h
      of (reduce kind labels lists) Y has h = absurd h
      of (merge kind) Y has h = has.1
      of (apply kind) (At k) has h = absurd h
      of (reduce kind labels lists) (At k) has h = record { strides = has.0; ends = has.1 }
      of (merge kind) (At k) has h = absurd h
      of (apply kind) (Labelled k) has h = absurd h
      of (reduce kind labels lists) (Labelled k) has h = record { strides = has.0; ends = has.1 }
      of (merge kind) (Labelled k) has h = absurd h
      of s (Register r) has h = register r h

  pub has_step : (elements : List Operand) (s : Step) → IsProgramStep scope elements number s → HasStep row from n m elements s
  has_step elements (Unary f x) h = has_operand x h
  has_step elements (Binary f x y) h = (has_operand x h.0, has_operand y h.1)
  has_step elements (Choice value accept reject) h = (has_operand value h.0, has_operand accept h.1, has_operand reject h.2)
  has_step elements (Reduction reducer ignore) h = has_operand (At 0) h
  has_step elements (Written reducer ignore first end) h =
      record { rises = h.rises; ends = h.ends; few = h.few; each = λ k d below. has_operand _ (h.each k d below) }
