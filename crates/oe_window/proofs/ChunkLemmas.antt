-- Each position of a shape lies in exactly the chunk of its number.
use Rattle.std.proofs.Common.{◌≡◌, ◌↔◌, ℕ, ◌+◌, ◌-◌, ◌*◌, ◌/◌, ◌%◌, ◌<◌, ◌≤◌, ◌==◌, ◌⊎◌, Bool, true, false, if◌then◌else◌, refl, sym, ap, ◌∙◌, arith, inl, inr}
use Rattle.std.proofs.Math.Nat.{div-mul-le_self}
use Rattle.std.proofs.lemmas.Bool.{cases_lt}
use Rattle.std.proofs.lemmas.Bool.Decides.{nat_tests}
use Rattle.std.proofs.lemmas.Nat.{div-add-mod', mod_below, div-mul-add, mod-mul-add, mul-add-lt, div_below, le-div, mul-le}
use Rattle.oe_dims.specs.Positions.{Position}
use Rattle.oe_window.specs.Windows.{IsAlong, IsIn, span_length}
use Rattle.oe_window.specs.Chunks.{Tiling, IsTiling, IsInside, parts_along, chunk_count, chunk_number, part_span, chunk_window}

-- ---- one dimension

-- there are no more parts than indices
pub parts_along-le : (n s : ℕ) → 1 ≤ s → parts_along n s ≤ n
parts_along-le n s h =
    elim (cases_lt n (parts_along n s)) [
      | inr le ↦ le
      | inl lt ↦ let back = div-mul-le_self (n + s - 1) s in
          let more : (n + 1) * s ≤ parts_along n s * s = mul-le (n + 1) s (parts_along n s) s (omega arith) (omega arith) in
          let most : n * 1 ≤ n * s = mul-le n 1 n s (omega arith) h in
          absurd (omega arith)
    ]

-- a part begins at an index
pub part_begins : (n s i : ℕ) → 1 ≤ s → i < parts_along n s → i * s < n
part_begins n s i h lt =
    let back : parts_along n s * s ≤ n + s - 1 = div-mul-le_self (n + s - 1) s in
    let more : (i + 1) * s ≤ parts_along n s * s = mul-le (i + 1) s (parts_along n s) s (omega arith) (omega arith) in
    omega arith

-- an index lies in a part
pub part_of : (n s p : ℕ) → 1 ≤ s → p < n → p / s < parts_along n s
part_of n s p h lt =
    let back : p / s * s ≤ p = div-mul-le_self p s in
    let fits : (p / s + 1) * s ≤ n + s - 1 = omega arith in
    let below : p / s + 1 ≤ parts_along n s = le-div (p / s + 1) (n + s - 1) s (omega arith) fits in
    omega arith

-- and only in that one
pub along_part : (n s i p : ℕ) → 1 ≤ s → IsAlong (part_span n s i) p → (p < n) × (p / s ≡ i)
along_part n s i p h a =
    let begun = a.begun in
    let before = a.before in
    let rest : p ≡ i * s + (p - i * s) = omega arith in
    let short : p - i * s < s = omega arith in
    (omega arith, ap (λ q. q / s) rest ∙ div-mul-add i s (p - i * s) short)

pub part_along : (n s i p : ℕ) → 1 ≤ s → p < n → p / s ≡ i → IsAlong (part_span n s i) p
part_along n s i p h lt e =
    let whole = div-add-mod' p s in
    let short = mod_below p s (omega arith) in
    let at_i : p / s * s ≡ i * s = ap (λ q. q * s) e in
    record { begun = omega arith; before = omega arith }

pub part_filled : (n s i : ℕ) → 1 ≤ s → i < parts_along n s → IsAlong (part_span n s i) (i * s)
part_filled n s i h lt =
    let begins = part_begins n s i h lt in
    record { begun = omega arith; before = omega arith }

pub part_short : (n s i : ℕ) → span_length (part_span n s i) ≤ s
part_short n s i = omega arith

-- ---- all dimensions

pub none_or_more : (b : Bool) (n k : ℕ) → k < (if b then 0 else n) → (b ≡ false) × (k < n)
none_or_more true n k h = absurd (omega arith)
none_or_more false n k h = (refl, h)

-- what it says that there is a chunk of a number
pub record IsNumber (g : Tiling) (k : ℕ) : Type 0 where
  pub bands : 0 < g.bands
  pub columns : 0 < parts_along g.x g.side_x
  pub rows : 0 < parts_along g.y g.side_y
  pub t : k / parts_along g.x g.side_x / parts_along g.y g.side_y < parts_along g.t g.side_t
  pub y : k / parts_along g.x g.side_x % parts_along g.y g.side_y < parts_along g.y g.side_y
  pub x : k % parts_along g.x g.side_x < parts_along g.x g.side_x

pos_or_zero : (n : ℕ) → (0 < n) ⊎ (n ≡ 0)
pos_or_zero n = elim (cases_lt 0 n) [ inl lt ↦ inl lt | inr ge ↦ inr (omega arith) ]

below_three : (a b c k : ℕ) → k < a * b * c → (0 < b) × (0 < c)
below_three a b c k h =
    elim (pos_or_zero b) [
      | inr zb ↦ let none : a * b * c ≡ 0 = rw zb (omega arith) in absurd (omega arith)
      | inl pb ↦ elim (pos_or_zero c) [
        | inr zc ↦ let none : a * b * c ≡ 0 = rw zc (omega arith) in absurd (omega arith)
        | inl pc ↦ (pb, pc)
      ]
    ]

pub is_number : (g : Tiling) (k : ℕ) → k < chunk_count g → IsNumber g k
is_number g k h =
    let some = none_or_more (g.bands == 0) _ k h in
    let pt = parts_along g.t g.side_t in
    let py = parts_along g.y g.side_y in
    let px = parts_along g.x g.side_x in
    let below : k < pt * py * px = some.1 in
    let positive = below_three pt py px k below in
    let rows : 0 < py = positive.0 in
    let columns : 0 < px = positive.1 in
    record {
      bands = grind (arith, nat_tests, some.0);
      columns = columns;
      rows = rows;
      t = div_below (k / px) py pt rows (div_below k px (pt * py) columns below);
      y = mod_below (k / px) py rows;
      x = mod_below k px columns;
    }

-- three digits make a number, and the number has those digits
pub digits_number : (k rows columns : ℕ) → (k / columns / rows * rows + k / columns % rows) * columns + k % columns ≡ k
digits_number k rows columns =
    ap (λ q. q * columns + k % columns) (div-add-mod' (k / columns) rows) ∙ div-add-mod' k columns

pub number_digits : (t y x rows columns k : ℕ) → y < rows → x < columns → (t * rows + y) * columns + x ≡ k → (t ≡ k / columns / rows) × (y ≡ k / columns % rows) × (x ≡ k % columns)
number_digits t y x rows columns k hy hx e =
    let plane : k / columns ≡ t * rows + y = ap (λ n. n / columns) (sym e) ∙ div-mul-add (t * rows + y) columns x hx in
    let column : k % columns ≡ x = ap (λ n. n % columns) (sym e) ∙ mod-mul-add (t * rows + y) columns x hx in
    let first : k / columns / rows ≡ t = ap (λ n. n / rows) plane ∙ div-mul-add t rows y hy in
    let second : k / columns % rows ≡ y = ap (λ n. n % rows) plane ∙ mod-mul-add t rows y hy in
    (sym first, sym second, sym column)

-- the sides of chunks have an index at least
pub record HasSides (g : Tiling) : Type 0 where
  pub t : 1 ≤ g.side_t
  pub y : 1 ≤ g.side_y
  pub x : 1 ≤ g.side_x

pub sides_of : (g : Tiling) → IsTiling g → HasSides g
sides_of g v = record { t = v.side_t.0; y = v.side_y.0; x = v.side_x.0 }

chunk_number_of : (g : Tiling) (k : ℕ) → HasSides g → (p : Position) → IsIn (chunk_window g k) p → IsInside g p × (chunk_number g p ≡ k)
chunk_number_of g k v p h =
    let t = along_part g.t g.side_t _ p.t v.t h.t in
    let y = along_part g.y g.side_y _ p.y v.y h.y in
    let x = along_part g.x g.side_x _ p.x v.x h.x in
    (record { t = t.0; bands = h.bands.before; y = y.0; x = x.0 }, rw (t.1, y.1, x.1) (digits_number k (parts_along g.y g.side_y) (parts_along g.x g.side_x)))

in_chunk_of : (g : Tiling) (k : ℕ) → HasSides g → (p : Position) → IsInside g p → chunk_number g p ≡ k → IsIn (chunk_window g k) p
in_chunk_of g k v p h e =
    let below_y = part_of g.y g.side_y p.y v.y h.y in
    let below_x = part_of g.x g.side_x p.x v.x h.x in
    let digits = number_digits (p.t / g.side_t) (p.y / g.side_y) (p.x / g.side_x) (parts_along g.y g.side_y) (parts_along g.x g.side_x) k below_y below_x e in
    record {
      t = part_along g.t g.side_t _ p.t v.t h.t digits.0;
      bands = record { begun = omega arith; before = h.bands };
      y = part_along g.y g.side_y _ p.y v.y h.y digits.1;
      x = part_along g.x g.side_x _ p.x v.x h.x digits.2;
    }

-- a chunk has exactly the positions of its number
pub positions_by_sides : (g : Tiling) (k : ℕ) → HasSides g → (p : Position) → IsIn (chunk_window g k) p ↔ (IsInside g p × (chunk_number g p ≡ k))
positions_by_sides g k v p = (chunk_number_of g k v p, λ h. in_chunk_of g k v p h.0 h.1)

pub chunk_positions : (g : Tiling) (k : ℕ) → IsTiling g → (p : Position) → IsIn (chunk_window g k) p ↔ (IsInside g p × (chunk_number g p ≡ k))
chunk_positions g k v = positions_by_sides g k (sides_of g v)

-- no chunk is empty
pub chunk_filled : (g : Tiling) (k : ℕ) → IsTiling g → k < chunk_count g → (p : Position) × IsIn (chunk_window g k) p
chunk_filled g k v h =
    let n = is_number g k h in (
      record { t = _; band = 0; y = _; x = _ },
      record {
        t = part_filled g.t g.side_t _ v.side_t.0 n.t;
        bands = record { begun = omega arith; before = n.bands };
        y = part_filled g.y g.side_y _ v.side_y.0 n.y;
        x = part_filled g.x g.side_x _ v.side_x.0 n.x;
      },
    )

-- each position of the shape has the number of a chunk
pub number_by_sides : (g : Tiling) (p : Position) → HasSides g → IsInside g p → chunk_number g p < parts_along g.t g.side_t * parts_along g.y g.side_y * parts_along g.x g.side_x
number_by_sides g p v h =
    let pt = parts_along g.t g.side_t in
    let py = parts_along g.y g.side_y in
    let px = parts_along g.x g.side_x in
    let t = part_of g.t g.side_t p.t v.t h.t in
    let y = part_of g.y g.side_y p.y v.y h.y in
    let x = part_of g.x g.side_x p.x v.x h.x in
    let plane : p.t / g.side_t * py + p.y / g.side_y < py * pt = mul-add-lt (p.t / g.side_t) py (p.y / g.side_y) pt t y in
    let two : py * pt ≡ pt * py = omega arith in
    omega (arith, mul-add-lt (p.t / g.side_t * py + p.y / g.side_y) px (p.x / g.side_x) (py * pt) plane x)

pub chunk_number_below : (g : Tiling) (p : Position) → IsTiling g → IsInside g p → chunk_number g p < parts_along g.t g.side_t * parts_along g.y g.side_y * parts_along g.x g.side_x
chunk_number_below g p v h = number_by_sides g p (sides_of g v) h
