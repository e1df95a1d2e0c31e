-- The planes and the rows of a window are pieces of the list of its positions.
use Rattle.std.proofs.Common.{◌≡◌, ℕ, zero, suc, ◌+◌, ◌-◌, ◌*◌, ◌/◌, ◌%◌, ◌<◌, ◌==◌, false, if◌then◌else◌, List, [], ◌∷◌, length, take, drop, get_or, refl, sym, ap, ◌∙◌, arith, Some, ◌≤◌}
use Rattle.std.specs.List.{slice_get}
use Rattle.std.proofs.lemmas.Bool.Decides.{nat_tests}
use Rattle.std.proofs.lemmas.List.{drop_more}
use Rattle.std.proofs.lemmas.Nat.{div-add-mod', mod_below, div_below, mul-le}
use Rattle.std.proofs.lemmas.Option.{slice_get_within, get_or_from_slice_get}
use Rattle.oe_dims.specs.Positions.{Position}
use Rattle.oe_window.specs.Parts.{IsPartFrom, plane_size, plane_count, plane_of, row_count, row_of}
use Rattle.oe_window.specs.Windows.{IsAlong, IsIn, IsEmpty, Holds, span_at, span_length, positions, position_count, number_in, first_position}
use Rattle.oe_window.specs.declared.window.Span.{Span}
use Rattle.oe_window.specs.declared.window.Window.{Window}
use Rattle.oe_window.proofs.ChunkLemmas.{digits_number, none_or_more}
use Rattle.oe_window.proofs.WholeLemmas.{number_in_below}
use Rattle.oe_window.proofs.WindowLemmas.{first_in, position_at, position_number, length-positions, count_of_empty, filled_unless_empty, partial_products}

-- ---- one piece of a list

-- a list whose elements stand in another one from an index on is that piece of it
piece_is : {X : Type 0} (xs ys : List X) (a : ℕ) → ((i : ℕ) (y : X) → slice_get ys i ≡ Some y → slice_get xs (a + i) ≡ Some y) → take (length ys) (drop a xs) ≡ ys
piece_is xs [] a h = refl
piece_is xs (y ∷ ys) a h =
    let begin : a + 0 ≡ a = omega arith in
    let here : slice_get xs a ≡ Some y = sym (ap (slice_get xs) begin) ∙ h 0 y refl in
    let first : get_or xs a y ≡ y = get_or_from_slice_get xs a y y here in
    let split = drop_more xs a y (slice_get_within xs a y here) in
    let rest = piece_is xs ys (a + 1) (λ i z e. let next : a + 1 + i ≡ a + suc i = omega arith in ap (slice_get xs) next ∙ h (suc i) z e) in
    rw (split, first, rest) refl

pub part_from : (first : ℕ) (w part : Window) → Holds w part → ((p : Position) → IsIn part p → number_in w p ≡ first + number_in part p) → IsPartFrom first w part
part_from first w part inside numbered =
    let all = length-positions part in
    let long : first + position_count part - first ≡ length (positions part) = omega arith in
    record {
      inside = inside;
      numbered = numbered;
      listed = ap (λ n. take n (drop first (positions w))) long ∙ piece_is (positions w) (positions part) first (λ i p e.
          let here = position_number part i p e in
          let number : first + i ≡ number_in w p = ap (λ n. first + n) here.1 ∙ sym (numbered p here.0) in
          ap (slice_get (positions w)) number ∙ position_at w p (inside p here.0));
    }

-- ---- how many planes and rows there are

none_if : (n m : ℕ) → n ≡ 0 → (if n == 0 then 0 else m) ≡ 0
none_if n m e = rw e refl

some_if : (n m : ℕ) → 0 < n → (if n == 0 then 0 else m) ≡ m
some_if n m h = let some : n == 0 ≡ false = grind (arith, nat_tests) in rw some refl

pub no_planes : (w : Window) → IsEmpty w → (0 ≡ plane_count w) × (0 * plane_size w ≡ position_count w)
no_planes w e = let none = count_of_empty w e in (sym (none_if (position_count w) (span_length w.t * span_length w.bands) none), omega arith)

pub no_rows : (w : Window) → IsEmpty w → (0 ≡ row_count w) × (0 * span_length w.x ≡ position_count w)
no_rows w e = let none = count_of_empty w e in (sym (none_if (position_count w) (span_length w.t * span_length w.bands * span_length w.y) none), omega arith)

-- of a window with positions the products on the way to their count are no more
pub record AreCounted (w : Window) (limit : ℕ) : Type 0 where
  pub planes : span_length w.t * span_length w.bands < limit
  pub rows : span_length w.t * span_length w.bands * span_length w.y < limit
  pub plane_count_is : plane_count w ≡ span_length w.t * span_length w.bands
  pub row_count_is : row_count w ≡ span_length w.t * span_length w.bands * span_length w.y

pub counted : (w : Window) (limit : ℕ) → ¬ IsEmpty w → position_count w < limit → AreCounted w limit
counted w limit some h =
    let f = filled_unless_empty w some in
    let y = f.y in
    let x = f.x in
    let fits = partial_products (span_length w.t) (span_length w.bands) (span_length w.y) (span_length w.x) limit (omega arith) (omega arith) h in
    let below = number_in_below w (first_position w) (first_in w f) in
    let more : 0 < position_count w = omega arith in
    record {
      planes = fits.0;
      rows = fits.1;
      plane_count_is = some_if (position_count w) (span_length w.t * span_length w.bands) more;
      row_count_is = some_if (position_count w) (span_length w.t * span_length w.bands * span_length w.y) more;
    }

-- ---- planes and rows

some_factor : (a b : ℕ) → 0 < a * b → (0 < a) × (0 < b)
some_factor zero b h = absurd (omega arith)
some_factor (suc a) zero h = absurd (omega arith)
some_factor (suc a) (suc b) h = (omega arith, omega arith)

one_long : (i : ℕ) → span_length (span_at i) ≡ 1
one_long i = omega arith

-- one index of a span
pub at_one : (i p : ℕ) → IsAlong (span_at i) p → p ≡ i
at_one i p h = let begun = h.begun in let before = h.before in omega arith

in_span : (s : Span) (i p : ℕ) → i < span_length s → IsAlong (span_at (s.from + i)) p → IsAlong s p
in_span s i p h a = let at = at_one (s.from + i) p a in record { begun = omega arith; before = omega arith }

steps_along : (s : Span) (i p : ℕ) → IsAlong (span_at (s.from + i)) p → (p - s.from ≡ i) × (p - (s.from + i) ≡ 0)
steps_along s i p a = let at = at_one (s.from + i) p a in (omega arith, omega arith)

pub plane_steps : (w : Window) (n : ℕ) → n < plane_count w → (n / span_length w.bands < span_length w.t) × (n % span_length w.bands < span_length w.bands)
plane_steps w n h =
    let below = (none_or_more (position_count w == 0) (span_length w.t * span_length w.bands) n h).1 in
    let some = some_factor (span_length w.t) (span_length w.bands) (omega arith) in
    (div_below n (span_length w.bands) (span_length w.t) some.1 below, mod_below n (span_length w.bands) some.1)

plane_number : (n t b nb ny nx y x t1 b1 l : ℕ) → t * nb + b ≡ n → t1 ≡ 0 → b1 ≡ 0 → ((t * nb + b) * ny + y) * nx + x ≡ n * (ny * nx) + (((t1 * l + b1) * ny + y) * nx + x)
plane_number n t b nb ny nx y x t1 b1 l e et eb = rw (e, et, eb) (omega arith)

pub plane_part : (w : Window) (n : ℕ) → n < plane_count w → IsPartFrom (n * plane_size w) w (plane_of w n)
plane_part w n h =
    let nb = span_length w.bands in
    let steps = plane_steps w n h in
    part_from (n * plane_size w) w (plane_of w n)
    (λ p a. record { t = in_span w.t (n / nb) p.t steps.0 a.t; bands = in_span w.bands (n % nb) p.band steps.1 a.bands; y = a.y; x = a.x })
    (λ p a.
    let t = steps_along w.t (n / nb) p.t a.t in
    let b = steps_along w.bands (n % nb) p.band a.bands in
    let digits : (p.t - w.t.from) * nb + (p.band - w.bands.from) ≡ n = rw (t.0, b.0) (div-add-mod' n nb) in
    plane_number n (p.t - w.t.from) (p.band - w.bands.from) nb (span_length w.y) (span_length w.x) (p.y - w.y.from) (p.x - w.x.from) _ _ _ digits t.1 b.1)

-- each plane has the same size, and they end within the window
pub plane_of_size : (w : Window) (n : ℕ) → position_count (plane_of w n) ≡ plane_size w
plane_of_size w n =
    let t = one_long (w.t.from + n / span_length w.bands) in
    let b = one_long (w.bands.from + n % span_length w.bands) in
    rw (t, b) (omega arith)

pub plane_ends : (w : Window) (n : ℕ) → n < plane_count w → n * plane_size w + plane_size w ≤ position_count w
plane_ends w n h =
    let below = (none_or_more (position_count w == 0) (span_length w.t * span_length w.bands) n h).1 in
    let upto = mul-le (n + 1) (plane_size w) (span_length w.t * span_length w.bands) (plane_size w) (omega arith) (omega arith) in
    omega arith

pub row_of_size : (w : Window) (n : ℕ) → position_count (row_of w n) ≡ span_length w.x
row_of_size w n =
    let t = one_long (w.t.from + n / span_length w.y / span_length w.bands) in
    let b = one_long (w.bands.from + n / span_length w.y % span_length w.bands) in
    let y = one_long (w.y.from + n % span_length w.y) in
    rw (t, b, y) (omega arith)

pub row_ends : (w : Window) (n : ℕ) → n < row_count w → n * span_length w.x + span_length w.x ≤ position_count w
row_ends w n h =
    let below = (none_or_more (position_count w == 0) (span_length w.t * span_length w.bands * span_length w.y) n h).1 in
    let upto = mul-le (n + 1) (span_length w.x) (span_length w.t * span_length w.bands * span_length w.y) (span_length w.x) (omega arith) (omega arith) in
    omega arith

pub row_steps : (w : Window) (n : ℕ) → n < row_count w → (n / span_length w.y / span_length w.bands < span_length w.t) × (n / span_length w.y % span_length w.bands < span_length w.bands) × (n % span_length w.y < span_length w.y)
row_steps w n h =
    let nt = span_length w.t in
    let nb = span_length w.bands in
    let ny = span_length w.y in
    let below = (none_or_more (position_count w == 0) (nt * nb * ny) n h).1 in
    let some_y = some_factor (nt * nb) ny (omega arith) in
    let some_b = some_factor nt nb some_y.0 in
    let plane = div_below n ny (nt * nb) some_y.1 below in
    (div_below (n / ny) nb nt some_b.1 plane, mod_below (n / ny) nb some_b.1, mod_below n ny some_y.1)

row_number : (n t b nb y ny nx x t1 b1 y1 l m : ℕ) → (t * nb + b) * ny + y ≡ n → t1 ≡ 0 → b1 ≡ 0 → y1 ≡ 0 → ((t * nb + b) * ny + y) * nx + x ≡ n * nx + (((t1 * l + b1) * m + y1) * nx + x)
row_number n t b nb y ny nx x t1 b1 y1 l m e et eb ey = rw (e, et, eb, ey) (omega arith)

pub row_part : (w : Window) (n : ℕ) → n < row_count w → IsPartFrom (n * span_length w.x) w (row_of w n)
row_part w n h =
    let nb = span_length w.bands in
    let ny = span_length w.y in
    let steps = row_steps w n h in
    part_from (n * span_length w.x) w (row_of w n)
    (λ p a. record { t = in_span w.t (n / ny / nb) p.t steps.0 a.t; bands = in_span w.bands (n / ny % nb) p.band steps.1 a.bands; y = in_span w.y (n % ny) p.y steps.2 a.y; x = a.x })
    (λ p a.
    let t = steps_along w.t (n / ny / nb) p.t a.t in
    let b = steps_along w.bands (n / ny % nb) p.band a.bands in
    let y = steps_along w.y (n % ny) p.y a.y in
    let digits : ((p.t - w.t.from) * nb + (p.band - w.bands.from)) * ny + (p.y - w.y.from) ≡ n = rw (t.0, b.0, y.0) (digits_number n nb ny) in
    row_number n (p.t - w.t.from) (p.band - w.bands.from) nb (p.y - w.y.from) ny (span_length w.x) (p.x - w.x.from) _ _ _ _ _ digits t.1 b.1 y.1)
