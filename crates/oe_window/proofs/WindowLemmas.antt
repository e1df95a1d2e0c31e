-- Windows by their spans, and the positions of a window by their numbers.
use Rattle.std.proofs.Common.{◌≡◌, ◌↔◌, ℕ, ◌+◌, ◌-◌, ◌*◌, ◌<◌, ◌≤◌, List, length, map, refl, sym, ap, ◌∙◌, subst, arith, Some, Bool, true, false, IsTrue, ◌⊎◌, ◌||◌, ◌&&◌, min, max, inl, inr}
use Rattle.std.specs.List.{slice_get, flat_map}
use Rattle.std.specs.Option.{option_map}
use Rattle.std.proofs.Math.Nat.{le-mul_of_pos_right}
use Rattle.std.proofs.lemmas.Bool.{cases_lt}
use Rattle.std.proofs.lemmas.List.{length-map}
use Rattle.std.proofs.lemmas.List.FromFn.{length-range_with_len}
use Rattle.std.proofs.lemmas.Option.{slice_get-map}
use Rattle.oe_dims.proofs.FlatMapLemmas.{length-flat_map, slice_get-flat_map, from_part, below_product, value_inside}
use Rattle.oe_window.proofs.RangeLemmas.{slice_get-range, range-slice_get}
use Rattle.oe_dims.specs.Positions.{Position}
use Rattle.oe_window.specs.Windows.{IsAlong, IsIn, IsEmpty, Holds, span_length, span_indices, positions, position_count, number_in, first_position}
use Rattle.oe_window.specs.declared.window.Span.{Span}
use Rattle.oe_window.specs.declared.window.Window.{Window}

-- ---- empty windows, and windows that hold others

-- each span has an index
pub record IsFilled (window : Window) : Type 0 where
  pub t : window.t.from < window.t.to
  pub bands : window.bands.from < window.bands.to
  pub y : window.y.from < window.y.to
  pub x : window.x.from < window.x.to

abbrev last_position : Window → Position
last_position window = record { t = window.t.to - 1; band = window.bands.to - 1; y = window.y.to - 1; x = window.x.to - 1 }

first_along : (s : Span) → s.from < s.to → IsAlong s s.from
first_along s h = record { begun = omega arith; before = h }

last_along : (s : Span) → s.from < s.to → IsAlong s (s.to - 1)
last_along s h = record { begun = omega arith; before = omega arith }

pub first_in : (window : Window) → IsFilled window → IsIn window (first_position window)
first_in window h = record { t = first_along window.t h.t; bands = first_along window.bands h.bands; y = first_along window.y h.y; x = first_along window.x h.x }

last_in : (window : Window) → IsFilled window → IsIn window (last_position window)
last_in window h = record { t = last_along window.t h.t; bands = last_along window.bands h.bands; y = last_along window.y h.y; x = last_along window.x h.x }

pub not_empty : (window : Window) → IsFilled window → ¬ IsEmpty window
not_empty window h empty = empty (first_position window) (first_in window h)

-- what lies along a span makes it have an index
filled_along : (s : Span) (p : ℕ) → IsAlong s p → s.from < s.to
filled_along s p h = let begun = h.begun in let before = h.before in omega arith

pub filled_by : (window : Window) (p : Position) → IsIn window p → IsFilled window
filled_by window p h = record { t = filled_along window.t p.t h.t; bands = filled_along window.bands p.band h.bands; y = filled_along window.y p.y h.y; x = filled_along window.x p.x h.x }

-- a span that lies in another
pub record IsWithin (inner outer : Span) : Type 0 where
  pub from : outer.from ≤ inner.from
  pub to : inner.to ≤ outer.to

pub record AreWithin (inner outer : Window) : Type 0 where
  pub t : IsWithin inner.t outer.t
  pub bands : IsWithin inner.bands outer.bands
  pub y : IsWithin inner.y outer.y
  pub x : IsWithin inner.x outer.x

along_within : (inner outer : Span) (p : ℕ) → IsWithin inner outer → IsAlong inner p → IsAlong outer p
along_within inner outer p w h = record { begun = omega arith; before = omega arith }

pub holds_from_within : (inner outer : Window) → AreWithin inner outer → Holds outer inner
holds_from_within inner outer w p h = record {
  t = along_within inner.t outer.t p.t w.t h.t;
  bands = along_within inner.bands outer.bands p.band w.bands h.bands;
  y = along_within inner.y outer.y p.y w.y h.y;
  x = along_within inner.x outer.x p.x w.x h.x;
}

within_from_ends : (inner outer : Span) → inner.from < inner.to → IsAlong outer inner.from → IsAlong outer (inner.to - 1) → IsWithin inner outer
within_from_ends inner outer h first last = record { from = first.begun; to = omega (arith, last.before) }

pub within_from_holds : (inner outer : Window) → IsFilled inner → Holds outer inner → AreWithin inner outer
within_from_holds inner outer h holds =
    let first = holds (first_position inner) (first_in inner h) in
    let last = holds (last_position inner) (last_in inner h) in
    record {
      t = within_from_ends inner.t outer.t h.t first.t last.t;
      bands = within_from_ends inner.bands outer.bands h.bands first.bands last.bands;
      y = within_from_ends inner.y outer.y h.y first.y last.y;
      x = within_from_ends inner.x outer.x h.x first.x last.x;
    }

-- ---- the positions of a window

abbrev row_in : Window → ℕ → ℕ → ℕ → List Position
row_in w t band y = map (λ x. record { t = t; band = band; y = y; x = x }) (span_indices w.x)

abbrev rows_in : Window → ℕ → ℕ → List Position
rows_in w t band = flat_map (λ y. row_in w t band y) (span_indices w.y)

abbrev bands_in : Window → ℕ → List Position
bands_in w t = flat_map (λ band. rows_in w t band) (span_indices w.bands)

length-span : (s : Span) → length (span_indices s) ≡ span_length s
length-span s = length-range_with_len s.from (span_length s)

length-row_in : (w : Window) (t band y : ℕ) → length (row_in w t band y) ≡ span_length w.x
length-row_in w t band y = length-map (span_indices w.x) _ ∙ length-span w.x

length-rows_in : (w : Window) (t band : ℕ) → length (rows_in w t band) ≡ span_length w.y * span_length w.x
length-rows_in w t band =
    length-flat_map (λ y. row_in w t band y) (span_length w.x) (length-row_in w t band) (span_indices w.y) ∙ ap (λ n. n * span_length w.x) (length-span w.y)

length-bands_in : (w : Window) (t : ℕ) → length (bands_in w t) ≡ span_length w.bands * (span_length w.y * span_length w.x)
length-bands_in w t =
    length-flat_map (λ band. rows_in w t band) (span_length w.y * span_length w.x) (length-rows_in w t) (span_indices w.bands)
    ∙ ap (λ n. n * (span_length w.y * span_length w.x)) (length-span w.bands)

-- there are as many as the product of the spans
pub length-positions : (w : Window) → length (positions w) ≡ position_count w
length-positions w =
    length-flat_map (λ t. bands_in w t) (span_length w.bands * (span_length w.y * span_length w.x)) (length-bands_in w) (span_indices w.t)
    ∙ ap (λ n. n * (span_length w.bands * (span_length w.y * span_length w.x))) (length-span w.t) ∙ omega arith

at_span : (s : Span) (p : ℕ) → IsAlong s p → slice_get (span_indices s) (p - s.from) ≡ Some p
at_span s p h =
    let begun = h.begun in
    let before = h.before in
    let short : p - s.from < span_length s = omega arith in
    let back : s.from + (p - s.from) ≡ p = omega arith in
    slice_get-range s.from (span_length s) (p - s.from) short ∙ ap Some back

short_along : (s : Span) (p : ℕ) → IsAlong s p → p - s.from < span_length s
short_along s p h = let begun = h.begun in let before = h.before in omega arith

-- each position of the window stands at its number
pub position_at : (w : Window) (p : Position) → IsIn w p → slice_get (positions w) (number_in w p) ≡ Some p
position_at w p h =
    let nx = span_length w.x in
    let ny = span_length w.y in
    let nb = span_length w.bands in
    let t = p.t - w.t.from in
    let b = p.band - w.bands.from in
    let y = p.y - w.y.from in
    let x = p.x - w.x.from in
    let lx = below_product y ny x nx (short_along w.y p.y h.y) (short_along w.x p.x h.x) in
    let lb = below_product b nb (y * nx + x) (ny * nx) (short_along w.bands p.band h.bands) lx in
    let number : number_in w p ≡ t * (nb * (ny * nx)) + (b * (ny * nx) + (y * nx + x)) = omega arith in
    ap (slice_get (positions w)) number
    ∙ slice_get-flat_map (λ l. bands_in w l) (nb * (ny * nx)) (length-bands_in w) (span_indices w.t) t (b * (ny * nx) + (y * nx + x)) p.t (at_span w.t p.t h.t) lb
    ∙ slice_get-flat_map (λ l. rows_in w p.t l) (ny * nx) (length-rows_in w p.t) (span_indices w.bands) b (y * nx + x) p.band (at_span w.bands p.band h.bands) lx
    ∙ slice_get-flat_map (λ l. row_in w p.t p.band l) nx (length-row_in w p.t p.band) (span_indices w.y) y x p.y (at_span w.y p.y h.y) (short_along w.x p.x h.x)
    ∙ slice_get-map _ (span_indices w.x) x ∙ ap (option_map (λ l. record { t = p.t; band = p.band; y = p.y; x = l })) (at_span w.x p.x h.x)

along_at : (s : Span) (i p : ℕ) → slice_get (span_indices s) i ≡ Some p → IsAlong s p × (i ≡ p - s.from)
along_at s i p e =
    let found = range-slice_get s.from (span_length s) i p e in
    let short = found.0 in
    let at_index = found.1 in
    (record { begun = omega arith; before = omega arith }, omega arith)

-- the number that the parts of an index among the positions make
number_from_parts : (w : Window) (p : Position) (k t in_t b in_b y x : ℕ) → k ≡ t * (span_length w.bands * (span_length w.y * span_length w.x)) + in_t → in_t ≡ b * (span_length w.y * span_length w.x) + in_b → in_b ≡ y * span_length w.x + x → t ≡ p.t - w.t.from → b ≡ p.band - w.bands.from → y ≡ p.y - w.y.from → x ≡ p.x - w.x.from → k ≡ number_in w p
number_from_parts w p k t in_t b in_b y x ek eb ey pt pb py px =
    rw (ek, eb, ey, ← pt, ← pb, ← py, ← px) (omega arith)

-- what stands at a number is a position of the window, and has that number
pub position_number : (w : Window) (k : ℕ) (p : Position) → slice_get (positions w) k ≡ Some p → IsIn w p × (k ≡ number_in w p)
position_number w k p e =
    let nx = span_length w.x in
    let ny = span_length w.y in
    let nb = span_length w.bands in
    let t = from_part (λ l. bands_in w l) (nb * (ny * nx)) (length-bands_in w) (span_indices w.t) k p e in
    let b = from_part (λ l. rows_in w t.item l) (ny * nx) (length-rows_in w t.item) (span_indices w.bands) t.index p t.at_index in
    let y = from_part (λ l. row_in w t.item b.item l) nx (length-row_in w t.item b.item) (span_indices w.y) b.index p b.at_index in
    let make : ℕ → Position = λ l. record { t = t.item; band = b.item; y = y.item; x = l } in
    let x = value_inside make (slice_get (span_indices w.x) y.index) p (sym (slice_get-map make (span_indices w.x) y.index) ∙ y.at_index) in
    let along_t = along_at w.t t.part t.item t.at_part in
    let along_b = along_at w.bands b.part b.item b.at_part in
    let along_y = along_at w.y y.part y.item y.at_part in
    let along_x = along_at w.x y.index x.0 x.1 in
    let inside : IsIn w (make x.0) = record { t = along_t.0; bands = along_b.0; y = along_y.0; x = along_x.0 } in
    let number : k ≡ number_in w (make x.0) = number_from_parts w (make x.0) k t.part t.index b.part b.index y.part y.index t.number b.number y.number along_t.1 along_b.1 along_y.1 along_x.1 in
    subst (λ v. IsIn w v × (k ≡ number_in w v)) x.2 (inside, number)

pub numbered : (w : Window) (k : ℕ) (p : Position) → (slice_get (positions w) k ≡ Some p) ↔ (IsIn w p × (k ≡ number_in w p))
numbered w k p = (position_number w k p, λ h. ap (slice_get (positions w)) h.1 ∙ position_at w p h.0)

-- ---- what the code tests

-- some span has no index
abbrev pub HasEmptySpan : Window → Type 0
HasEmptySpan w = (w.t.to ≤ w.t.from) ⊎ ((w.bands.to ≤ w.bands.from) ⊎ ((w.y.to ≤ w.y.from) ⊎ (w.x.to ≤ w.x.from)))

pub filled_or_not : (w : Window) → IsFilled w ⊎ HasEmptySpan w
filled_or_not w =
    elim (cases_lt w.t.from w.t.to) [
      | inr ge ↦ inr (inl ge)
      | inl t ↦ elim (cases_lt w.bands.from w.bands.to) [
        | inr ge ↦ inr (inr (inl ge))
        | inl b ↦ elim (cases_lt w.y.from w.y.to) [
          | inr ge ↦ inr (inr (inr (inl ge)))
          | inl y ↦ elim (cases_lt w.x.from w.x.to) [
            | inr ge ↦ inr (inr (inr (inr ge)))
            | inl x ↦ inl (record { t = t; bands = b; y = y; x = x })
          ]
        ]
      ]
    ]

not_along : (s : Span) (p : ℕ) → s.to ≤ s.from → IsAlong s p → ⊥
not_along s p h a = let begun = a.begun in let before = a.before in omega arith

empty_from_span : (w : Window) → HasEmptySpan w → IsEmpty w
empty_from_span w (inl t) p i = not_along w.t p.t t i.t
empty_from_span w (inr (inl b)) p i = not_along w.bands p.band b i.bands
empty_from_span w (inr (inr (inl y))) p i = not_along w.y p.y y i.y
empty_from_span w (inr (inr (inr x))) p i = not_along w.x p.x x i.x

pub filled_unless_empty : (w : Window) → ¬ IsEmpty w → IsFilled w
filled_unless_empty w h = elim (filled_or_not w) [ inl f ↦ f | inr e ↦ absurd (h (empty_from_span w e)) ]

span_if_empty : (w : Window) → IsEmpty w → HasEmptySpan w
span_if_empty w h = elim (filled_or_not w) [ inl f ↦ absurd (not_empty w f h) | inr e ↦ e ]

any_true : (w : Window) (t b y x : Bool) → (IsTrue t ↔ (w.t.to ≤ w.t.from)) → (IsTrue b ↔ (w.bands.to ≤ w.bands.from)) → (IsTrue y ↔ (w.y.to ≤ w.y.from)) → (IsTrue x ↔ (w.x.to ≤ w.x.from)) → IsTrue (((t || b) || y) || x) → HasEmptySpan w
any_true w true b y x it ib iy ix h = inl (it.0 refl)
any_true w false true y x it ib iy ix h = inr (inl (ib.0 refl))
any_true w false false true x it ib iy ix h = inr (inr (inl (iy.0 refl)))
any_true w false false false x it ib iy ix h = inr (inr (inr (ix.0 h)))

true_any : (w : Window) (t b y x : Bool) → (IsTrue t ↔ (w.t.to ≤ w.t.from)) → (IsTrue b ↔ (w.bands.to ≤ w.bands.from)) → (IsTrue y ↔ (w.y.to ≤ w.y.from)) → (IsTrue x ↔ (w.x.to ≤ w.x.from)) → HasEmptySpan w → IsTrue (((t || b) || y) || x)
true_any w true b y x it ib iy ix h = refl
true_any w false true y x it ib iy ix h = refl
true_any w false false true x it ib iy ix h = refl
true_any w false false false x it ib iy ix (inl t) = cc (it.1 t)
true_any w false false false x it ib iy ix (inr (inl b)) = cc (ib.1 b)
true_any w false false false x it ib iy ix (inr (inr (inl y))) = cc (iy.1 y)
true_any w false false false x it ib iy ix (inr (inr (inr h))) = ix.1 h

pub empty_is : (w : Window) (t b y x : Bool) → (IsTrue t ↔ (w.t.to ≤ w.t.from)) → (IsTrue b ↔ (w.bands.to ≤ w.bands.from)) → (IsTrue y ↔ (w.y.to ≤ w.y.from)) → (IsTrue x ↔ (w.x.to ≤ w.x.from)) → IsTrue (((t || b) || y) || x) ↔ IsEmpty w
empty_is w t b y x it ib iy ix =
    (λ h. empty_from_span w (any_true w t b y x it ib iy ix h), λ e. true_any w t b y x it ib iy ix (span_if_empty w e))

-- what the test of one span means
abbrev TestsWithin : Bool → Span → Span → Type 0
TestsWithin r inner outer = IsTrue r ↔ ((outer.from ≤ inner.from) × (inner.to ≤ outer.to))

within_if : (r : Bool) (inner outer : Span) → TestsWithin r inner outer → IsTrue r → IsWithin inner outer
within_if r inner outer is h = record { from = (is.0 h).0; to = (is.0 h).1 }

if_within : (r : Bool) (inner outer : Span) → TestsWithin r inner outer → IsWithin inner outer → IsTrue r
if_within r inner outer is h = is.1 (h.from, h.to)

all_true : (t b y x : Bool) → IsTrue (((t && b) && y) && x) → IsTrue t × IsTrue b × IsTrue y × IsTrue x
all_true true true true true h = (refl, refl, refl, refl)
all_true true true true false h = cc
all_true true true false x h = cc
all_true true false y x h = cc
all_true false b y x h = cc

true_all : (t b y x : Bool) → IsTrue t → IsTrue b → IsTrue y → IsTrue x → IsTrue (((t && b) && y) && x)
true_all t b y x ht hb hy hx = rw (ht, hb, hy, hx) refl

pub holds_is : (a b : Window) (t bands y x : Bool) → ¬ IsEmpty b → TestsWithin t b.t a.t → TestsWithin bands b.bands a.bands → TestsWithin y b.y a.y → TestsWithin x b.x a.x → IsTrue (((t && bands) && y) && x) ↔ Holds a b
holds_is a b t bands y x filled it ib iy ix = (
  λ h. let all = all_true t bands y x h in holds_from_within b a (record {
    t = within_if t b.t a.t it all.0;
    bands = within_if bands b.bands a.bands ib all.1;
    y = within_if y b.y a.y iy all.2;
    x = within_if x b.x a.x ix all.3;
  }),
  λ holds. let within = within_from_holds b a (filled_unless_empty b filled) holds in
      true_all t bands y x (if_within t b.t a.t it within.t) (if_within bands b.bands a.bands ib within.bands) (if_within y b.y a.y iy within.y) (if_within x b.x a.x ix within.x),
)

-- the count of an empty window, and the products on the way to the count of another
pub count_zero : (w : Window) → HasEmptySpan w → position_count w ≡ 0
count_zero w (inl t) = let none : span_length w.t ≡ 0 = omega arith in rw none (omega arith)
count_zero w (inr (inl b)) = let none : span_length w.bands ≡ 0 = omega arith in rw none (omega arith)
count_zero w (inr (inr (inl y))) = let none : span_length w.y ≡ 0 = omega arith in rw none (omega arith)
count_zero w (inr (inr (inr x))) = let none : span_length w.x ≡ 0 = omega arith in rw none (omega arith)

pub count_of_empty : (w : Window) → IsEmpty w → position_count w ≡ 0
count_of_empty w h = count_zero w (span_if_empty w h)

pub partial_products : (a b y x limit : ℕ) → 1 ≤ y → 1 ≤ x → a * b * y * x < limit → (a * b < limit) × (a * b * y < limit)
partial_products a b y x limit hy hx h =
    let three : a * b * y ≤ a * b * y * x = le-mul_of_pos_right (a * b * y) (omega arith) in
    let two : a * b ≤ a * b * y = le-mul_of_pos_right (a * b) (omega arith) in
    (omega arith, omega arith)

-- ---- the hull of two windows

within_hull : (a b outer : Span) → IsWithin a outer → IsWithin b outer → (hull : Span) → hull.from ≡ min a.from b.from → hull.to ≡ max a.to b.to → IsWithin hull outer
within_hull a b outer wa wb hull ef et =
    let af = wa.from in
    let at = wa.to in
    let bf = wb.from in
    let bt = wb.to in
    record { from = omega arith; to = omega arith }

pub record IsHull (a b hull : Span) : Type 0 where
  pub from : hull.from ≡ min a.from b.from
  pub to : hull.to ≡ max a.to b.to

pub least_hull : (a b hull window : Window) → ¬ IsEmpty a → ¬ IsEmpty b → IsHull a.t b.t hull.t → IsHull a.bands b.bands hull.bands → IsHull a.y b.y hull.y → IsHull a.x b.x hull.x → Holds window a → Holds window b → Holds window hull
least_hull a b hull window fa fb ht hb hy hx ha hbb =
    let wa = within_from_holds a window (filled_unless_empty a fa) ha in
    let wb = within_from_holds b window (filled_unless_empty b fb) hbb in
    holds_from_within hull window (record {
      t = within_hull a.t b.t window.t wa.t wb.t hull.t ht.from ht.to;
      bands = within_hull a.bands b.bands window.bands wa.bands wb.bands hull.bands hb.from hb.to;
      y = within_hull a.y b.y window.y wa.y wb.y hull.y hy.from hy.to;
      x = within_hull a.x b.x window.x wa.x wb.x hull.x hx.from hx.to;
    })
