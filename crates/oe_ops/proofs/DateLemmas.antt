-- A window as its parts at one index of t each, one behind the other.
use Rattle.std.proofs.Common.{◌≡◌, ℕ, ◌+◌, ◌-◌, ◌*◌, ◌<◌, ◌≤◌, List, ◌++◌, length, take, drop, refl, sym, ap, ◌∙◌, subst, arith}
use Rattle.std.specs.List.{All, slice_range}
use Rattle.std.proofs.Math.Nat.{add-mul}
use Rattle.std.proofs.Math.Seq.{take-append-add, take-length}
use Rattle.std.proofs.lemmas.List.{length-take-le, take-append-drop}
use Rattle.std.proofs.lemmas.List.Elements.{All-append}
use Rattle.std.proofs.lemmas.Nat.{mul-le}
use Rattle.std.proofs.lemmas.Slice.{take-put_mid}
use borrow.Rule.Slice.PartMut.{put_mid}
use Rattle.oe_cell.specs.declared.cell.Cell.{Cell}
use Rattle.oe_cell.specs.declared.cell.Cell.TheVariants.{Empty}
use Rattle.oe_dims.specs.Cube.{Cube}
use Rattle.oe_dims.specs.Positions.{Position}
use Rattle.oe_dims.specs.declared.kind.Kind.TheVariants.{Time}
use Rattle.oe_window.specs.Cells.{cells_on}
use Rattle.oe_window.specs.Parts.{IsPartFrom}
use Rattle.oe_window.specs.Windows.{Holds, IsAlong, position_count, span_at, span_length}
use Rattle.oe_window.specs.declared.window.Span.{Span}
use Rattle.oe_window.specs.declared.window.Window.{Window}
use Rattle.oe_window.proofs.CellLemmas.{cells_on-part}
use Rattle.oe_window.proofs.PartLemmas.{at_one, part_from}
use Rattle.oe_ops.specs.Lists.{stride_along}
use Rattle.oe_ops.specs.Needs.{HoldsNeed, part_at_time}
use Rattle.oe_ops.proofs.ColumnLemmas.{stride_some}
use Rattle.oe_ops.proofs.NumberLemmas.{are_some}

-- ---- the part at an index of t

in_span : (s : Span) (n p : ℕ) → n < span_length s → IsAlong (span_at (s.from + n)) p → IsAlong s p
in_span s n p h a = let at = at_one (s.from + n) p a in record { begun = omega arith; before = omega arith }

steps_along : (s : Span) (n p : ℕ) → IsAlong (span_at (s.from + n)) p → (p - s.from ≡ n) × (p - (s.from + n) ≡ 0)
steps_along s n p a = let at = at_one (s.from + n) p a in (omega arith, omega arith)

date_number : (n t b nb ny nx y x t1 : ℕ) → t ≡ n → t1 ≡ 0 → ((t * nb + b) * ny + y) * nx + x ≡ n * (nb * ny * nx) + (((t1 * nb + b) * ny + y) * nx + x)
date_number n t b nb ny nx y x t1 et e1 = rw (et, e1) (omega arith)

piece_at : (w : Window) (n : ℕ) → n < span_length w.t → IsPartFrom (n * stride_along Time w) w (part_at_time w (w.t.from + n))
piece_at w n h =
    part_from (n * stride_along Time w) w (part_at_time w (w.t.from + n))
    (λ p a. record { t = in_span w.t n p.t h a.t; bands = a.bands; y = a.y; x = a.x })
    (λ p a.
    let t = steps_along w.t n p.t a.t in
    date_number n (p.t - w.t.from) (p.band - w.bands.from) (span_length w.bands) (span_length w.y) (span_length w.x) (p.y - w.y.from) (p.x - w.x.from) (p.t - (w.t.from + n)) t.0 t.1)

size_at : (w : Window) (t : ℕ) → position_count (part_at_time w t) ≡ stride_along Time w
size_at w t = let one : t + 1 - t ≡ 1 = omega arith in rw one (omega arith)

pub all_dates : (w : Window) → span_length w.t * stride_along Time w ≡ position_count w
all_dates w = omega arith

pub record IsDate (w part : Window) (n area : ℕ) : Type 0 where
  pub piece : IsPartFrom (n * area) w part
  pub size : position_count part ≡ area
  pub one : part.t.to ≡ part.t.from + 1
  pub ends : n * area + area ≤ position_count w

date_here : (w : Window) (n : ℕ) → n < span_length w.t → IsDate w (part_at_time w (w.t.from + n)) n (stride_along Time w)
date_here w n h =
    let area = stride_along Time w in
    let upto = mul-le (n + 1) area (span_length w.t) area (omega arith) (omega arith) in
    let next = add-mul n 1 area in
    let all = all_dates w in
    record {
      piece = piece_at w n h;
      size = size_at w (w.t.from + n);
      one = refl;
      ends = omega (arith, upto, next, all);
    }

pub is_date : (w part : Window) (n t area : ℕ) → n < span_length w.t → area ≡ stride_along Time w → t ≡ w.t.from + n → part ≡ part_at_time w t → IsDate w part n area
is_date w part n t area h area_is t_is is =
    subst (λ (p : Window). IsDate w p n area) (sym (is ∙ ap (part_at_time w) t_is))
    (subst (λ a. IsDate w (part_at_time w (w.t.from + n)) n a) (sym area_is) (date_here w n h))

-- a window that holds a window holds its parts, and so does one that holds what is needed
pub date_within : (outer w part : Window) (n area : ℕ) → IsDate w part n area → Holds outer w → Holds outer part
date_within outer w part n area date holds p h = holds p (date.piece.inside p h)

pub date_need : (needs : Position → Position → Type 0) (w part box : Window) (n area : ℕ) → IsDate w part n area → HoldsNeed needs w box → HoldsNeed needs part box
date_need needs w part box n area date need p q h m = need p q (date.piece.inside p h) m

-- ---- one part after the other fills a list

front_more : {X : Type 0} (xs : List X) (a m : ℕ) → a ≤ length xs → take (a + m) xs ≡ take a xs ++ take m (drop a xs)
front_more xs a m h =
    let long = length-take-le a xs h in
    ap (take (a + m)) (sym (take-append-drop a xs))
    ∙ ap (λ k. take (k + m) (take a xs ++ drop a xs)) (sym long)
    ∙ take-append-add (take a xs) (drop a xs) m

-- the front after one more part
pub front_is : {X : Type 0} (n area : ℕ) (before row : List X) → n * area + area ≤ length before → length row ≡ area → take ((n + 1) * area) (put_mid (n * area) (n * area + area - n * area) before row) ≡ take (n * area) before ++ row
front_is n area before row fits long =
    let next = add-mul n 1 area in
    take-put_mid (n * area) (n * area + area - n * area) before row ((n + 1) * area) (omega (arith, next, long)) (omega (arith, fits))

pub part_written : {X : Type 0} (n area : ℕ) (before row all : List X) → n * area + area ≤ length before → n * area + area ≤ length all → length row ≡ area → row ≡ slice_range all (n * area) (n * area + area) → take (n * area) before ≡ take (n * area) all → take ((n + 1) * area) (put_mid (n * area) (n * area + area - n * area) before row) ≡ take ((n + 1) * area) all
part_written n area before row all fits inside long is same =
    let next = add-mul n 1 area in
    let upto : (n + 1) * area ≡ n * area + area = omega (arith, next) in
    let size : n * area + area - n * area ≡ area = omega arith in
    front_is n area before row fits long
    ∙ ap (λ (l : List _). l ++ row) same
    ∙ ap (λ (l : List _). take (n * area) all ++ l) (is ∙ ap (λ m. take m (drop (n * area) all)) size)
    ∙ sym (ap (λ m. take m all) upto ∙ front_more all (n * area) area (omega (arith, inside)))

pub front_fits : {X : Type 0} (P : X → Type 0) (n area : ℕ) (before row : List X) → n * area + area ≤ length before → length row ≡ area → All P (take (n * area) before) → All P row → All P (take ((n + 1) * area) (put_mid (n * area) (n * area + area - n * area) before row))
front_fits P n area before row fits long h k =
    subst (All P) (sym (front_is n area before row fits long)) (All-append P (take (n * area) before) row h k)

-- all of it
pub front_all : {X : Type 0} (xs : List X) (m : ℕ) → m ≡ length xs → take m xs ≡ xs
front_all xs m is = ap (λ k. take k xs) is ∙ take-length xs

-- ---- the loop over them

pub none_so_far : {X : Type 0} (area : ℕ) (xs ys : List X) → take (0 * area) xs ≡ take (0 * area) ys
none_so_far area xs ys = let none : 0 * area ≡ 0 = omega arith in rw none refl

pub none_fit : {X : Type 0} (P : X → Type 0) (area : ℕ) (xs : List X) → All P (take (0 * area) xs)
none_fit P area xs = let none : 0 * area ≡ 0 = omega arith in rw none (λ k other lt. absurd (omega arith))

pub all_done : (w : Window) (n area : ℕ) → n ≡ span_length w.t → area ≡ stride_along Time w → n * area ≡ position_count w
all_done w n area en ea = rw (en, ea) (all_dates w)

pub date_cells : (cube : Cube Cell) (w part : Window) (n area : ℕ) → IsDate w part n area → cells_on Empty cube part ≡ slice_range (cells_on Empty cube w) (n * area) (n * area + area)
date_cells cube w part n area date =
    sym (cells_on-part Empty cube (n * area) w part date.piece) ∙ ap (λ m. slice_range (cells_on Empty cube w) (n * area) (n * area + m)) date.size

-- there is something in each part
pub area_some : (w : Window) (area : ℕ) → 0 < position_count w → area ≡ stride_along Time w → 0 < area
area_some w area more is = let some = stride_some w (are_some w more) Time in omega (arith, some, is)
