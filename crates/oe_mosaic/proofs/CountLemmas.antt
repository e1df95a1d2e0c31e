-- Labels of a part between two labels of a window: where they are as many as those of the window, they are those.
use Rattle.std.proofs.Common.{◌≡◌, ℕ, zero, suc, ◌+◌, ◌-◌, ◌<◌, ◌≤◌, true, ℤ, List, [], ◌∷◌, length, take, drop, get_or, Some, refl, sym, ap, ◌∙◌, arith, inl, inr}
use Rattle.std.specs.List.{Contains, slice_get, slice_range}
use Rattle.std.proofs.lemmas.Bool.{cases_lt}
use Rattle.std.proofs.lemmas.Int.{ints}
use Rattle.std.proofs.lemmas.List.{length-drop, length-take}
use Rattle.oe_dims.specs.Dimensions.{Dimensions, IsShape, number_labels}
use Rattle.oe_dims.specs.Indices.{IsIndexRange}
use Rattle.oe_dims.specs.Rules.{IsFalling, IsInOrder, IsRising}
use Rattle.oe_dims.specs.declared.kind.Kind.{Kind}
use Rattle.oe_dims.specs.declared.kind.Kind.TheVariants.{Time, Bands, Y, X}
use Rattle.oe_dims.specs.declared.shape.ShapeFault.TheVariants.{OrderWrong}
use Rattle.oe_dims.proofs.RuleLemmas.{KeepsEveryRule-IsShape}
use Rattle.oe_mosaic.specs.Labels.{stands_before}
use Rattle.oe_mosaic.specs.Places.{HaveAllBetween}
use Rattle.oe_mosaic.proofs.LawLemmas.{Has, IsFirst, Ordered, at_has, before_all, contains, has, has_at, later, ordered_later}
use Rattle.oe_mosaic.proofs.PartLemmas.{get_there}
use Rattle.oe_mosaic.proofs.PlaceLemmas.{get_piece, inside_parts, order_piece, piece_back}

-- ---- lists in order: as many of the labels of a list as it has are all of them

abbrev AreAmong : List ℤ → List ℤ → Type 0
AreAmong some all = (x : ℤ) → Has some x → Has all x

not_itself : (kind : Kind) (a b : ℤ) → a ≡ b → stands_before kind a b ≡ true → ⊥
not_itself Time a b same before = grind (arith, ints)
not_itself Bands a b same before = grind (arith, ints)
not_itself Y a b same before = grind (arith, ints)
not_itself X a b same before = grind (arith, ints)

rest_among : (kind : Kind) (a b : ℤ) (some all : List ℤ) → IsFirst kind a some → b ≡ a → AreAmong (a ∷ some) (b ∷ all) → AreAmong some all
rest_among kind a b some all first same among x in_ = elim (among x (inr in_)) [
  | inl e ↦ absurd (not_itself kind a x (sym same ∙ e) (first x in_))
  | inr there ↦ there
]

behind_among : (kind : Kind) (a b : ℤ) (some all : List ℤ) → IsFirst kind a some → stands_before kind b a ≡ true → AreAmong (a ∷ some) (b ∷ all) → AreAmong (a ∷ some) all
behind_among kind a b some all first before among x in_ = elim (among x in_) [
  | inl e ↦ absurd (not_itself kind b x e (before_all kind b a some before first x in_))
  | inr there ↦ there
]

no_more : (kind : Kind) (some all : List ℤ) → Ordered kind some → Ordered kind all → AreAmong some all → length some ≤ length all
no_more kind [] all p q among = omega arith
no_more kind (a ∷ some) [] p q among = absurd (among a (inl refl))
no_more kind (a ∷ some) (b ∷ all) p q among = elim (among a (inl refl)) [
  | inl e ↦ omega (arith, no_more kind some all p.1 q.1 (rest_among kind a b some all p.0 e among))
  | inr there ↦ omega (arith, no_more kind (a ∷ some) all p q.1 (behind_among kind a b some all p.0 (q.0 a there) among))
]

as_many : (kind : Kind) (some all : List ℤ) → Ordered kind some → Ordered kind all → AreAmong some all → length some ≡ length all → some ≡ all
as_many kind [] [] p q among same = refl
as_many kind [] (b ∷ all) p q among same = absurd (omega (arith, same))
as_many kind (a ∷ some) [] p q among same = absurd (omega (arith, same))
as_many kind (a ∷ some) (b ∷ all) p q among same = elim (among a (inl refl)) [
  | inl e ↦ ap (λ (l : ℤ). l ∷ some) (sym e)
      ∙ ap (λ (l : List ℤ). b ∷ l) (as_many kind some all p.1 q.1 (rest_among kind a b some all p.0 e among) (omega (arith, same)))
  | inr there ↦ absurd (omega (arith, same, no_more kind (a ∷ some) all p q.1 (behind_among kind a b some all p.0 (q.0 a there) among)))
]

-- ---- the labels of a part between two of a window

get_below : (labels : List ℤ) (i : ℕ) (label : ℤ) → slice_get labels i ≡ Some label → i < length labels
get_below [] i label is = cc
get_below (l ∷ labels) zero label is = omega arith
get_below (l ∷ labels) (suc i) label is = omega (arith, get_below labels i label is)

ordered : (kind : Kind) (labels : List ℤ) → IsInOrder kind labels → Ordered kind labels
ordered kind labels order = ordered_later kind labels (later kind labels order)

pub count_decides : (kind : Kind) (labels own : List ℤ) (from to : ℤ) (first end : ℕ) → IsInOrder kind labels → IsInOrder kind own → HaveAllBetween labels own
    → Contains labels from → Contains labels to → IsIndexRange from to own first end → end - first ≡ length labels
    → slice_range own first (first + length labels) ≡ labels
count_decides kind labels own from to first end order own_order all in_from in_to range same =
    let count = first + length labels - first in
    let is_count : count ≡ length labels = omega arith in
    let piece = take count (drop first own) in
    let long : length piece ≡ length labels = omega (arith, length-take count (drop first own), length-drop first own, is_count, same, range.in_order, range.within) in
    as_many kind piece labels (ordered kind piece (order_piece kind own first count own_order)) (ordered kind labels order)
    (λ x in_.
    let at = at_has piece x in_ in
    let there = piece_back own count first at.0 x at.1 in
    let below : at.0 < length labels = omega (arith, get_below piece at.0 x at.1, long) in
    let inside = (range.inside (first + at.0) x there).1 (omega arith, omega (arith, below, same, range.in_order)) in
    has labels x (all from to x in_from in_to (contains own x (has_at own (first + at.0) x there)) inside))
    long

-- ---- labels that have all of a part, and a piece of them

piece_below : (labels : List ℤ) (n a i : ℕ) (label : ℤ) → slice_get (take n (drop a labels)) i ≡ Some label → i < n
piece_below labels n a i label is = omega (arith, get_below (take n (drop a labels)) i label is, length-take n (drop a labels))

in_piece : (labels : List ℤ) (n a i : ℕ) (label : ℤ) → slice_get labels i ≡ Some label → a ≤ i → i < a + n → Contains (take n (drop a labels)) label
in_piece labels n a i label is low high =
    let number : a + (i - a) ≡ i = omega (arith, low) in
    let below : i - a < n = omega (arith, low, high) in
    let there = get_piece labels n a (i - a) below ∙ ap (slice_get labels) number ∙ is in
    contains (take n (drop a labels)) label (has_at (take n (drop a labels)) (i - a) label there)

piece_rising : (labels own : List ℤ) (a n : ℕ) → IsRising labels → ((label : ℤ) → Contains own label → Contains labels label) → HaveAllBetween (take n (drop a labels)) own
piece_rising labels own a n rising all from to label in_from in_to in_own inside =
    let piece = take n (drop a labels) in
    let f = at_has piece from (has piece from in_from) in
    let t = at_has piece to (has piece to in_to) in
    let l = at_has labels label (has labels label (all label in_own)) in
    let from_there = piece_back labels n a f.0 from f.1 in
    let to_there = piece_back labels n a t.0 to t.1 in
    let between = inside_parts from to label inside in
    let low : a ≤ l.0 = elim (cases_lt l.0 a) [
      | inl before ↦ let less = rising l.0 (a + f.0) label from (omega (arith, before)) l.1 from_there in absurd (omega (arith, ints, less, between.0))
      | inr past ↦ omega (arith, past)
    ] in
    let high : l.0 < a + n = elim (cases_lt l.0 (a + n)) [
      | inl before ↦ before
      | inr past ↦ let less = rising (a + t.0) l.0 to label (omega (arith, past, piece_below labels n a t.0 to t.1)) to_there l.1 in absurd (omega (arith, ints, less, between.1))
    ] in
    in_piece labels n a l.0 label l.1 low high

piece_falling : (labels own : List ℤ) (a n : ℕ) → IsFalling labels → ((label : ℤ) → Contains own label → Contains labels label) → HaveAllBetween (take n (drop a labels)) own
piece_falling labels own a n falling all from to label in_from in_to in_own inside =
    let piece = take n (drop a labels) in
    let f = at_has piece from (has piece from in_from) in
    let t = at_has piece to (has piece to in_to) in
    let l = at_has labels label (has labels label (all label in_own)) in
    let from_there = piece_back labels n a f.0 from f.1 in
    let to_there = piece_back labels n a t.0 to t.1 in
    let between = inside_parts from to label inside in
    let low : a ≤ l.0 = elim (cases_lt l.0 a) [
      | inl before ↦ let less = falling l.0 (a + t.0) label to (omega (arith, before)) l.1 to_there in absurd (omega (arith, ints, less, between.1))
      | inr past ↦ omega (arith, past)
    ] in
    let high : l.0 < a + n = elim (cases_lt l.0 (a + n)) [
      | inl before ↦ before
      | inr past ↦ let less = falling (a + f.0) l.0 from label (omega (arith, past, piece_below labels n a f.0 from f.1)) from_there l.1 in absurd (omega (arith, ints, less, between.0))
    ] in
    in_piece labels n a l.0 label l.1 low high

pub piece_all : (kind : Kind) (labels own : List ℤ) (a n : ℕ) → IsInOrder kind labels → ((label : ℤ) → Contains own label → Contains labels label) → HaveAllBetween (take n (drop a labels)) own
piece_all Time labels own a n order all = piece_rising labels own a n order all
piece_all Bands labels own a n order all = piece_rising labels own a n order all
piece_all Y labels own a n order all = piece_falling labels own a n order all
piece_all X labels own a n order all = piece_rising labels own a n order all

-- ---- the labels of a shape, and the first and the last of a list

nothing_rises : IsRising []
nothing_rises i j a b less at_i at_j = cc

pub own_order : (kind : Kind) (d : Dimensions) → IsShape d → IsInOrder kind (number_labels d kind)
own_order Time d valid = KeepsEveryRule-IsShape d valid (OrderWrong Time)
own_order Bands d valid = nothing_rises
own_order Y d valid = KeepsEveryRule-IsShape d valid (OrderWrong Y)
own_order X d valid = KeepsEveryRule-IsShape d valid (OrderWrong X)

label_in : (labels : List ℤ) (i : ℕ) (d : ℤ) → i < length labels → Contains labels (get_or labels i d)
label_in labels i d below = contains labels (get_or labels i d) (has_at labels i (get_or labels i d) (get_there labels i d below))

pub first_in : (labels : List ℤ) (d : ℤ) → 0 < length labels → Contains labels (get_or labels 0 d)
first_in labels d some = label_in labels 0 d some

pub last_in : (labels : List ℤ) (d : ℤ) → 0 < length labels → Contains labels (get_or labels (length labels - 1) d)
last_in labels d some = label_in labels (length labels - 1) d (omega (arith, some))
