-- How labels and windows lie in a part.
use Rattle.std.proofs.Common.{◌≡◌, ◌≤ℤ◌, ◌<ℤ◌, ℕ, ◌*◌, zero, suc, ◌+◌, ◌-◌, ◌<◌, ◌≤◌, ◌||◌, Bool, true, false, ℤ, List, [], ◌∷◌, length, take, drop, get_or, Option, Some, None, IfSome, refl, sym, ap, ◌∙◌, subst, arith, inl, inr, unwrap_or}
use Rattle.std.specs.Int.Signed.{lt_z}
use Rattle.std.specs.List.{slice_get, slice_range}
use Rattle.std.specs.Option.{option_and_then, option_map}
use Rattle.std.proofs.lemmas.Bool.{cases_lt, or_cases, or_parts}
use Rattle.std.proofs.lemmas.Int.{ints}
use Rattle.std.proofs.lemmas.List.{length-drop, length-take}
use Rattle.oe_dims.specs.Cube.{Tuple, index_along, row_major}
use Rattle.oe_dims.specs.Dimensions.{Dimensions, IsShape, band_names, extent, label_count, number_labels, numbers_along}
use Rattle.oe_dims.specs.Indices.{IsIndexRange, index_where, is_inside, same_number}
use Rattle.oe_dims.specs.Names.{same_name}
use Rattle.oe_dims.specs.Positions.{tuple_of}
use Rattle.oe_dims.specs.Rules.{IsFalling, IsInOrder, IsRising}
use Rattle.oe_dims.specs.declared.kind.Kind.{Kind}
use Rattle.oe_dims.specs.declared.kind.Kind.TheVariants.{Time, Bands, Y, X}
use Rattle.oe_dims.proofs.IndexLemmas.{index_where_passes, same_number_is}
use Rattle.oe_dims.proofs.ShapeLemmas.{extents_of_shape}
use Rattle.oe_mosaic.specs.Places.{HasBox, HasLabelsFrom, HasNoLabelOf, HasNoTupleOf, IsOfNumbers, LieAlong, LieAmong, LiesAlong, box_of, first_index, has_across, has_apart, is_across, is_apart, side_sum}
use Rattle.oe_mosaic.proofs.PartLemmas.{get_there}
use Rattle.oe_mosaic.specs.declared.place.Along.{Along}
use Rattle.oe_mosaic.specs.declared.place.Along.TheVariants.{Apart, From, Across}
use Rattle.oe_mosaic.specs.declared.place.Sides.{Sides}
use Rattle.oe_window.specs.Windows.{IsEmpty, span_length}
use Rattle.oe_window.specs.declared.window.Span.{Span}
use Rattle.oe_window.specs.declared.window.Window.{Window}
use Rattle.oe_window.proofs.WindowLemmas.{filled_unless_empty}

-- ---- pieces of lists

get_drop : {L : Type 0} (xs : List L) (a j : ℕ) → slice_get (drop a xs) j ≡ slice_get xs (a + j)
get_drop [] zero j = refl
get_drop [] (suc a) j = refl
get_drop (x ∷ xs) zero j = let same : zero + j ≡ j = omega arith in ap (slice_get (x ∷ xs)) (sym same)
get_drop (x ∷ xs) (suc a) j =
    let same : suc a + j ≡ suc (a + j) = omega arith in
    get_drop xs a j ∙ ap (slice_get (x ∷ xs)) (sym same)

get_take : {L : Type 0} (xs : List L) (n j : ℕ) → j < n → slice_get (take n xs) j ≡ slice_get xs j
get_take xs zero j below = absurd (omega (arith, below))
get_take [] (suc n) j below = refl
get_take (x ∷ xs) (suc n) zero below = refl
get_take (x ∷ xs) (suc n) (suc j) below = get_take xs n j (omega (arith, below))

pub get_piece : {L : Type 0} (xs : List L) (n a j : ℕ) → j < n → slice_get (take n (drop a xs)) j ≡ slice_get xs (a + j)
get_piece xs n a j below = get_take (drop a xs) n j below ∙ get_drop xs a j

there_or_not : {L : Type 0} (xs : List L) (i : ℕ) → i < length xs → (x : L) × (slice_get xs i ≡ Some x)
there_or_not [] i below = absurd (omega (arith, below))
there_or_not (x ∷ xs) zero below = (x, refl)
there_or_not (x ∷ xs) (suc i) below = there_or_not xs i (omega (arith, below))

none_unless : {A : Type 0} (o : Option A) → ((a : A) → o ≡ Some a → ⊥) → o ≡ None
none_unless None h = refl
none_unless (Some a) h = absurd (h a refl)

take_back : {L : Type 0} (xs : List L) (n i : ℕ) (x : L) → slice_get (take n xs) i ≡ Some x → slice_get xs i ≡ Some x
take_back xs zero i x h = cc
take_back [] (suc n) i x h = h
take_back (y ∷ xs) (suc n) zero x h = h
take_back (y ∷ xs) (suc n) (suc i) x h = take_back xs n i x h

pub piece_back : {L : Type 0} (xs : List L) (n a i : ℕ) (x : L) → slice_get (take n (drop a xs)) i ≡ Some x → slice_get xs (a + i) ≡ Some x
piece_back xs n a i x h = sym (get_drop xs a i) ∙ take_back (drop a xs) n i x h

-- a piece of labels that stand in order is in order
pub order_piece : (kind : Kind) (labels : List ℤ) (a n : ℕ) → IsInOrder kind labels → IsInOrder kind (take n (drop a labels))
order_piece Time labels a n h = λ i j l m below e f. h (a + i) (a + j) l m (omega (arith, below)) (piece_back labels n a i l e) (piece_back labels n a j m f)
order_piece Bands labels a n h = λ i j l m below e f. h (a + i) (a + j) l m (omega (arith, below)) (piece_back labels n a i l e) (piece_back labels n a j m f)
order_piece Y labels a n h = λ i j l m below e f. h (a + i) (a + j) l m (omega (arith, below)) (piece_back labels n a i l e) (piece_back labels n a j m f)
order_piece X labels a n h = λ i j l m below e f. h (a + i) (a + j) l m (omega (arith, below)) (piece_back labels n a i l e) (piece_back labels n a j m f)

-- ---- one label

pub single_from : {L : Type 0} (labels own : List L) (first : ℕ) (d : L) → length labels ≡ 1 → slice_get own first ≡ Some (get_or labels 0 d)
    → slice_range own first (first + length labels) ≡ labels
single_from [] own first d one there = absurd (omega (arith, one))
single_from (l ∷ m ∷ labels) own first d one there = absurd (omega (arith, one))
single_from (l ∷ []) own first d one there = at_index own first there
  where
    at_index : (xs : List _) (i : ℕ) → slice_get xs i ≡ Some l → slice_range xs i (i + 1) ≡ l ∷ []
    at_index [] i e = cc
    at_index (x ∷ xs) zero e = cc
    at_index (x ∷ xs) (suc i) e =
        let long : suc i + 1 - suc i ≡ i + 1 - i = omega arith in
        ap (λ n. take n (drop i xs)) long ∙ at_index xs i e

pub single_apart : {L : Type 0} (same : L → L → Bool) (labels own : List L) (d : L) → length labels ≡ 1 → index_where (same (get_or labels 0 d)) own ≡ None
    → LieAmong same labels own Apart
single_apart same [] own d one none k below = absurd (omega (arith, one))
single_apart same (l ∷ m ∷ labels) own d one none k below = absurd (omega (arith, one))
single_apart same (l ∷ []) own d one none zero below = none
single_apart same (l ∷ []) own d one none (suc k) below = absurd (omega (arith, below))

-- ---- no label of a range

apart_label : (own : List ℤ) (from to label : ℤ) (first : ℕ) → IsIndexRange from to own first first → is_inside from to label ≡ true → index_where (same_number label) own ≡ None
apart_label own from to label first range inside =
    none_unless (index_where (same_number label) own) (λ j found.
    let p = index_where_passes (same_number label) own j found in
    let is : p.0 ≡ label = same_number_is label p.0 p.2 in
    let in_ = (range.inside j p.0 p.1).0 (ap (is_inside from to) is ∙ inside) in
    omega (arith, in_.0, in_.1))

pub range_apart : (labels own : List ℤ) (from to : ℤ) (first end : ℕ) → first ≡ end → IsIndexRange from to own first end
    → ((k : ℕ) → k < length labels → IfSome (slice_get labels k) (λ label. is_inside from to label ≡ true))
    → LieAmong same_number labels own Apart
range_apart labels own from to first end same range inside k below =
    each (slice_get labels k) (inside k below)
  where
    alone : IsIndexRange from to own first first
    alone = subst (λ (n : ℕ). IsIndexRange from to own first n) (sym same) range

    each : (o : Option ℤ) → IfSome o (λ label. is_inside from to label ≡ true) → IfSome o (λ label. index_where (same_number label) own ≡ None)
    each None h = tt
    each (Some label) h = apart_label own from to label first alone h

-- ---- the ends of labels that stand in order

inside_from : (from to label : ℤ) → from ≤ℤ label → label ≤ℤ to → is_inside from to label ≡ true
inside_from from to label low high = grind (arith, ints, low, high)

pub ends_rising : (labels : List ℤ) (d : ℤ) → IsRising labels → 0 < length labels → (k : ℕ) → k < length labels
    → IfSome (slice_get labels k) (λ label. is_inside (get_or labels 0 d) (get_or labels (length labels - 1) d) label ≡ true)
ends_rising labels d rising some k below =
    let last = length labels - 1 in
    let first_is : slice_get labels 0 ≡ Some (get_or labels 0 d) = get_there labels 0 d some in
    let last_is : slice_get labels last ≡ Some (get_or labels last d) = get_there labels last d (omega (arith, some)) in
    let here : slice_get labels k ≡ Some (get_or labels k d) = get_there labels k d below in
    let low : get_or labels 0 d ≤ℤ get_or labels k d = elim (cases_lt 0 k) [
      | inl after ↦ let less = rising 0 k (get_or labels 0 d) (get_or labels k d) after first_is here in omega (arith, ints, less)
      | inr past ↦ let same : k ≡ 0 = omega (arith, past) in subst (λ (i : ℕ). get_or labels 0 d ≤ℤ get_or labels i d) (sym same) (omega (arith, ints))
    ] in
    let high : get_or labels k d ≤ℤ get_or labels last d = elim (cases_lt k last) [
      | inl before ↦ let less = rising k last (get_or labels k d) (get_or labels last d) before here last_is in omega (arith, ints, less)
      | inr past ↦ let same : k ≡ last = omega (arith, past, below) in subst (λ (i : ℕ). get_or labels k d ≤ℤ get_or labels i d) same (omega (arith, ints))
    ] in
    subst (λ (o : Option ℤ). IfSome o (λ label. is_inside (get_or labels 0 d) (get_or labels last d) label ≡ true)) (sym here) (inside_from _ _ _ low high)

pub ends_falling : (labels : List ℤ) (d : ℤ) → IsFalling labels → 0 < length labels → (k : ℕ) → k < length labels
    → IfSome (slice_get labels k) (λ label. is_inside (get_or labels (length labels - 1) d) (get_or labels 0 d) label ≡ true)
ends_falling labels d falling some k below =
    let last = length labels - 1 in
    let first_is : slice_get labels 0 ≡ Some (get_or labels 0 d) = get_there labels 0 d some in
    let last_is : slice_get labels last ≡ Some (get_or labels last d) = get_there labels last d (omega (arith, some)) in
    let here : slice_get labels k ≡ Some (get_or labels k d) = get_there labels k d below in
    let high : get_or labels k d ≤ℤ get_or labels 0 d = elim (cases_lt 0 k) [
      | inl after ↦ let less = falling 0 k (get_or labels 0 d) (get_or labels k d) after first_is here in omega (arith, ints, less)
      | inr past ↦ let same : k ≡ 0 = omega (arith, past) in subst (λ (i : ℕ). get_or labels i d ≤ℤ get_or labels 0 d) (sym same) (omega (arith, ints))
    ] in
    let low : get_or labels last d ≤ℤ get_or labels k d = elim (cases_lt k last) [
      | inl before ↦ let less = falling k last (get_or labels k d) (get_or labels last d) before here last_is in omega (arith, ints, less)
      | inr past ↦ let same : k ≡ last = omega (arith, past, below) in subst (λ (i : ℕ). get_or labels i d ≤ℤ get_or labels k d) same (omega (arith, ints))
    ] in
    subst (λ (o : Option ℤ). IfSome o (λ label. is_inside (get_or labels last d) (get_or labels 0 d) label ≡ true)) (sym here) (inside_from _ _ _ low high)

-- ---- labels that all stand before those of a part, or all behind them

pub inside_parts : (from to label : ℤ) → is_inside from to label ≡ true → (from ≤ℤ label) × (label ≤ℤ to)
inside_parts from to label h = (grind (arith, ints, h), grind (arith, ints, h))

-- labels between two numbers, and those of a part between two others, where no number is between both
elsewhere : (labels own : List ℤ) (least greatest own_least own_greatest : ℤ)
    → ((k : ℕ) → k < length labels → IfSome (slice_get labels k) (λ label. is_inside least greatest label ≡ true))
    → ((k : ℕ) → k < length own → IfSome (slice_get own k) (λ label. is_inside own_least own_greatest label ≡ true))
    → ((label : ℤ) → least ≤ℤ label → label ≤ℤ greatest → own_least ≤ℤ label → label ≤ℤ own_greatest → ⊥)
    → LieAmong same_number labels own Apart
elsewhere labels own least greatest own_least own_greatest inside inside_own nowhere k below =
    each (slice_get labels k) (inside k below)
  where
    each : (o : Option ℤ) → IfSome o (λ label. is_inside least greatest label ≡ true) → IfSome o (λ label. index_where (same_number label) own ≡ None)
    each None h = tt
    each (Some label) h = none_unless (index_where (same_number label) own) (λ j found.
        let p = index_where_passes (same_number label) own j found in
        let is : p.0 ≡ label = same_number_is label p.0 p.2 in
        let there : is_inside own_least own_greatest p.0 ≡ true =
        subst (λ (o : Option ℤ). IfSome o (λ l. is_inside own_least own_greatest l ≡ true)) p.1 (inside_own j p.3) in
        let one = inside_parts least greatest label h in
        let two = inside_parts own_least own_greatest label (ap (is_inside own_least own_greatest) (sym is) ∙ there) in
        nowhere label one.0 one.1 two.0 two.1)

is_less : (a b : ℤ) → lt_z a b ≡ true → a <ℤ b
is_less a b h = grind (arith, ints, h)

pub below_apart : (labels own : List ℤ) (least greatest own_least own_greatest : ℤ)
    → ((k : ℕ) → k < length labels → IfSome (slice_get labels k) (λ label. is_inside least greatest label ≡ true))
    → ((k : ℕ) → k < length own → IfSome (slice_get own k) (λ label. is_inside own_least own_greatest label ≡ true))
    → lt_z greatest own_least ≡ true → LieAmong same_number labels own Apart
below_apart labels own least greatest own_least own_greatest inside inside_own before =
    elsewhere labels own least greatest own_least own_greatest inside inside_own (λ label a b c d. omega (arith, ints, b, c, is_less greatest own_least before))

pub above_apart : (labels own : List ℤ) (least greatest own_least own_greatest : ℤ)
    → ((k : ℕ) → k < length labels → IfSome (slice_get labels k) (λ label. is_inside least greatest label ≡ true))
    → ((k : ℕ) → k < length own → IfSome (slice_get own k) (λ label. is_inside own_least own_greatest label ≡ true))
    → lt_z own_greatest least ≡ true → LieAmong same_number labels own Apart
above_apart labels own least greatest own_least own_greatest inside inside_own behind =
    elsewhere labels own least greatest own_least own_greatest inside inside_own (λ label a b c d. omega (arith, ints, a, d, is_less own_greatest least behind))

-- ---- a span of a dimension

piece_long : {L : Type 0} (labels : List L) (span : Span) → span.to ≤ length labels → length (take (span.to - span.from) (drop span.from labels)) ≡ span_length span
piece_long labels span within =
    omega (arith, length-take (span.to - span.from) (drop span.from labels), length-drop span.from labels, within)

apart_along : {L : Type 0} (same : L → L → Bool) (labels own : List L) (span : Span) → span.to ≤ length labels
    → LieAmong same (take (span.to - span.from) (drop span.from labels)) own Apart → HasNoLabelOf same (Some labels) (Some own) span
apart_along same labels own span within h i in_ =
    let j = i - span.from in
    let below : j < span.to - span.from = omega (arith, in_.begun, in_.before) in
    let long = piece_long labels span within in
    let number : span.from + j ≡ i = omega (arith, in_.begun) in
    let e : slice_get (take (span.to - span.from) (drop span.from labels)) j ≡ slice_get labels i =
    get_piece labels (span.to - span.from) span.from j below ∙ ap (slice_get labels) number in
    let label = there_or_not labels i (omega (arith, in_.before, within)) in
    let none : index_where (same label.0) own ≡ None =
    subst (λ (o : Option _). IfSome o (λ l. index_where (same l) own ≡ None)) (e ∙ label.1) (h j (omega (arith, long, below))) in
    ap (index_along same (Some own)) label.1 ∙ none

piece_ends : {L : Type 0} (own part : List L) (first : ℕ) → 0 < length part → slice_range own first (first + length part) ≡ part → first + length part ≤ length own
piece_ends own part first some is =
    let long : length (slice_range own first (first + length part)) ≡ length part = ap length is in
    omega (arith, long, some, length-take (first + length part - first) (drop first own), length-drop first own)

from_along : {L : Type 0} (labels own : List L) (span : Span) (first : ℕ) → span.from < span.to → span.to ≤ length labels
    → slice_range own first (first + length (take (span.to - span.from) (drop span.from labels))) ≡ take (span.to - span.from) (drop span.from labels)
    → HasLabelsFrom (Some labels) (Some own) span first
from_along labels own span first some within is =
    let part = take (span.to - span.from) (drop span.from labels) in
    let long : length part ≡ span_length span = piece_long labels span within in
    record {
      within = omega (arith, long, piece_ends own part first (omega (arith, long, some)) is);
      same = λ i in_.
          let j = i - span.from in
          let below : j < span.to - span.from = omega (arith, in_.begun, in_.before) in
          let number : span.from + j ≡ i = omega (arith, in_.begun) in
          let shorter : j < first + length part - first = omega (arith, long, below) in
          sym (get_piece own (first + length part - first) first j shorter)
          ∙ ap (λ (l : List _). slice_get l j) is
          ∙ get_piece labels (span.to - span.from) span.from j below
          ∙ ap (slice_get labels) number;
    }

pub along_both : {L : Type 0} (same : L → L → Bool) (labels own : List L) (span : Span) (a : Along) → span.from < span.to → span.to ≤ length labels
    → LieAmong same (take (span.to - span.from) (drop span.from labels)) own a → LiesAlong same (Some labels) (Some own) span a
along_both same labels own span Apart some within h = apart_along same labels own span within h
along_both same labels own span (From first) some within h = from_along labels own span first some within h
along_both same labels own span Across some within h = omega (arith, h, piece_long labels span within)

along_neither : {L : Type 0} (same : L → L → Bool) (span : Span) → span.from < span.to → span.to ≤ 1 → LiesAlong {L = L} same None None span (From 0)
along_neither same span some within = record { within = omega (arith, within); same = λ i in_. refl }

along_left : {L : Type 0} (same : L → L → Bool) (labels : List L) (span : Span) → span.to ≤ length labels → LiesAlong same (Some labels) None span Apart
along_left same labels span within i in_ =
    let label = there_or_not labels i (omega (arith, in_.before, within)) in
    ap (index_along same None) label.1

along_right : {L : Type 0} (same : L → L → Bool) (own : List L) (span : Span) → LiesAlong same None (Some own) span Apart
along_right same own span i in_ = refl

none_counted : {L : Type 0} (o : Option (List L)) → option_map length o ≡ None → o ≡ None
none_counted None h = refl
none_counted (Some l) h = cc

some_counted : {L : Type 0} (o : Option (List L)) (n : ℕ) → option_map length o ≡ Some n → o ≡ Some (unwrap_or o [])
some_counted None n h = cc
some_counted (Some l) n h = refl

numbers_none : (kind : Kind) (d : Dimensions) → IsOfNumbers kind → label_count d kind ≡ None → numbers_along kind d ≡ None
numbers_none Time d is h = none_counted d.t h
numbers_none Bands d is h = absurd is
numbers_none Y d is h = none_counted d.y h
numbers_none X d is h = none_counted d.x h

numbers_some : (kind : Kind) (d : Dimensions) (n : ℕ) → IsOfNumbers kind → label_count d kind ≡ Some n → numbers_along kind d ≡ Some (number_labels d kind)
numbers_some Time d n is h = some_counted d.t n h
numbers_some Bands d n is h = absurd is
numbers_some Y d n is h = some_counted d.y n h
numbers_some X d n is h = some_counted d.x n h

pub numbers_missing : (kind : Kind) (d own : Dimensions) (span : Span) → IsOfNumbers kind → span.from < span.to → span.to ≤ extent (numbers_along kind d)
    → label_count d kind ≡ None → label_count own kind ≡ None → LiesAlong same_number (numbers_along kind d) (numbers_along kind own) span (From 0)
numbers_missing kind d own span is some within none none_own =
    let a = numbers_none kind d is none in
    let b = numbers_none kind own is none_own in
    subst (λ (o : Option (List ℤ)). LiesAlong same_number (numbers_along kind d) o span (From 0)) (sym b)
    (subst (λ (o : Option (List ℤ)). LiesAlong same_number o None span (From 0)) (sym a)
    (along_neither same_number span some (subst (λ (o : Option (List ℤ)). span.to ≤ extent o) a within)))

pub numbers_left : (kind : Kind) (d own : Dimensions) (span : Span) (n : ℕ) → IsOfNumbers kind → span.to ≤ extent (numbers_along kind d)
    → label_count d kind ≡ Some n → label_count own kind ≡ None → LiesAlong same_number (numbers_along kind d) (numbers_along kind own) span Apart
numbers_left kind d own span n is within some none_own =
    let a = numbers_some kind d n is some in
    let b = numbers_none kind own is none_own in
    subst (λ (o : Option (List ℤ)). LiesAlong same_number (numbers_along kind d) o span Apart) (sym b)
    (subst (λ (o : Option (List ℤ)). LiesAlong same_number o None span Apart) (sym a)
    (along_left same_number (number_labels d kind) span (subst (λ (o : Option (List ℤ)). span.to ≤ extent o) a within)))

pub numbers_right : (kind : Kind) (d own : Dimensions) (span : Span) (n : ℕ) → IsOfNumbers kind
    → label_count d kind ≡ None → label_count own kind ≡ Some n → LiesAlong same_number (numbers_along kind d) (numbers_along kind own) span Apart
numbers_right kind d own span n is none some_own =
    let a = numbers_none kind d is none in
    let b = numbers_some kind own n is some_own in
    subst (λ (o : Option (List ℤ)). LiesAlong same_number (numbers_along kind d) o span Apart) (sym b)
    (subst (λ (o : Option (List ℤ)). LiesAlong same_number o (Some (number_labels own kind)) span Apart) (sym a)
    (along_right same_number (number_labels own kind) span))

pub numbers_both : (kind : Kind) (d own : Dimensions) (span : Span) (n m : ℕ) (a : Along) → IsOfNumbers kind → span.from < span.to → span.to ≤ extent (numbers_along kind d)
    → label_count d kind ≡ Some n → label_count own kind ≡ Some m
    → LieAmong same_number (take (span.to - span.from) (drop span.from (number_labels d kind))) (number_labels own kind) a
    → LiesAlong same_number (numbers_along kind d) (numbers_along kind own) span a
numbers_both kind d own span n m along is some within there there_own h =
    let a = numbers_some kind d n is there in
    let b = numbers_some kind own m is there_own in
    subst (λ (o : Option (List ℤ)). LiesAlong same_number (numbers_along kind d) o span along) (sym b)
    (subst (λ (o : Option (List ℤ)). LiesAlong same_number o (Some (number_labels own kind)) span along) (sym a)
    (along_both same_number (number_labels d kind) (number_labels own kind) span along some (subst (λ (o : Option (List ℤ)). span.to ≤ extent o) a within) h))

-- ---- the same of bands

pub bands_missing : (d own : Dimensions) (span : Span) → span.from < span.to → span.to ≤ extent d.bands
    → label_count d Bands ≡ None → label_count own Bands ≡ None → LiesAlong same_name d.bands own.bands span (From 0)
bands_missing d own span some within none none_own =
    let a = none_counted d.bands none in
    let b = none_counted own.bands none_own in
    subst (λ (o : Option (List (List ℕ))). LiesAlong same_name d.bands o span (From 0)) (sym b)
    (subst (λ (o : Option (List (List ℕ))). LiesAlong same_name o None span (From 0)) (sym a)
    (along_neither same_name span some (subst (λ (o : Option (List (List ℕ))). span.to ≤ extent o) a within)))

pub bands_left : (d own : Dimensions) (span : Span) (n : ℕ) → span.to ≤ extent d.bands
    → label_count d Bands ≡ Some n → label_count own Bands ≡ None → LiesAlong same_name d.bands own.bands span Apart
bands_left d own span n within some none_own =
    let a = some_counted d.bands n some in
    let b = none_counted own.bands none_own in
    subst (λ (o : Option (List (List ℕ))). LiesAlong same_name d.bands o span Apart) (sym b)
    (subst (λ (o : Option (List (List ℕ))). LiesAlong same_name o None span Apart) (sym a)
    (along_left same_name (band_names d) span (subst (λ (o : Option (List (List ℕ))). span.to ≤ extent o) a within)))

pub bands_right : (d own : Dimensions) (span : Span) (n : ℕ)
    → label_count d Bands ≡ None → label_count own Bands ≡ Some n → LiesAlong same_name d.bands own.bands span Apart
bands_right d own span n none some_own =
    let a = none_counted d.bands none in
    let b = some_counted own.bands n some_own in
    subst (λ (o : Option (List (List ℕ))). LiesAlong same_name d.bands o span Apart) (sym b)
    (subst (λ (o : Option (List (List ℕ))). LiesAlong same_name o (Some (band_names own)) span Apart) (sym a)
    (along_right same_name (band_names own) span))

pub bands_both : (d own : Dimensions) (span : Span) (n m : ℕ) (a : Along) → span.from < span.to → span.to ≤ extent d.bands
    → label_count d Bands ≡ Some n → label_count own Bands ≡ Some m
    → LieAmong same_name (take (span.to - span.from) (drop span.from (band_names d))) (band_names own) a
    → LiesAlong same_name d.bands own.bands span a
bands_both d own span n m along some within there there_own h =
    let a = some_counted d.bands n there in
    let b = some_counted own.bands m there_own in
    subst (λ (o : Option (List (List ℕ))). LiesAlong same_name d.bands o span along) (sym b)
    (subst (λ (o : Option (List (List ℕ))). LiesAlong same_name o (Some (band_names own)) span along) (sym a)
    (along_both same_name (band_names d) (band_names own) span along some (subst (λ (o : Option (List (List ℕ))). span.to ≤ extent o) a within) h))

-- ---- a window: no tuple of it is in a part that has no label of one of its spans

steps : Option ℕ → Option ℕ → Option ℕ → Option ℕ → ℕ → ℕ → ℕ → Option ℕ
steps t b y x bands lines columns =
    option_and_then (λ t. option_and_then (λ b. option_and_then (λ y. option_map (λ x. ((t * bands + b) * lines + y) * columns + x) x) y) b) t

no_b : (t y x : Option ℕ) (bands lines columns : ℕ) → steps t None y x bands lines columns ≡ None
unfolding steps
no_b None y x bands lines columns = refl
no_b (Some t) y x bands lines columns = refl

no_y : (t b x : Option ℕ) (bands lines columns : ℕ) → steps t b None x bands lines columns ≡ None
unfolding steps
no_y None b x bands lines columns = refl
no_y (Some t) None x bands lines columns = refl
no_y (Some t) (Some b) x bands lines columns = refl

no_x : (t b y : Option ℕ) (bands lines columns : ℕ) → steps t b y None bands lines columns ≡ None
unfolding steps
no_x None b y bands lines columns = refl
no_x (Some t) None y bands lines columns = refl
no_x (Some t) (Some b) None bands lines columns = refl
no_x (Some t) (Some b) (Some y) bands lines columns = refl

row_major_steps : (own : Dimensions) (tuple : Tuple) → row_major own tuple ≡ steps (index_along same_number own.t tuple.t) (index_along same_name own.bands tuple.band) (index_along same_number own.y tuple.y) (index_along same_number own.x tuple.x) (extent own.bands) (extent own.y) (extent own.x)
unfolding steps
row_major_steps own tuple = refl

no_label : {L : Type 0} (same : L → L → Bool) (labels own : Option (List L)) (span : Span) (a : Along) → LiesAlong same labels own span a → is_apart a ≡ true → HasNoLabelOf same labels own span
no_label same labels own span Apart h is = h
no_label same labels own span (From first) h is = cc
no_label same labels own span Across h is = cc

pub apart_lies : (d own : Dimensions) (window : Window) (s : Sides) → LieAlong d own window s → has_apart s ≡ true → HasNoTupleOf d own window
unfolding steps
apart_lies d own window s h is p in_ =
    let tuple = tuple_of d p in
    let t = index_along same_number own.t tuple.t in
    let b = index_along same_name own.bands tuple.band in
    let y = index_along same_number own.y tuple.y in
    let x = index_along same_number own.x tuple.x in
    row_major_steps own tuple ∙ (elim (or_cases (is_apart s.t || is_apart s.bands || is_apart s.y) (is_apart s.x) is) [
      | inr at_x ↦ ap (λ (o : Option ℕ). steps t b y o (extent own.bands) (extent own.y) (extent own.x)) (no_label same_number d.x own.x window.x s.x h.x at_x p.x in_.x) ∙ no_x t b y (extent own.bands) (extent own.y) (extent own.x)
      | inl before_x ↦ elim (or_cases (is_apart s.t || is_apart s.bands) (is_apart s.y) before_x) [
        | inr at_y ↦ ap (λ (o : Option ℕ). steps t b o x (extent own.bands) (extent own.y) (extent own.x)) (no_label same_number d.y own.y window.y s.y h.y at_y p.y in_.y) ∙ no_y t b x (extent own.bands) (extent own.y) (extent own.x)
        | inl before_y ↦ elim (or_cases (is_apart s.t) (is_apart s.bands) before_y) [
          | inr at_b ↦ ap (λ (o : Option ℕ). steps t o y x (extent own.bands) (extent own.y) (extent own.x)) (no_label same_name d.bands own.bands window.bands s.bands h.bands at_b p.band in_.bands) ∙ no_b t y x (extent own.bands) (extent own.y) (extent own.x)
          | inl at_t ↦ ap (λ (o : Option ℕ). steps o b y x (extent own.bands) (extent own.y) (extent own.x)) (no_label same_number d.t own.t window.t s.t h.t at_t p.t in_.t)
        ]
      ]
    ])

-- the same where one dimension alone is known
pub apart_along_t : (d own : Dimensions) (window : Window) → LiesAlong same_number d.t own.t window.t Apart → HasNoTupleOf d own window
unfolding steps
apart_along_t d own window h p in_ =
    let tuple = tuple_of d p in
    let b = index_along same_name own.bands tuple.band in
    let y = index_along same_number own.y tuple.y in
    let x = index_along same_number own.x tuple.x in
    row_major_steps own tuple
    ∙ ap (λ (o : Option ℕ). steps o b y x (extent own.bands) (extent own.y) (extent own.x)) (h p.t in_.t)

pub apart_along_y : (d own : Dimensions) (window : Window) → LiesAlong same_number d.y own.y window.y Apart → HasNoTupleOf d own window
unfolding steps
apart_along_y d own window h p in_ =
    let tuple = tuple_of d p in
    let t = index_along same_number own.t tuple.t in
    let b = index_along same_name own.bands tuple.band in
    let x = index_along same_number own.x tuple.x in
    row_major_steps own tuple
    ∙ ap (λ (o : Option ℕ). steps t b o x (extent own.bands) (extent own.y) (extent own.x)) (h p.y in_.y)
    ∙ no_y t b x (extent own.bands) (extent own.y) (extent own.x)

pub apart_along_x : (d own : Dimensions) (window : Window) → LiesAlong same_number d.x own.x window.x Apart → HasNoTupleOf d own window
unfolding steps
apart_along_x d own window h p in_ =
    let tuple = tuple_of d p in
    let t = index_along same_number own.t tuple.t in
    let b = index_along same_name own.bands tuple.band in
    let y = index_along same_number own.y tuple.y in
    row_major_steps own tuple
    ∙ ap (λ (o : Option ℕ). steps t b y o (extent own.bands) (extent own.y) (extent own.x)) (h p.x in_.x)
    ∙ no_x t b y (extent own.bands) (extent own.y) (extent own.x)

-- ---- a span that lies across has several indices

several : {L : Type 0} (same : L → L → Bool) (labels own : Option (List L)) (span : Span) (a : Along) → LiesAlong same labels own span a → is_across a ≡ true → 1 < span_length span
several same labels own span Apart h is = cc
several same labels own span (From first) h is = cc
several same labels own span Across h is = h

pub across_lies : (d own : Dimensions) (window : Window) (s : Sides) → LieAlong d own window s → has_across s ≡ true → ¬ IsEmpty window → 4 < side_sum window
across_lies d own window s h is some =
    let filled = filled_unless_empty window some in
    elim (or_cases (is_across s.t || is_across s.bands || is_across s.y) (is_across s.x) is) [
      | inr at_x ↦ omega (arith, several same_number d.x own.x window.x s.x h.x at_x, filled.t, filled.bands, filled.y)
      | inl before_x ↦ elim (or_cases (is_across s.t || is_across s.bands) (is_across s.y) before_x) [
        | inr at_y ↦ omega (arith, several same_number d.y own.y window.y s.y h.y at_y, filled.t, filled.bands, filled.x)
        | inl before_y ↦ elim (or_cases (is_across s.t) (is_across s.bands) before_y) [
          | inr at_b ↦ omega (arith, several same_name d.bands own.bands window.bands s.bands h.bands at_b, filled.t, filled.y, filled.x)
          | inl at_t ↦ omega (arith, several same_number d.t own.t window.t s.t h.t at_t, filled.bands, filled.y, filled.x)
        ]
      ]
    ]

-- ---- the box of a part

labels_from : {L : Type 0} (same : L → L → Bool) (labels own : Option (List L)) (span : Span) (a : Along) → LiesAlong same labels own span a → is_apart a ≡ false → is_across a ≡ false → HasLabelsFrom labels own span (first_index a)
labels_from same labels own span Apart h apart across = cc
labels_from same labels own span (From first) h apart across = h
labels_from same labels own span Across h apart across = cc

pub record AllFrom (d own : Dimensions) (window : Window) (s : Sides) : Type 0 where
  pub t : HasLabelsFrom d.t own.t window.t (first_index s.t)
  pub bands : HasLabelsFrom d.bands own.bands window.bands (first_index s.bands)
  pub y : HasLabelsFrom d.y own.y window.y (first_index s.y)
  pub x : HasLabelsFrom d.x own.x window.x (first_index s.x)

pub all_from : (d own : Dimensions) (window : Window) (s : Sides) → LieAlong d own window s → has_apart s ≡ false → has_across s ≡ false → AllFrom d own window s
all_from d own window s h apart across =
    let a = or_parts (is_apart s.t || is_apart s.bands || is_apart s.y) (is_apart s.x) apart in
    let a2 = or_parts (is_apart s.t || is_apart s.bands) (is_apart s.y) a.0 in
    let a3 = or_parts (is_apart s.t) (is_apart s.bands) a2.0 in
    let c = or_parts (is_across s.t || is_across s.bands || is_across s.y) (is_across s.x) across in
    let c2 = or_parts (is_across s.t || is_across s.bands) (is_across s.y) c.0 in
    let c3 = or_parts (is_across s.t) (is_across s.bands) c2.0 in
    record {
      t = labels_from same_number d.t own.t window.t s.t h.t a3.0 c3.0;
      bands = labels_from same_name d.bands own.bands window.bands s.bands h.bands a3.1 c3.1;
      y = labels_from same_number d.y own.y window.y s.y h.y a2.1 c2.1;
      x = labels_from same_number d.x own.x window.x s.x h.x a.1 c.1;
    }

abbrev make_tuple : Option ℤ → Option (List ℕ) → Option ℤ → Option ℤ → Tuple
make_tuple t band y x = record { t = t; band = band; y = y; x = x }

same_tuple : (t u : Option ℤ) (a b : Option (List ℕ)) (y z x w : Option ℤ) → t ≡ u → a ≡ b → y ≡ z → x ≡ w → make_tuple t a y x ≡ make_tuple u b z w
same_tuple t u a b y z x w e f g h =
    ap (λ (l : Option ℤ). make_tuple l a y x) e ∙ ap (λ (l : Option (List ℕ)). make_tuple u l y x) f
    ∙ ap (λ (l : Option ℤ). make_tuple u b l x) g ∙ ap (λ (l : Option ℤ). make_tuple u b z l) h

pub box_lies : (d own : Dimensions) (window : Window) (s : Sides) → LieAlong d own window s → has_apart s ≡ false → has_across s ≡ false
    → HasBox d own window (box_of s window)
box_lies d own window s h apart across =
    let from = all_from d own window s h apart across in
    record {
      t = omega arith;
      bands = omega arith;
      y = omega arith;
      x = omega arith;
      within = λ q in_. record {
        t = record { begun = omega arith; before = omega (arith, in_.t.before, from.t.within) };
        bands = record { begun = omega arith; before = omega (arith, in_.bands.before, from.bands.within) };
        y = record { begun = omega arith; before = omega (arith, in_.y.before, from.y.within) };
        x = record { begun = omega arith; before = omega (arith, in_.x.before, from.x.within) };
      };
      same = λ p in_. same_tuple _ _ _ _ _ _ _ _ (from.t.same p.t in_.t) (from.bands.same p.band in_.bands) (from.y.same p.y in_.y) (from.x.same p.x in_.x);
    }

-- ---- the spans of the box end within the part

pub span_fits_t : (d own : Dimensions) (window : Window) (s : Sides) → LieAlong d own window s → has_apart s ≡ false → has_across s ≡ false → IsShape own
    → first_index s.t + span_length window.t ≤ 65536
span_fits_t d own window s h apart across valid = omega (arith, (all_from d own window s h apart across).t.within, (extents_of_shape own valid).t)

pub span_fits_b : (d own : Dimensions) (window : Window) (s : Sides) → LieAlong d own window s → has_apart s ≡ false → has_across s ≡ false → IsShape own
    → first_index s.bands + span_length window.bands ≤ 65536
span_fits_b d own window s h apart across valid = omega (arith, (all_from d own window s h apart across).bands.within, (extents_of_shape own valid).bands)

pub span_fits_y : (d own : Dimensions) (window : Window) (s : Sides) → LieAlong d own window s → has_apart s ≡ false → has_across s ≡ false → IsShape own
    → first_index s.y + span_length window.y ≤ 65536
span_fits_y d own window s h apart across valid = omega (arith, (all_from d own window s h apart across).y.within, (extents_of_shape own valid).y)

pub span_fits_x : (d own : Dimensions) (window : Window) (s : Sides) → LieAlong d own window s → has_apart s ≡ false → has_across s ≡ false → IsShape own
    → first_index s.x + span_length window.x ≤ 65536
span_fits_x d own window s h apart across valid = omega (arith, (all_from d own window s h apart across).x.within, (extents_of_shape own valid).x)

pub none_of : (names own : List (List ℕ)) → ((k : ℕ) → k < length names → index_where (same_name (get_or names k [])) own ≡ None) → LieAmong same_name names own Apart
none_of names own h k below =
    subst (λ (o : Option (List ℕ)). IfSome o (λ label. index_where (same_name label) own ≡ None)) (sym (get_there names k [] below)) (h k below)
