-- The parts of a result text, one after another.
use Rattle.std.proofs.Common.{◌≡◌, ℕ, zero, suc, ◌+◌, ◌-◌, ◌<◌, ◌≤◌, List, [], ◌∷◌, ◌++◌, length, map, take, get_or, true, ℤ, ◌≤ℤ◌, drop, Option, Some, None, Result, Ok, IsErr, sym, ap, ◌∙◌, refl, append_assoc, take-take, arith}
use Rattle.std.specs.Prelude.{unwrap_or}
use Rattle.std.specs.Int.Signed.{le_z}
use Rattle.std.specs.List.{filter_map, cons_option, slice_range}
use Rattle.std.specs.Option.{option_map}
use Rattle.std.proofs.lemmas.Bool.{and_parts}
use Rattle.std.proofs.lemmas.Int.{ints}
use Rattle.std.proofs.lemmas.List.Elements.{filter_map-append}
use Rattle.std.proofs.lemmas.List.{append-nil, take_more, take-append-drop, drop-take, length-take, length-map, map-append}
use Rattle.oe_dims.proofs.ShapeLemmas.{t_in_range}
use Rattle.oe_dims.specs.Dimensions.{Dimensions, IsShape, all_between, first_instant, last_instant, number_labels, label_count, band_names}
use Rattle.oe_dims.specs.declared.kind.Kind.{Kind}
use Rattle.oe_dims.specs.declared.kind.Kind.TheVariants.{Time, Bands, Y, X}
use Rattle.oe_outside.proofs.Streams.{has_sent_then, has_stopped_more}
use Rattle.oe_outside.specs.Stream.{HasSent}
use Rattle.oe_render.specs.Text.{listed_text, more_text, separator, label_texts, part_text, parts_after, present_text, dimension_text}

-- a part after the others
pub listed_more : (parts : List (List ℕ)) (part : List ℕ) → listed_text (parts ++ part ∷ []) ≡ listed_text parts ++ (separator (length parts) ++ part)
listed_more [] part = refl
listed_more (a ∷ []) part = refl
listed_more (a ∷ b ∷ parts) part =
    ap (λ text. a ++ (44 ∷ text)) (listed_more (b ∷ parts) part)
    ∙ sym (append_assoc a (44 ∷ listed_text (b ∷ parts)) (separator (length (a ∷ b ∷ parts)) ++ part))

-- the parts up to a index, and then the one there
pub listed_take : (parts : List (List ℕ)) (index : ℕ) → index < length parts → listed_text (take (index + 1) parts) ≡ listed_text (take index parts) ++ (separator index ++ get_or parts index [])
listed_take parts index below =
    let size : length (take index parts) ≡ index = omega (arith, length-take index parts) in
    ap listed_text (take_more parts index [] below)
    ∙ listed_more (take index parts) (get_or parts index [])
    ∙ ap (λ n. listed_text (take index parts) ++ (separator n ++ get_or parts index [])) size

listed_option : (parts : List (List ℕ)) (part : Option (List ℕ)) → listed_text (parts ++ cons_option part []) ≡ listed_text parts ++ part_text part (length parts)
listed_option parts None = ap listed_text (append-nil parts) ∙ sym (append-nil (listed_text parts))
listed_option parts (Some part) = listed_more parts part

-- a part that may be missing, after the others
listed_with : (f : Kind → Option (List ℕ)) (parts : List (List ℕ)) (kind : Kind) → listed_text (parts ++ filter_map f (kind ∷ [])) ≡ listed_text parts ++ part_text (f kind) (length parts)
listed_with f parts kind = listed_option parts (f kind)

pub listed_part : (f : Kind → Option (List ℕ)) (kinds : List Kind) (kind : Kind) → listed_text (filter_map f (kinds ++ kind ∷ [])) ≡ listed_text (filter_map f kinds) ++ part_text (f kind) (length (filter_map f kinds))
listed_part f kinds kind = ap listed_text (filter_map-append f kinds (kind ∷ [])) ∙ listed_with f (filter_map f kinds) kind

-- how many labels a list has that may be missing
length-unwrap : {L : Type 0} (labels : Option (List L)) (count : ℕ) → option_map length labels ≡ Some count → length (unwrap_or labels []) ≡ count
length-unwrap None count e = cc
length-unwrap (Some labels) count e = cc

-- each label of a dimension has its text
pub length-label_texts : (d : Dimensions) (kind : Kind) (count : ℕ) → label_count d kind ≡ Some count → length (label_texts d kind) ≡ count
length-label_texts d Time count e = length-map (number_labels d Time) _ ∙ length-unwrap d.t count e
length-label_texts d Bands count e = length-map (band_names d) _ ∙ length-unwrap d.bands count e
length-label_texts d Y count e = length-map (number_labels d Y) _ ∙ length-unwrap d.y count e
length-label_texts d X count e = length-map (number_labels d X) _ ∙ length-unwrap d.x count e

pub le_from : (a b : ℤ) → le_z a b ≡ true → a ≤ℤ b
le_from a b h = grind (arith, ints)

-- a label that is tested with the others
between_at : (low high : ℤ) (labels : List ℤ) (index : ℕ) (d : ℤ) → all_between low high labels ≡ true → index < length labels → (low ≤ℤ get_or labels index d) × (get_or labels index d ≤ℤ high)
between_at low high [] index d h below = absurd (omega arith)
between_at low high (label ∷ labels) zero d h below =
    let parts = and_parts (le_z low label) (le_z label high) (and_parts _ _ h).0 in
    (le_from low label parts.0, le_from label high parts.1)
between_at low high (label ∷ labels) (suc index) d h below =
    between_at low high labels index d (and_parts _ _ h).1 (omega arith)

-- each instant of a shape lies in the range of instants
pub instant_in_range : (d : Dimensions) (index : ℕ) (other : ℤ) → IsShape d → index < length (number_labels d Time) → (first_instant ≤ℤ get_or (number_labels d Time) index other) × (get_or (number_labels d Time) index other ≤ℤ last_instant)
instant_in_range d index other valid below =
    between_at first_instant last_instant (number_labels d Time) index other (t_in_range d valid) below

-- the others behind some parts
listed_front : (front back : List (List ℕ)) → (rest : List ℕ) × (listed_text (front ++ back) ≡ listed_text front ++ rest)
listed_front [] back = (listed_text back, refl)
listed_front (a ∷ []) [] = ([], sym (append-nil a))
listed_front (a ∷ []) (b ∷ back) = (44 ∷ listed_text (b ∷ back), refl)
listed_front (a ∷ b ∷ front) back =
    let more = listed_front (b ∷ front) back in
    (more.0, ap (λ text. a ++ (44 ∷ text)) more.1 ∙ sym (append_assoc a (44 ∷ listed_text (b ∷ front)) more.0))

-- the next part was sent after those before it
pub sends_next : {O T U E F : Type 0} {written : O → Option (List ℕ)} {size : O → Option ℕ} {faults : O → ℕ} {before after end : O} {held left rest : List ℕ} {x : T} {r : Result U F} (parts : List (List ℕ)) (index : ℕ) (part : List ℕ) → HasSent {E = E} written size faults before held (listed_text (take index parts)) after left (Ok x) → HasSent written size faults after left (separator index ++ part) end rest r → index < length parts → get_or parts index [] ≡ part → HasSent written size faults before held (listed_text (take (index + 1) parts)) end rest r
sends_next parts index part sent next below same = rw (listed_take parts index below, same) (has_sent_then sent next)

-- where a part stopped, all the parts did
pub stops_among : {O T E : Type 0} {written : O → Option (List ℕ)} {size : O → Option ℕ} {faults : O → ℕ} {before after : O} {held left : List ℕ} {r : Result T E} (parts : List (List ℕ)) (count : ℕ) → IsErr r → HasSent written size faults before held (listed_text (take count parts)) after left r → HasSent written size faults before held (listed_text parts) after left r
stops_among parts count is stopped =
    let others = listed_front (take count parts) (drop count parts) in
    rw (ap listed_text (sym (take-append-drop count parts)) ∙ others.1) (has_stopped_more others.0 is stopped)

-- parts behind a first one, each with its separator
listed_later : (part : List ℕ) (parts : List (List ℕ)) (index : ℕ) → listed_text (part ∷ parts) ≡ part ++ more_text (suc index) parts
listed_later part [] index = sym (append-nil part)
listed_later part (next ∷ parts) index = ap (λ text. part ++ (44 ∷ text)) (listed_later next parts (suc index))

pub listed_is_more : (parts : List (List ℕ)) → listed_text parts ≡ more_text 0 parts
listed_is_more [] = refl
listed_is_more (part ∷ parts) = listed_later part parts 0

-- parts in two pieces
pub more_both : (first : ℕ) (front back : List (List ℕ)) → more_text first (front ++ back) ≡ more_text first front ++ more_text (first + length front) back
more_both first [] back = let same : first ≡ first + 0 = omega arith in ap (λ n. more_text n back) same
more_both first (part ∷ front) back =
    let later : suc first + length front ≡ first + length (part ∷ front) = omega arith in
    let rest = more_text (suc first) front in
    ap (λ text. separator first ++ part ++ text) (more_both (suc first) front back ∙ ap (λ n. rest ++ more_text n back) later)
    ∙ sym (append_assoc (separator first ++ part) rest (more_text (first + length (part ∷ front)) back))

-- a list up to an end is its front up to an index and the range behind that
front_and_range : {A : Type 0} (xs : List A) (index end : ℕ) → index ≤ end → take end xs ≡ take index xs ++ slice_range xs index end
front_and_range xs index end below =
    let last : index + (end - index) ≡ end = omega (arith, below) in
    sym (take-append-drop index (take end xs))
    ∙ ap (λ front. front ++ drop index (take end xs)) (take-take index end xs below)
    ∙ ap (λ n. take index xs ++ drop index (take n xs)) (sym last)
    ∙ ap (λ range. take index xs ++ range) (drop-take index (end - index) xs)

more_range : {A : Type 0} (text : A → List ℕ) (xs : List A) (first index end : ℕ) → index ≤ end → index ≤ length xs → more_text first (map text (take end xs)) ≡ more_text first (map text (take index xs)) ++ more_text (first + index) (map text (slice_range xs index end))
more_range text xs first index end below within =
    let front = map text (take index xs) in
    let size : first + length front ≡ first + index = omega (arith, length-map (take index xs) text, length-take index xs) in
    ap (λ ys. more_text first (map text ys)) (front_and_range xs index end below)
    ∙ ap (more_text first) (map-append text (take index xs) (slice_range xs index end))
    ∙ more_both first front (map text (slice_range xs index end))
    ∙ ap (λ n. more_text first front ++ more_text n (map text (slice_range xs index end))) size

-- the next range, behind so many other parts, was sent after the parts before it
pub sends_range : {A O T U E F : Type 0} {written : O → Option (List ℕ)} {size : O → Option ℕ} {faults : O → ℕ} {before after last : O} {held left rest : List ℕ} {x : T} {r : Result U F} (text : A → List ℕ) (xs : List A) (first index end : ℕ) → index ≤ end → index ≤ length xs → HasSent {E = E} written size faults before held (more_text first (map text (take index xs))) after left (Ok x) → HasSent written size faults after left (more_text (first + index) (map text (slice_range xs index end))) last rest r → HasSent written size faults before held (more_text first (map text (take end xs))) last rest r
sends_range text xs first index end below within sent next = rw (more_range text xs first index end below within) (has_sent_then sent next)

-- where the parts up to an end stopped, all did
pub stops_within : {A O T E : Type 0} {written : O → Option (List ℕ)} {size : O → Option ℕ} {faults : O → ℕ} {before after : O} {held left : List ℕ} {r : Result T E} (text : A → List ℕ) (xs : List A) (first end : ℕ) → IsErr r → HasSent written size faults before held (more_text first (map text (take end xs))) after left r → HasSent written size faults before held (more_text first (map text xs)) after left r
stops_within text xs first end is stopped =
    rw (ap (λ ys. more_text first (map text ys)) (sym (take-append-drop end xs)) ∙ ap (more_text first) (map-append text (take end xs) (drop end xs)) ∙ more_both first (map text (take end xs)) (map text (drop end xs)))
    (has_stopped_more _ is stopped)

-- the text of a dimension that a cube lacks, and of one that it has
pub present_missing : (d : Dimensions) (kind : Kind) → label_count d kind ≡ None → present_text d kind ≡ None
present_missing d kind e = rw e refl

pub present_there : (d : Dimensions) (kind : Kind) (count : ℕ) → label_count d kind ≡ Some count → present_text d kind ≡ Some (dimension_text d kind)
present_there d kind count e = rw e refl

-- four parts that may be missing
pub listed_four : (a b c d : Option (List ℕ)) → listed_text (cons_option a (cons_option b (cons_option c (cons_option d [])))) ≡ part_text a 0 ++ part_text b (parts_after a 0) ++ part_text c (parts_after b (parts_after a 0)) ++ part_text d (parts_after c (parts_after b (parts_after a 0)))
listed_four None None None None = simp (append_assoc, append-nil)
listed_four None None None (Some w) = simp (append_assoc, append-nil)
listed_four None None (Some z) None = simp (append_assoc, append-nil)
listed_four None None (Some z) (Some w) = simp (append_assoc, append-nil)
listed_four None (Some y) None None = simp (append_assoc, append-nil)
listed_four None (Some y) None (Some w) = simp (append_assoc, append-nil)
listed_four None (Some y) (Some z) None = simp (append_assoc, append-nil)
listed_four None (Some y) (Some z) (Some w) = simp (append_assoc, append-nil)
listed_four (Some x) None None None = simp (append_assoc, append-nil)
listed_four (Some x) None None (Some w) = simp (append_assoc, append-nil)
listed_four (Some x) None (Some z) None = simp (append_assoc, append-nil)
listed_four (Some x) None (Some z) (Some w) = simp (append_assoc, append-nil)
listed_four (Some x) (Some y) None None = simp (append_assoc, append-nil)
listed_four (Some x) (Some y) None (Some w) = simp (append_assoc, append-nil)
listed_four (Some x) (Some y) (Some z) None = simp (append_assoc, append-nil)
listed_four (Some x) (Some y) (Some z) (Some w) = simp (append_assoc, append-nil)
