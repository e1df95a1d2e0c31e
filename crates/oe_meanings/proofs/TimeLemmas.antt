-- The labels inside a temporal extent stand side by side among labels that rise.
use Rattle.std.proofs.Common.{◌≡◌, ℕ, suc, ◌-◌, Bool, true, false, ◌&&◌, not, List, [], ◌∷◌, length, filter, refl, ◌∙◌, subst, arith, Option, Some, None, ℤ}
use Rattle.std.specs.Prelude.{int_lt}
use Rattle.std.specs.List.{slice_range}
use Rattle.std.proofs.lemmas.Bool.{and_right}
use Rattle.std.proofs.lemmas.Int.{ints}
use Rattle.std.proofs.lemmas.List.Sums.{length-filter}
use Rattle.oe_dims.specs.Dimensions.{rises}
use Rattle.oe_requests.specs.Extents.{has_begun, has_not_ended, is_in_time, labels_in_time, part_in_time}
use Rattle.oe_requests.specs.declared.extent.TemporalExtent.{TemporalExtent}

-- ---- labels that rise

both_left : (a b : Bool) → (a && b) ≡ true → a ≡ true
both_left true b h = refl
both_left false b h = h

both_right : (a b : Bool) → (a && b) ≡ true → b ≡ true
both_right true b h = h
both_right false b h = absurd cc

next_above : (x y : ℤ) (labels : List ℤ) → rises (x ∷ y ∷ labels) ≡ true → int_lt x y ≡ true
next_above x y labels h = both_left (int_lt x y) (rises (y ∷ labels)) h

rest_rises : (x : ℤ) (labels : List ℤ) → rises (x ∷ labels) ≡ true → rises labels ≡ true
rest_rises x [] h = refl
rest_rises x (y ∷ labels) h = both_right (int_lt x y) (rises (y ∷ labels)) h

-- what has begun at a label has begun at a later one, and what has ended has ended
begun_later : (e : TemporalExtent) (x y : ℤ) → int_lt x y ≡ true → has_begun e x ≡ true → has_begun e y ≡ true
begun_later e x y lt h = by e.start h
  where
    by : (start : Option ℤ) → has_begun (record e { start = start }) x ≡ true → has_begun (record e { start = start }) y ≡ true
    by None h = refl
    by (Some s) h = grind (arith, ints)

ended_later : (e : TemporalExtent) (x y : ℤ) → int_lt x y ≡ true → has_not_ended e x ≡ false → has_not_ended e y ≡ false
ended_later e x y lt h = by e.end h
  where
    by : (end : Option ℤ) → has_not_ended (record e { end = end }) x ≡ false → has_not_ended (record e { end = end }) y ≡ false
    by None h = h
    by (Some s) h = grind (arith, ints)

abbrev before : TemporalExtent → ℤ → Bool
before e label = not (has_begun e label)

-- how many labels are before the start, and how many before the end
abbrev from_of : TemporalExtent → List ℤ → ℕ
from_of e labels = length (filter (before e) labels)

abbrev to_of : TemporalExtent → List ℤ → ℕ
to_of e labels = length (filter (has_not_ended e) labels)

none_before : (e : TemporalExtent) (x : ℤ) (labels : List ℤ) → rises (x ∷ labels) ≡ true → has_begun e x ≡ true → from_of e labels ≡ 0
none_before e x [] h b = refl
none_before e x (y ∷ labels) h b =
    let y_begun : has_begun e y ≡ true = begun_later e x y (next_above x y labels h) b in
    let rest = none_before e y labels (rest_rises x (y ∷ labels) h) y_begun in
    rw (y_begun, rest) refl

none_open : (e : TemporalExtent) (x : ℤ) (labels : List ℤ) → rises (x ∷ labels) ≡ true → has_not_ended e x ≡ false → to_of e labels ≡ 0
none_open e x [] h b = refl
none_open e x (y ∷ labels) h b =
    let y_ended : has_not_ended e y ≡ false = ended_later e x y (next_above x y labels h) b in
    let rest = none_open e y labels (rest_rises x (y ∷ labels) h) y_ended in
    rw (y_ended, rest) refl

none_inside : (e : TemporalExtent) (x : ℤ) (labels : List ℤ) → rises (x ∷ labels) ≡ true → has_not_ended e x ≡ false → labels_in_time e labels ≡ []
none_inside e x [] h b = refl
none_inside e x (y ∷ labels) h b =
    let y_ended : has_not_ended e y ≡ false = ended_later e x y (next_above x y labels h) b in
    let y_outside : is_in_time e y ≡ false = and_right (has_begun e y) (has_not_ended e y) y_ended in
    let rest = none_inside e y labels (rest_rises x (y ∷ labels) h) y_ended in
    rw (y_outside, rest) refl

-- ---- the part

counted_part : (e : TemporalExtent) (labels : List ℤ) → rises labels ≡ true → labels_in_time e labels ≡ slice_range labels (from_of e labels) (to_of e labels)
counted_part e [] h = refl
counted_part e (x ∷ labels) h = by (has_begun e x) (has_not_ended e x) refl refl (counted_part e labels (rest_rises x labels h))
  where
    by : (begun unended : Bool) → has_begun e x ≡ begun → has_not_ended e x ≡ unended
        → labels_in_time e labels ≡ slice_range labels (from_of e labels) (to_of e labels)
        → labels_in_time e (x ∷ labels) ≡ slice_range (x ∷ labels) (from_of e (x ∷ labels)) (to_of e (x ∷ labels))
    by false true b o rest =
        let same : suc (to_of e labels) - suc (from_of e labels) ≡ to_of e labels - from_of e labels = omega arith in
        rw (b, o, rest, same) refl
    by false false b o rest =
        let inside : labels_in_time e labels ≡ [] = none_inside e x labels h o in
        let open_count : to_of e labels ≡ 0 = none_open e x labels h o in
        let nothing : 0 - suc (from_of e labels) ≡ 0 = omega arith in
        rw (b, o, inside, open_count, nothing) refl
    by true true b o rest =
        let begun_count : from_of e labels ≡ 0 = none_before e x labels h b in
        let there : labels_in_time e labels ≡ slice_range labels 0 (to_of e labels) = subst (λ k. labels_in_time e labels ≡ slice_range labels k (to_of e labels)) begun_count rest in
        let same : suc (to_of e labels) - 0 ≡ suc (to_of e labels - 0) = omega arith in
        rw (b, o, begun_count, there, same) refl
    by true false b o rest =
        let begun_count : from_of e labels ≡ 0 = none_before e x labels h b in
        let inside : labels_in_time e labels ≡ [] = none_inside e x labels h o in
        let open_count : to_of e labels ≡ 0 = none_open e x labels h o in
        rw (b, o, begun_count, inside, open_count) refl

-- The labels inside an extent are those of its part, where labels rise.
pub part_in_time_is : (e : TemporalExtent) (labels : List ℤ) → rises labels ≡ true → labels_in_time e labels ≡ slice_range labels (part_in_time e labels).from (part_in_time e labels).to
part_in_time_is e labels h =
    counted_part e labels h ∙ rw (length-filter (before e) labels, length-filter (has_not_ended e) labels) refl
