-- Which labels each operation keeps along t, y and x, and how far from the index of a label the indices are that it needs.
use Rattle.std.proofs.Common.{◌≡◌, ◌⊎◌, inl, inr, ℕ, ◌+◌, ◌<◌, ◌≤◌, Bool, true, false, ◌&&◌, List, [], ◌∷◌, refl, sym, ap, subst, arith, Option, Some, None, ℤ, true≢false}
use Rattle.std.specs.Bool.{⊤}
use Rattle.std.specs.Prelude.{int_le, int_lt}
use Rattle.std.specs.Option.{unwrap_or}
use Rattle.std.proofs.lemmas.Int.{ints}
use Rattle.oe_dims.specs.Cube.{Tuple}
use Rattle.oe_dims.specs.Dimensions.{Dimensions, IsShape, extent, falls, rises}
use Rattle.oe_dims.specs.Indices.{same_number}
use Rattle.oe_dims.specs.Positions.{IsPosition, Position, label_of}
use Rattle.oe_dims.specs.declared.kind.Kind.{Kind}
use Rattle.oe_dims.specs.declared.kind.Kind.TheVariants.{Time, Bands, Y, X}
use Rattle.oe_dims.proofs.ReaderLemmas.{IsUnrepeated, IsUnrepeated-numbers}
use Rattle.oe_dims.proofs.ShapeLemmas.{t_rises, x_rises, y_falls}
use Rattle.oe_requests.specs.Extents.{Restriction, has_begun, has_not_ended, is_across, is_in_time, is_up, kept_labels}
use Rattle.oe_requests.specs.Labels.{differ_along, differ_in, is_above, is_below, shape_of_merge, only_along}
use Rattle.oe_requests.specs.Operations.{Operation, keep, each_cell, convolve, reduce, aggregate, accumulate, merge, cover, give_back, shape_of_aggregation, first_or, no_dimensions, second_or, shape_of, without_dimension}
use Rattle.oe_check.specs.Reach.{halo_of, needs_whole, same_kind}
use Rattle.oe_requests.specs.declared.extent.BoundingBox.{BoundingBox}
use Rattle.oe_requests.specs.declared.extent.Interval.{Interval}
use Rattle.oe_requests.specs.declared.extent.TemporalExtent.{TemporalExtent}
use Rattle.oe_meanings.proofs.OrderedLemmas.{IsOrder, above_is_order, below_is_order, falls_stand, left_of, right_of, rises_stand}
use Rattle.oe_ops.specs.Needs.{HasLabelsBeside, HasLabelsOf, IsInReach, IsWithinReach, Needs, argument_shape}
use Rattle.oe_plan.proofs.CoreLemmas.{Differ, Follows, IsAsked, asked_label, asked_near, asked_wider, follows_same}
use Rattle.oe_plan.proofs.PartsLemmas.{IsConvex, StandInOrder, follows_mask, inside_part, merge_follows_one, merge_follows_two}

-- ---- the dimensions along which chunks are cut

-- the labels along t, y or x
abbrev pub labels_along : Kind → Dimensions → Option (List ℤ)
labels_along Time d = d.t
labels_along Bands d = None
labels_along Y d = d.y
labels_along X d = d.x

abbrev pub IsCut : Kind → Type 0
IsCut Time = ⊤
IsCut Bands = ⊥
IsCut Y = ⊤
IsCut X = ⊤

abbrev pub index_at : Kind → Position → ℕ
index_at Time p = p.t
index_at Bands p = p.band
index_at Y p = p.y
index_at X p = p.x

-- their order
abbrev pub comes_before : Kind → ℤ → ℤ → Bool
comes_before Time = is_below
comes_before Bands = is_below
comes_before Y = is_above
comes_before X = is_below

pub is_order : (along : Kind) → IsOrder (comes_before along)
is_order Time = below_is_order
is_order Bands = below_is_order
is_order Y = above_is_order
is_order X = below_is_order

abbrev pub Stand : Kind → Option (List ℤ) → Type 0
Stand along labels = StandInOrder (comes_before along) (is_order along) labels

rising : (labels : Option (List ℤ)) → rises (unwrap_or labels []) ≡ true → StandInOrder is_below below_is_order labels
rising None h = tt
rising (Some labels) h = rises_stand labels h

falling : (labels : Option (List ℤ)) → falls (unwrap_or labels []) ≡ true → StandInOrder is_above above_is_order labels
falling None h = tt
falling (Some labels) h = falls_stand labels h

pub stand : (along : Kind) (d : Dimensions) → IsShape d → Stand along (labels_along along d)
stand Time d h = rising d.t (t_rises d h)
stand Bands d h = tt
stand Y d h = falling d.y (y_falls d h)
stand X d h = rising d.x (x_rises d h)

unrepeated : (labels : Option (List ℤ)) → IsUnrepeated (unwrap_or labels []) → Differ labels
unrepeated None h = tt
unrepeated (Some labels) h = h.one

pub differ : (along : Kind) (d : Dimensions) → IsShape d → Differ (labels_along along d)
differ Time d h = unrepeated d.t (IsUnrepeated-numbers d Time h)
differ Bands d h = tt
differ Y d h = unrepeated d.y (IsUnrepeated-numbers d Y h)
differ X d h = unrepeated d.x (IsUnrepeated-numbers d X h)

-- ---- what lies inside an extent

begun_later : (start : Option ℤ) (end : Option ℤ) (x y : ℤ) → is_below x y ≡ true → has_begun (record { start = start; end = end }) x ≡ true → has_begun (record { start = start; end = end }) y ≡ true
begun_later None end x y lt h = refl
begun_later (Some s) end x y lt h = grind (arith, ints)

unended_earlier : (start : Option ℤ) (end : Option ℤ) (x y : ℤ) → is_below x y ≡ true → has_not_ended (record { start = start; end = end }) y ≡ true → has_not_ended (record { start = start; end = end }) x ≡ true
unended_earlier start None x y lt h = refl
unended_earlier start (Some e) x y lt h = grind (arith, ints)

both : (a b : Bool) → a ≡ true → b ≡ true → (a && b) ≡ true
both a b h k = rw (h, k) refl

in_time_convex : (e : TemporalExtent) → IsConvex is_below below_is_order (is_in_time e)
in_time_convex e a b c ab bc ia ic =
    both (has_begun e b) (has_not_ended e b)
    (begun_later e.start e.end a b ab (left_of (has_begun e a) (has_not_ended e a) ia))
    (unended_earlier e.start e.end b c bc (right_of (has_begun e c) (has_not_ended e c) ic))

le_lt : (w a b : ℤ) → int_le w a ≡ true → int_lt a b ≡ true → int_le w b ≡ true
le_lt w a b h k = grind (arith, ints)

lt_le : (b c e : ℤ) → int_lt b c ≡ true → int_le c e ≡ true → int_le b e ≡ true
lt_le b c e h k = grind (arith, ints)

across_convex : (box : BoundingBox) → IsConvex is_below below_is_order (is_across box)
across_convex box a b c ab bc ia ic =
    both (int_le box.west b) (int_le b box.east)
    (le_lt box.west a b (left_of (int_le box.west a) _ ia) ab) (lt_le b c box.east bc (right_of (int_le box.west c) _ ic))

up_convex : (box : BoundingBox) → IsConvex is_above above_is_order (is_up box)
up_convex box a b c ab bc ia ic =
    both (int_le box.south b) (int_le b box.north)
    (le_lt box.south c b (left_of (int_le box.south c) _ ic) bc) (lt_le b a box.north ab (right_of (int_le box.south a) _ ia))

kept_follows : {E : Type 0} (is_before : ℤ → ℤ → Bool) (o : IsOrder is_before) (is_inside : E → ℤ → Bool)
    → ((e : E) → IsConvex is_before o (is_inside e)) → (extent : Option E) (labels : Option (List ℤ)) → StandInOrder is_before o labels
    → Follows (kept_labels is_inside extent labels) labels
kept_follows is_before o is_inside convex None labels h = follows_same labels
kept_follows is_before o is_inside convex (Some e) None h = tt
kept_follows is_before o is_inside convex (Some e) (Some labels) h = inside_part is_before o (is_inside e) (convex e) labels h

-- ---- what a check has seen of an operation on cubes of these shapes and of its argument of a number

-- the mask has no dimension that the data lacks, and along each the same label set
abbrev pub IsMaskOf : Dimensions → Dimensions → Type 0
IsMaskOf d m =
    (along : Kind) → (labels_along along d ≡ None → labels_along along m ≡ None) × (differ_in same_number (labels_along along d) (labels_along along m) ≡ false)

abbrev pub IsTaken : Operation → List Dimensions → ℕ → Type 0
IsTaken (keep r) shapes number = number ≡ 0
IsTaken (each_cell c) shapes number = number ≡ 0
IsTaken (convolve kernel factor border replace) shapes number = number ≡ 0
IsTaken (reduce kind c) shapes number = number ≡ 0
IsTaken (aggregate intervals c) shapes number = number ≡ 0
IsTaken (accumulate ignore) shapes number = number ≡ 0
IsTaken (merge resolver) shapes number = (number ≡ 0) ⊎ (number ≡ 1)
IsTaken (cover replacement) shapes number = (number ≡ 0) ⊎ ((number ≡ 1) × IsMaskOf (first_or no_dimensions shapes) (second_or no_dimensions shapes))
IsTaken give_back shapes number = number ≡ 0

-- ---- the labels of the result follow those of the argument

abbrev FollowsAlong : Kind → Dimensions → List Dimensions → ℕ → Type 0
FollowsAlong along result shapes number = Follows (labels_along along result) (labels_along along (argument_shape shapes number))

-- of the first cube
at_first : (along : Kind) (result : Dimensions) (shapes : List Dimensions) (number : ℕ) → number ≡ 0
    → Follows (labels_along along result) (labels_along along (first_or no_dimensions shapes)) → FollowsAlong along result shapes number
at_first along result shapes number is h = subst (λ n. FollowsAlong along result shapes n) (sym is) h

at_second : (along : Kind) (result : Dimensions) (shapes : List Dimensions) (number : ℕ) → number ≡ 1
    → Follows (labels_along along result) (labels_along along (second_or no_dimensions shapes)) → FollowsAlong along result shapes number
at_second along result shapes number is h = subst (λ n. FollowsAlong along result shapes n) (sym is) h

keep_follows : (r : Restriction) (along : Kind) (d : Dimensions) → IsShape d → Follows (labels_along along (shape_of (keep r) (d ∷ []))) (labels_along along d)
keep_follows r Time d h = kept_follows is_below below_is_order is_in_time in_time_convex r.time d.t (stand Time d h)
keep_follows r Bands d h = tt
keep_follows r Y d h = kept_follows is_above above_is_order is_up up_convex r.box d.y (stand Y d h)
keep_follows r X d h = kept_follows is_below below_is_order is_across across_convex r.box d.x (stand X d h)

without_same : (kind along : Kind) (d : Dimensions) → same_kind kind along ≡ false → labels_along along (without_dimension kind d) ≡ labels_along along d
without_same Time Time d h = absurd (true≢false h)
without_same Time Bands d h = refl
without_same Time Y d h = refl
without_same Time X d h = refl
without_same Bands Time d h = refl
without_same Bands Bands d h = refl
without_same Bands Y d h = refl
without_same Bands X d h = refl
without_same Y Time d h = refl
without_same Y Bands d h = refl
without_same Y Y d h = absurd (true≢false h)
without_same Y X d h = refl
without_same X Time d h = refl
without_same X Bands d h = refl
without_same X Y d h = refl
without_same X X d h = absurd (true≢false h)

aggregated_same : (intervals : List Interval) (along : Kind) (d : Dimensions) → same_kind Time along ≡ false → labels_along along (shape_of_aggregation intervals d) ≡ labels_along along d
aggregated_same intervals Time d h = absurd (true≢false h)
aggregated_same intervals Bands d h = refl
aggregated_same intervals Y d h = refl
aggregated_same intervals X d h = refl

same_follows : (along : Kind) (result d : Dimensions) → labels_along along result ≡ labels_along along d → Follows (labels_along along result) (labels_along along d)
same_follows along result d e = subst (λ labels. Follows labels (labels_along along d)) (sym e) (follows_same (labels_along along d))

merged_first : (along : Kind) (one two : Dimensions) → IsShape one → IsShape two → differ_along along one two ≡ false → Follows (labels_along along (shape_of_merge one two)) (labels_along along one)
merged_first Time one two h k e = merge_follows_one is_below below_is_order one.t two.t (stand Time one h) (stand Time two k) e
merged_first Bands one two h k e = tt
merged_first Y one two h k e = merge_follows_one is_above above_is_order one.y two.y (stand Y one h) (stand Y two k) e
merged_first X one two h k e = merge_follows_one is_below below_is_order one.x two.x (stand X one h) (stand X two k) e

merged_second : (along : Kind) (one two : Dimensions) → IsShape one → IsShape two → differ_along along one two ≡ false → Follows (labels_along along (shape_of_merge one two)) (labels_along along two)
merged_second Time one two h k e = merge_follows_two is_below below_is_order one.t two.t (stand Time one h) (stand Time two k) e
merged_second Bands one two h k e = tt
merged_second Y one two h k e = merge_follows_two is_above above_is_order one.y two.y (stand Y one h) (stand Y two k) e
merged_second X one two h k e = merge_follows_two is_below below_is_order one.x two.x (stand X one h) (stand X two k) e

mask_follows : (along : Kind) (d m : Dimensions) → IsShape d → IsShape m → IsMaskOf d m → Follows (labels_along along d) (labels_along along m)
mask_follows along d m h k is =
    follows_mask (comes_before along) (is_order along) (labels_along along d) (labels_along along m) (stand along d h) (stand along m k) (is along).0 (is along).1

abbrev pub AreValid : List Dimensions → Type 0
AreValid shapes = (n : ℕ) → IsShape (argument_shape shapes n)

pub follows : (operation : Operation) (shapes : List Dimensions) (number : ℕ) (along : Kind) → IsTaken operation shapes number → AreValid shapes
    → needs_whole operation shapes along ≡ false → FollowsAlong along (shape_of operation shapes) shapes number
follows (keep r) shapes number along taken valid cut = at_first along _ shapes number taken (keep_follows r along (first_or no_dimensions shapes) (valid 0))
follows (each_cell c) shapes number along taken valid cut = at_first along _ shapes number taken (follows_same _)
follows (convolve kernel factor border replace) shapes number along taken valid cut = at_first along _ shapes number taken (follows_same _)
follows (reduce kind c) shapes number along taken valid cut =
    at_first along _ shapes number taken (same_follows along (without_dimension kind (first_or no_dimensions shapes)) (first_or no_dimensions shapes) (without_same kind along (first_or no_dimensions shapes) cut))
follows (aggregate intervals c) shapes number along taken valid cut =
    at_first along _ shapes number taken (same_follows along (shape_of_aggregation intervals (first_or no_dimensions shapes)) (first_or no_dimensions shapes) (aggregated_same intervals along (first_or no_dimensions shapes) cut))
follows (accumulate ignore) shapes number along taken valid cut = at_first along _ shapes number taken (follows_same _)
follows (merge resolver) shapes number along taken valid cut = elim taken [
  | inl first ↦ at_first along _ shapes number first (merged_first along (first_or no_dimensions shapes) (second_or no_dimensions shapes) (valid 0) (valid 1) cut)
  | inr second ↦ at_second along _ shapes number second (merged_second along (first_or no_dimensions shapes) (second_or no_dimensions shapes) (valid 0) (valid 1) cut)
]
follows (cover replacement) shapes number along taken valid cut = elim taken [
  | inl first ↦ at_first along _ shapes number first (follows_same _)
  | inr second ↦ at_second along _ shapes number second.0 (mask_follows along (first_or no_dimensions shapes) (second_or no_dimensions shapes) (valid 0) (valid 1) second.1)
]
follows give_back shapes number along taken valid cut = at_first along _ shapes number taken (follows_same _)

-- ---- what is needed along a dimension

-- the index of the argument has the label of that of the result
pub record HasLabelAlong (labels argument : Option (List ℤ)) (p q : ℕ) : Type 0 where
  pub below : q < extent argument
  pub same : label_of argument q ≡ only_along argument (label_of labels p)

label_along : (along : Kind) (result argument : Dimensions) (p q : Position) → IsCut along → HasLabelsOf result argument p q
    → HasLabelAlong (labels_along along result) (labels_along along argument) (index_at along p) (index_at along q)
label_along Time result argument p q cut h = record { below = h.is_position.t; same = ap (λ (u : Tuple). u.t) h.labels }
label_along Bands result argument p q cut h = absurd cut
label_along Y result argument p q cut h = record { below = h.is_position.y; same = ap (λ (u : Tuple). u.y) h.labels }
label_along X result argument p q cut h = record { below = h.is_position.x; same = ap (λ (u : Tuple). u.x) h.labels }

only_itself : (labels : Option (List ℤ)) (i : ℕ) (l : Option ℤ) → only_along labels (label_of labels i) ≡ l → label_of labels i ≡ l
only_itself None i l e = e
only_itself (Some labels) i l e = e

beside_along : (kind along : Kind) (result argument : Dimensions) (p q : Position) → IsCut along → same_kind kind along ≡ false → HasLabelsBeside kind result argument p q
    → HasLabelAlong (labels_along along result) (labels_along along argument) (index_at along p) (index_at along q)
beside_along Time Time result argument p q cut other h = absurd (true≢false other)
beside_along Time Bands result argument p q cut other h = absurd cut
beside_along Time Y result argument p q cut other h = record { below = h.is_position.y; same = only_itself argument.y q.y _ (ap (λ (u : Tuple). u.y) h.labels) }
beside_along Time X result argument p q cut other h = record { below = h.is_position.x; same = only_itself argument.x q.x _ (ap (λ (u : Tuple). u.x) h.labels) }
beside_along Bands Time result argument p q cut other h = record { below = h.is_position.t; same = only_itself argument.t q.t _ (ap (λ (u : Tuple). u.t) h.labels) }
beside_along Bands Bands result argument p q cut other h = absurd cut
beside_along Bands Y result argument p q cut other h = record { below = h.is_position.y; same = only_itself argument.y q.y _ (ap (λ (u : Tuple). u.y) h.labels) }
beside_along Bands X result argument p q cut other h = record { below = h.is_position.x; same = only_itself argument.x q.x _ (ap (λ (u : Tuple). u.x) h.labels) }
beside_along Y Time result argument p q cut other h = record { below = h.is_position.t; same = only_itself argument.t q.t _ (ap (λ (u : Tuple). u.t) h.labels) }
beside_along Y Bands result argument p q cut other h = absurd cut
beside_along Y Y result argument p q cut other h = absurd (true≢false other)
beside_along Y X result argument p q cut other h = record { below = h.is_position.x; same = only_itself argument.x q.x _ (ap (λ (u : Tuple). u.x) h.labels) }
beside_along X Time result argument p q cut other h = record { below = h.is_position.t; same = only_itself argument.t q.t _ (ap (λ (u : Tuple). u.t) h.labels) }
beside_along X Bands result argument p q cut other h = absurd cut
beside_along X Y result argument p q cut other h = record { below = h.is_position.y; same = only_itself argument.y q.y _ (ap (λ (u : Tuple). u.y) h.labels) }
beside_along X X result argument p q cut other h = absurd (true≢false other)

-- the indices within reach
pub record IsNearAlong (halo side p q : ℕ) : Type 0 where
  pub below : q < side
  pub low : p ≤ q + halo
  pub high : q ≤ p + halo

reach_along : (along : Kind) (whole : Kind → Bool) (halo : Kind → ℕ) (d : Dimensions) (p q : Position) → IsCut along → whole along ≡ false → IsInReach whole halo d p q
    → IsNearAlong (halo along) (extent (labels_along along d)) (index_at along p) (index_at along q)
reach_along Time whole halo d p q cut not h = let w = subst (λ b. IsWithinReach b (halo Time) p.t q.t) not h.t in record { below = h.is_position.t; low = w.0; high = w.1 }
reach_along Bands whole halo d p q cut not h = absurd cut
reach_along Y whole halo d p q cut not h = let w = subst (λ b. IsWithinReach b (halo Y) p.y q.y) not h.y in record { below = h.is_position.y; low = w.0; high = w.1 }
reach_along X whole halo d p q cut not h = let w = subst (λ b. IsWithinReach b (halo X) p.x q.x) not h.x in record { below = h.is_position.x; low = w.0; high = w.1 }

module _ (shapes : List Dimensions) (number : ℕ) (along : Kind) (is_cut : IsCut along) (valid : AreValid shapes) (p q : Position) where
  abbrev argument : Dimensions
  argument = argument_shape shapes number

  abbrev IsAskedOf : Operation → Type 0
  IsAskedOf operation =
      IsAsked (halo_of operation along) (labels_along along (shape_of operation shapes)) (labels_along along argument) (index_at along p) (index_at along q)

  by_label : (halo : ℕ) (result : Dimensions) → FollowsAlong along result shapes number → HasLabelAlong (labels_along along result) (labels_along along argument) (index_at along p) (index_at along q)
      → IsAsked halo (labels_along along result) (labels_along along argument) (index_at along p) (index_at along q)
  by_label halo result follow h =
      asked_wider 0 halo (labels_along along result) (labels_along along argument) (index_at along p) (index_at along q) (omega arith)
      (asked_label (labels_along along result) (labels_along along argument) (index_at along p) (index_at along q) follow (differ along argument (valid number)) h.below h.same)

  pub asks : (operation : Operation) → IsTaken operation shapes number → needs_whole operation shapes along ≡ false → Needs operation shapes number p q → IsAskedOf operation
  asks (keep r) taken cut needs = by_label _ _ (follows (keep r) shapes number along taken valid cut) (label_along along _ argument p q is_cut needs)
  asks (each_cell c) taken cut needs = by_label _ _ (follows (each_cell c) shapes number along taken valid cut) (label_along along _ argument p q is_cut needs)
  asks (convolve kernel factor border replace) taken cut needs =
      let near = reach_along along (needs_whole (convolve kernel factor border replace) shapes) (halo_of (convolve kernel factor border replace)) argument p q is_cut cut needs in
      let same : labels_along along (first_or no_dimensions shapes) ≡ labels_along along argument = ap (λ n. labels_along along (argument_shape shapes n)) (sym taken) in
      asked_near (halo_of (convolve kernel factor border replace) along) (labels_along along (first_or no_dimensions shapes)) (labels_along along argument) (index_at along p) (index_at along q) same near.below near.low near.high
  asks (reduce kind c) taken cut needs = by_label _ _ (follows (reduce kind c) shapes number along taken valid cut) (beside_along kind along _ argument p q is_cut cut needs)
  asks (aggregate intervals c) taken cut needs = by_label _ _ (follows (aggregate intervals c) shapes number along taken valid cut) (beside_along Time along _ argument p q is_cut cut needs)
  asks (accumulate ignore) taken cut needs = by_label _ _ (follows (accumulate ignore) shapes number along taken valid cut) (beside_along Time along _ argument p q is_cut cut needs)
  asks (merge resolver) taken cut needs = by_label _ _ (follows (merge resolver) shapes number along taken valid cut) (label_along along _ argument p q is_cut needs)
  asks (cover replacement) taken cut needs = by_label _ _ (follows (cover replacement) shapes number along taken valid cut) (label_along along _ argument p q is_cut needs)
  asks give_back taken cut needs = by_label _ _ (follows give_back shapes number along taken valid cut) (label_along along _ argument p q is_cut needs)

-- whatever an operation needs is a position of its argument
pub needs_position : (operation : Operation) (shapes : List Dimensions) (number : ℕ) (p q : Position) → Needs operation shapes number p q → IsPosition (argument_shape shapes number) q
needs_position (keep r) shapes number p q needs = needs.is_position
needs_position (each_cell c) shapes number p q needs = needs.is_position
needs_position (convolve kernel factor border replace) shapes number p q needs = needs.is_position
needs_position (reduce kind c) shapes number p q needs = needs.is_position
needs_position (aggregate intervals c) shapes number p q needs = needs.is_position
needs_position (accumulate ignore) shapes number p q needs = needs.is_position
needs_position (merge resolver) shapes number p q needs = needs.is_position
needs_position (cover replacement) shapes number p q needs = needs.is_position
needs_position give_back shapes number p q needs = needs.is_position
