-- The first kind whose labels fail a test, one kind at a time, and how many cells there can be.
use Rattle.std.proofs.Common.{◌≡◌, ℕ, ◌+◌, ◌*◌, ◌^◌, ◌<◌, ◌≤◌, nat_le, Bool, true, false, List, length, get_or, drop, refl, arith, Option, Some, None, cond, [], ◌∷◌, ◌++◌, take, sym, ap, ◌∙◌}
use Rattle.std.specs.Option.{option_map, option_map_or}
use Rattle.std.proofs.lemmas.List.{drop_more, drop_all}
use Rattle.std.proofs.lemmas.Bool.{leb-true}
use Rattle.std.proofs.Math.Nat.{mul-le-mul}
use Rattle.oe_dims.specs.Dimensions.{Dimensions, first_failing, all_kinds, or_else, extent, most_labels, limit_fault, is_within_limit}
use Rattle.oe_dims.specs.declared.kind.Kind.{Kind}
use Rattle.oe_dims.specs.declared.kind.Kind.TheVariants.{Time, Bands, Y, X}
use Rattle.oe_dims.specs.declared.shape.ShapeFault.{ShapeFault}
use Rattle.oe_dims.specs.declared.shape.ShapeFault.TheVariants.{TooMany}

pub first_failing_more : (test : Kind → Bool) (fault : Kind → ShapeFault) (kinds : List Kind) (i : ℕ) (d : Kind) → i < length kinds → first_failing test fault (drop i kinds) ≡ cond (test (get_or kinds i d)) (first_failing test fault (drop (i + 1) kinds)) (Some (fault (get_or kinds i d)))
first_failing_more test fault kinds i d h = rw (drop_more kinds i d h)

pub first_failing_all : (test : Kind → Bool) (fault : Kind → ShapeFault) (kinds : List Kind) (i : ℕ) → length kinds ≤ i → first_failing test fault (drop i kinds) ≡ None
first_failing_all test fault kinds i h = rw (drop_all i kinds h)

-- what it says that a choice of no fault or one is none
chosen_none : (b : Bool) (next : Option ShapeFault) (fault : ShapeFault) → cond b next (Some fault) ≡ None → (b ≡ true) × (next ≡ None)
chosen_none true next fault e = (refl, e)
chosen_none false next fault e = cc

-- each kind passes a test that none fails
pub each_passes : (test : Kind → Bool) (fault : Kind → ShapeFault) → first_failing test fault all_kinds ≡ None → (kind : Kind) → test kind ≡ true
each_passes test fault e Time = (chosen_none (test Time) _ _ e).0
each_passes test fault e Bands = (chosen_none (test Bands) _ _ (chosen_none (test Time) _ _ e).1).0
each_passes test fault e Y = (chosen_none (test Y) _ _ (chosen_none (test Bands) _ _ (chosen_none (test Time) _ _ e).1).1).0
each_passes test fault e X =
    (chosen_none (test X) _ _ (chosen_none (test Y) _ _ (chosen_none (test Bands) _ _ (chosen_none (test Time) _ _ e).1).1).1).0

pub or_else_none : (first next : Option ShapeFault) → or_else first next ≡ None → (first ≡ None) × (next ≡ None)
or_else_none None next e = (refl, e)
or_else_none (Some fault) next e = cc

extent_limit : {L : Type 0} (labels : Option (List L)) → option_map_or (λ n. nat_le n most_labels) (option_map length labels) true ≡ true → extent labels ≤ most_labels
extent_limit None e = omega arith
extent_limit (Some labels) e = leb-true (length labels) most_labels e

-- where no dimension has too many labels, each gives at most 65536 indices
pub record ExtentsAreWithin (d : Dimensions) : Type 0 where
  pub t : extent d.t ≤ most_labels
  pub bands : extent d.bands ≤ most_labels
  pub y : extent d.y ≤ most_labels
  pub x : extent d.x ≤ most_labels

pub extents_within : (d : Dimensions) → limit_fault d ≡ None → ExtentsAreWithin d
unfolding limit_fault
extents_within d e =
    let within = each_passes (is_within_limit d) TooMany e in
    record { t = extent_limit d.t (within Time); bands = extent_limit d.bands (within Bands); y = extent_limit d.y (within Y); x = extent_limit d.x (within X) }

-- three extents multiply within 64 bits
pub product_fits : (a b c : ℕ) → a ≤ most_labels → b ≤ most_labels → c ≤ most_labels → (a * b < 2 ^ 64) × (a * b * c < 2 ^ 64)
product_fits a b c ha hb hc =
    let two : a * b ≤ 65536 * 65536 = mul-le-mul ha hb in
    let three : a * b * c ≤ 65536 * 65536 * 65536 = mul-le-mul two hc in
    (omega arith, omega arith)

pub take_front : (a b : List ℕ) (n : ℕ) → length a ≡ n → take n (a ++ b) ≡ a
take_front a b n e = ap (λ (m : ℕ). take m (a ++ b)) (sym e) ∙ seam a b
  where
    seam : (xs ys : List ℕ) → take (length xs) (xs ++ ys) ≡ xs
    seam [] ys = refl
    seam (x ∷ xs) ys = ap (λ (zs : List ℕ). x ∷ zs) (seam xs ys)

pub drop_front : (a b : List ℕ) (n : ℕ) → length a ≡ n → drop n (a ++ b) ≡ b
drop_front a b n e = ap (λ (m : ℕ). drop m (a ++ b)) (sym e) ∙ seam a b
  where
    seam : (xs ys : List ℕ) → drop (length xs) (xs ++ ys) ≡ ys
    seam [] ys = refl
    seam (x ∷ xs) ys = seam xs ys
