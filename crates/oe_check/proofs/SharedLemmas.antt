-- A tuple of labels is in both cubes of a merge exactly where along each dimension a label is in both.
use Rattle.std.proofs.Common.{◌≡◌, ℕ, ℤ, Bool, true, false, ◌||◌, List, [], ◌∷◌, refl, sym, ap, ◌∙◌, subst, arith, Option, Some, None, ◌⊎◌, inl, inr, true≢false}
use Rattle.std.specs.Prelude.{Contains}
use Rattle.std.specs.List.{list_any}
use Rattle.std.proofs.lemmas.Bool.{and_from, and_parts}
use Rattle.oe_dims.proofs.IndexLemmas.{same_number_is, same_number_refl}
use Rattle.oe_dims.proofs.OrderLemmas.{same_name_is, same_name_refl}
use Rattle.oe_dims.specs.Cube.{Tuple, IsLabelOf}
use Rattle.oe_dims.specs.Dimensions.{Dimensions}
use Rattle.oe_dims.specs.Indices.{same_number}
use Rattle.oe_dims.specs.Names.{same_name}
use Rattle.oe_meanings.proofs.LabelLemmas.{keep_all_labels}
use Rattle.oe_meanings.proofs.MergeLemmas.{or_cases, any_there, there_any}
use Rattle.oe_requests.specs.Labels.{is_below, is_above, all_in_order, all_bands, only_along}
use Rattle.oe_meanings.specs.Laws.{IsInBoth, NeedResolvers}
use Rattle.oe_meanings.specs.Words.{has_label, meet_in, share_tuple}

-- ---- labels of one list, and of two

some_label : {L : Type 0} (xs : List L) → has_label xs ≡ true → (l : L) × Contains xs l
some_label [] h = absurd (true≢false (sym h))
some_label (x ∷ xs) h = (x, (0, omega arith, refl))

label_some : {L : Type 0} (xs : List L) (l : L) → Contains xs l → has_label xs ≡ true
label_some [] l c = absurd (omega (arith, c.1))
label_some (x ∷ xs) l c = refl

module _ {L : Type 0} (same : L → L → Bool) (is_same : (a b : L) → same a b ≡ true → b ≡ a) (itself : (a : L) → same a a ≡ true) where
  -- a label of both lists, from the test that there is one
  record IsCommon (one two : List L) : Type 0 where
    label : L
    first : list_any (same label) one ≡ true
    second : list_any (same label) two ≡ true

  common : (one two : List L) → list_any (λ label. list_any (same label) two) one ≡ true → IsCommon one two
  common [] two h = absurd (true≢false (sym h))
  common (x ∷ one) two h = by (or_cases _ _ h) (common one two)
    where
      later : (a b : Bool) → b ≡ true → (a || b) ≡ true
      later true b e = refl
      later false b e = e

      by : (list_any (same x) two ≡ true) ⊎ (list_any (λ label. list_any (same label) two) one ≡ true)
          → (list_any (λ label. list_any (same label) two) one ≡ true → IsCommon one two) → IsCommon (x ∷ one) two
      by (inl m) rest = record { label = x; first = ap (λ b. b || list_any (same x) one) (itself x); second = m }
      by (inr m) rest = let c = rest m in record { label = c.label; first = later (same c.label x) _ c.first; second = c.second }

  -- and back
  there : (one two : List L) (l : L) → list_any (same l) one ≡ true → list_any (same l) two ≡ true → list_any (λ label. list_any (same label) two) one ≡ true
  there [] two l h k = absurd (true≢false (sym h))
  there (x ∷ one) two l h k = by (or_cases _ _ h) (λ m. there one two l m k)
    where
      later : (a b : Bool) → b ≡ true → (a || b) ≡ true
      later true b e = refl
      later false b e = e

      by : (same l x ≡ true) ⊎ (list_any (same l) one ≡ true)
          → (list_any (same l) one ≡ true → list_any (λ label. list_any (same label) two) one ≡ true)
          → list_any (λ label. list_any (same label) two) (x ∷ one) ≡ true
      by (inl e) rest =
          let here : list_any (same x) two ≡ true = subst (λ y. list_any (same y) two ≡ true) (sym (is_same l x e)) k in
          ap (λ b. b || list_any (λ label. list_any (same label) two) one) here
      by (inr m) rest = later (list_any (same x) two) _ (rest m)

-- ---- along one dimension

-- a label of the merge that both cubes have, where they have the dimension
record IsShared {L : Type 0} (joint one two : Option (List L)) : Type 0 where
  label : Option L
  merged : IsLabelOf joint label
  first : IsLabelOf one (only_along one label)
  second : IsLabelOf two (only_along two label)

shared_number : (is_before : ℤ → ℤ → Bool) (one two : Option (List ℤ)) → meet_in same_number one two ≡ true → IsShared (all_in_order is_before one two) one two
shared_number is_before None None h = record { label = None; merged = tt; first = tt; second = tt }
shared_number is_before (Some one) None h = let l = some_label one h in record { label = Some l.0; merged = l.1; first = l.1; second = tt }
shared_number is_before None (Some two) h = let l = some_label two h in record { label = Some l.0; merged = l.1; first = tt; second = l.1 }
shared_number is_before (Some one) (Some two) h =
    let c = common same_number same_number_is same_number_refl one two h in
    let joint = keep_all_labels.of_both is_before one two c.label ∙ ap (λ b. b || list_any (same_number c.label) two) c.first in
    record {
      label = Some c.label;
      merged = any_there same_number same_number_is same_number_refl c.label _ joint;
      first = any_there same_number same_number_is same_number_refl c.label one c.first;
      second = any_there same_number same_number_is same_number_refl c.label two c.second;
    }

shared_band : (one two : Option (List (List ℕ))) → meet_in same_name one two ≡ true → IsShared (all_bands one two) one two
shared_band None None h = record { label = None; merged = tt; first = tt; second = tt }
shared_band (Some one) None h = let l = some_label one h in record { label = Some l.0; merged = l.1; first = l.1; second = tt }
shared_band None (Some two) h = let l = some_label two h in record { label = Some l.0; merged = l.1; first = tt; second = l.1 }
shared_band (Some one) (Some two) h =
    let c = common same_name same_name_is same_name_refl one two h in
    let joint = keep_all_labels.bands_of_both one two c.label ∙ ap (λ b. b || list_any (same_name c.label) two) c.first in
    record {
      label = Some c.label;
      merged = any_there same_name same_name_is same_name_refl c.label _ joint;
      first = any_there same_name same_name_is same_name_refl c.label one c.first;
      second = any_there same_name same_name_is same_name_refl c.label two c.second;
    }

module _ {L : Type 0} (same : L → L → Bool) (is_same : (a b : L) → same a b ≡ true → b ≡ a) (itself : (a : L) → same a a ≡ true) where
  meets : (one two : Option (List L)) (label : Option L) → IsLabelOf one (only_along one label) → IsLabelOf two (only_along two label) → meet_in same one two ≡ true
  meets None None label h k = refl
  meets (Some one) None None h k = elim h [ ]
  meets (Some one) None (Some l) h k = label_some one l h
  meets None (Some two) None h k = elim k [ ]
  meets None (Some two) (Some l) h k = label_some two l k
  meets (Some one) (Some two) None h k = elim h [ ]
  meets (Some one) (Some two) (Some l) h k =
      there same is_same itself one two l (there_any same is_same itself l one h) (there_any same is_same itself l two k)

-- ---- along all of them

to_tuple : (one two : Dimensions) → share_tuple one two ≡ true → (tuple : Tuple) × IsInBoth one two tuple
to_tuple one two h =
    let with_x = and_parts _ _ h in
    let with_y = and_parts _ _ with_x.0 in
    let with_band = and_parts _ _ with_y.0 in
    let t = shared_number is_below one.t two.t with_band.0 in
    let b = shared_band one.bands two.bands with_band.1 in
    let y = shared_number is_above one.y two.y with_y.1 in
    let x = shared_number is_below one.x two.x with_x.1 in (
      record { t = t.label; band = b.label; y = y.label; x = x.label },
      record {
        merged = record { t = t.merged; band = b.merged; y = y.merged; x = x.merged };
        first = record { t = t.first; band = b.first; y = y.first; x = x.first };
        second = record { t = t.second; band = b.second; y = y.second; x = x.second };
      },
    )

from_tuple : (one two : Dimensions) (tuple : Tuple) → IsInBoth one two tuple → share_tuple one two ≡ true
from_tuple one two tuple h =
    let t = meets same_number same_number_is same_number_refl one.t two.t tuple.t h.first.t h.second.t in
    let b = meets same_name same_name_is same_name_refl one.bands two.bands tuple.band h.first.band h.second.band in
    let y = meets same_number same_number_is same_number_refl one.y two.y tuple.y h.first.y h.second.y in
    let x = meets same_number same_number_is same_number_refl one.x two.x tuple.x h.first.x h.second.x in
    and_from _ (meet_in same_number one.x two.x)
    (and_from _ (meet_in same_number one.y two.y) (and_from (meet_in same_number one.t two.t) (meet_in same_name one.bands two.bands) t b) y) x

pub need_resolvers : NeedResolvers
need_resolvers = record { each = λ one two. (to_tuple one two, λ h. from_tuple one two h.0 h.1) }
