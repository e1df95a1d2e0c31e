-- Names in byte order: one of two that differ stands before the other, and what rises behind a name.
use Rattle.std.proofs.Common.{◌≡◌, ℕ, ◌&&◌, Bool, true, false, List, [], ◌∷◌, Ordering, Less, Equal, Greater, refl, ap, ◌∙◌, true≢false}
use Rattle.std.specs.Cmp.Lexicographic.{slice_cmp}
use Rattle.std.specs.Ordering.{nat_cmp, is_lt, is_eq, ordering_reverse}
use Rattle.std.proofs.lemmas.Bool.{and_parts}
use Rattle.std.proofs.lemmas.Cmp.{nat_list_cmp_total}
use Rattle.std.proofs.lemmas.Map.Text.{is_eq-slice_cmp}
use Rattle.oe_dims.specs.Names.{same_name, is_name_before, names_rise}
use Rattle.oe_dims.proofs.OrderLemmas.{same_name-bytes_eq}

by_order : (o : Ordering) → is_lt o ≡ false → is_eq o ≡ false → is_lt (ordering_reverse o) ≡ true
by_order Less not_less not_same = absurd (true≢false not_less)
by_order Equal not_less not_same = absurd (true≢false not_same)
by_order Greater not_less not_same = refl

-- of two names that differ one stands before the other
pub other_before : (a b : List ℕ) → is_name_before a b ≡ false → same_name a b ≡ false → is_name_before b a ≡ true
other_before a b not_before differ =
    ap is_lt (nat_list_cmp_total.antisymm b a)
    ∙ by_order (slice_cmp nat_cmp a b) not_before (is_eq-slice_cmp a b ∙ same_name-bytes_eq a b ∙ differ)

-- the first of names stands after a name
abbrev pub starts_after : List ℕ → List (List ℕ) → Bool
starts_after a [] = true
starts_after a (b ∷ names) = is_name_before a b

pub rise_from : (a : List ℕ) (names : List (List ℕ)) → starts_after a names ≡ true → names_rise names ≡ true
    → names_rise (a ∷ names) ≡ true
rise_from a [] after rise = refl
rise_from a (b ∷ names) after rise = ap (λ t. t && names_rise (b ∷ names)) after ∙ rise

pub rise_parts : (a : List ℕ) (names : List (List ℕ)) → names_rise (a ∷ names) ≡ true
    → (starts_after a names ≡ true) × (names_rise names ≡ true)
rise_parts a [] rise = (refl, refl)
rise_parts a (b ∷ names) rise = let parts = and_parts _ _ rise in (parts.0, parts.1)
