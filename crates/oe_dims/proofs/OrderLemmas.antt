-- Tests of labels, one step at a time.
use Rattle.std.proofs.Common.{◌≡◌, ℕ, ◌+◌, ◌<◌, ◌≤◌, true, ◌&&◌, not, List, [], ◌∷◌, length, get_or, drop, refl, arith, ℤ, rules, sym, Decides}
use Rattle.std.specs.Int.Signed.{lt_z}
use Rattle.std.specs.List.{list_any}
use Rattle.std.specs.Str.{bytes_eq}
use Rattle.std.proofs.lemmas.List.{drop_more, drop_all, length-drop}
use Rattle.std.proofs.lemmas.Bool.Decides.{same_from_decides}
use Rattle.std.proofs.lemmas.Slice.Eq.{bytes_eq-Decides, compares_Decides}
use Rattle.oe_dims.specs.Dimensions.{rises, falls, all_differ}
use Rattle.oe_dims.specs.Names.{same_name}

pub rises_more : (labels : List ℤ) (i : ℕ) (d : ℤ) → i + 1 < length labels → rises (drop i labels) ≡ (lt_z (get_or labels i d) (get_or labels (i + 1) d) && rises (drop (i + 1) labels))
rises_more labels i d h =
    let first : drop i labels ≡ get_or labels i d ∷ drop (i + 1) labels = drop_more labels i d (omega arith) in
    let second : drop (i + 1) labels ≡ get_or labels (i + 1) d ∷ drop (i + 1 + 1) labels = drop_more labels (i + 1) d (omega arith) in
    rw (first, second)

pub falls_more : (labels : List ℤ) (i : ℕ) (d : ℤ) → i + 1 < length labels → falls (drop i labels) ≡ (lt_z (get_or labels (i + 1) d) (get_or labels i d) && falls (drop (i + 1) labels))
falls_more labels i d h =
    let first : drop i labels ≡ get_or labels i d ∷ drop (i + 1) labels = drop_more labels i d (omega arith) in
    let second : drop (i + 1) labels ≡ get_or labels (i + 1) d ∷ drop (i + 1 + 1) labels = drop_more labels (i + 1) d (omega arith) in
    rw (first, second)

rises_short : (labels : List ℤ) → length labels ≤ 1 → rises labels ≡ true
rises_short [] h = refl
rises_short (a ∷ []) h = refl
rises_short (a ∷ b ∷ labels) h = absurd (omega arith)

falls_short : (labels : List ℤ) → length labels ≤ 1 → falls labels ≡ true
falls_short [] h = refl
falls_short (a ∷ []) h = refl
falls_short (a ∷ b ∷ labels) h = absurd (omega arith)

pub rises_all : (labels : List ℤ) (i : ℕ) → length labels ≤ i + 1 → rises (drop i labels) ≡ true
rises_all labels i h = rises_short (drop i labels) (simp length-drop (omega arith))

pub falls_all : (labels : List ℤ) (i : ℕ) → length labels ≤ i + 1 → falls (drop i labels) ≡ true
falls_all labels i h = falls_short (drop i labels) (simp length-drop (omega arith))

pub same_name-bytes_eq : (a b : List ℕ) → bytes_eq a b ≡ same_name a b
same_name-bytes_eq a b = same_from_decides (bytes_eq a b) (same_name a b) (bytes_eq-Decides a b) (compares_Decides same_name (search rules) a b)

pub all_differ_more : (names : List (List ℕ)) (i : ℕ) (d : List ℕ) → i < length names → all_differ (drop i names) ≡ (not (list_any (same_name (get_or names i d)) (drop (i + 1) names)) && all_differ (drop (i + 1) names))
all_differ_more names i d h = rw (drop_more names i d h)

pub all_differ_all : (names : List (List ℕ)) (i : ℕ) → length names ≤ i → all_differ (drop i names) ≡ true
all_differ_all names i h = rw (drop_all i names h)

-- `same_name` says that two names are the same list of bytes
same_name_decides : (a b : List ℕ) → Decides (same_name a b) (a ≡ b)
same_name_decides a b = compares_Decides same_name (search rules) a b

pub same_name_is : (a b : List ℕ) → same_name a b ≡ true → b ≡ a
same_name_is a b h = sym ((same_name_decides a b).0 h)

pub same_name_refl : (a : List ℕ) → same_name a a ≡ true
same_name_refl a = (same_name_decides a a).1 refl
