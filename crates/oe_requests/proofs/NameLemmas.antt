-- Names of members and of bands.
use Rattle.std.proofs.Common.{◌≡◌, ℕ, ◌+◌, ◌<◌, ◌≤◌, not, ◌&&◌, Bool, true, false, List, [], ◌∷◌, map, length, drop, Bor, codes, refl, sym, ap, ◌∙◌, arith}
use Rattle.std.specs.Cmp.{IsStrictWeakOrder}
use Rattle.std.specs.List.{list_any, list_all}
use Rattle.std.specs.Option.{option_map_or}
use Rattle.std.specs.List.Sorted.{IsPermutation, IsSortedBy}
use Rattle.std.proofs.lemmas.Cmp.{nat_list_cmp_total}
use Rattle.std.proofs.lemmas.List.{length-map, length-drop, get_or-map}
use Rattle.std.proofs.lemmas.List.MinMax.{ranks_by}
use Rattle.std.proofs.lemmas.List.Sorted.{IsPermutation-map}
use Rattle.oe_dims.proofs.DistinctLemmas.{all_differ-permutation, names_rise-sorted, rise_short}
use Rattle.oe_dims.specs.Dimensions.{all_differ}
use Rattle.oe_dims.specs.Names.{same_name, is_name_before, names_rise}
use Rattle.oe_dims.specs.declared.text.Text.{Text}
use Rattle.oe_graph.specs.Plain.{plain_named}
use Rattle.oe_graph.specs.Printed.{names_of}
use Rattle.oe_graph.specs.References.{argument_named}
use Rattle.oe_graph.specs.declared.tree.Arg.{Arg}
use Rattle.oe_expr.specs.Requests.{is_null}
use Rattle.oe_requests.specs.Parameters.{box_members, is_flat_box}

abbrev Pair : Type 0
Pair = List ℕ × Arg

-- names by what has them
module _ {M : Type 0} (name_of : M → List ℕ) where
  any_named : (name : List ℕ) (xs : List M) → list_any (same_name name) (map name_of xs) ≡ list_any (λ m. same_name name (name_of m)) xs
  any_named name [] = refl
  any_named name (x ∷ xs) = rw (any_named name xs) refl

  first_of : (first : M) (others : List M) → all_differ (map name_of (first ∷ others))
      ≡ (not (list_any (λ m. same_name (name_of first) (name_of m)) others) && all_differ (map name_of others))
  first_of first others = ap (λ b. not b && all_differ (map name_of others)) (any_named (name_of first) others)

  pub differ_stop : (first : M) (others : List M) → list_any (λ m. same_name (name_of first) (name_of m)) others ≡ true
      → all_differ (map name_of (first ∷ others)) ≡ false
  differ_stop first others again = first_of first others ∙ ap (λ b. not b && all_differ (map name_of others)) again

  pub differ_next : (first : M) (others : List M) → list_any (λ m. same_name (name_of first) (name_of m)) others ≡ false
      → all_differ (map name_of (first ∷ others)) ≡ all_differ (map name_of others)
  differ_next first others once = first_of first others ∙ ap (λ b. not b && all_differ (map name_of others)) once

pub rise_end : (xs : List (Bor Text)) (k : ℕ) → length xs ≤ k + 1 → names_rise (map (λ n. n.now) (drop k xs)) ≡ true
rise_end xs k h =
    let long = length-map (drop k xs) (λ n. n.now) in
    let left = length-drop k xs in
    rise_short (map (λ n. n.now) (drop k xs)) (omega arith)

-- the names of members are those of their plain values
pub all_named : (test : List ℕ → Bool) (xs : List Pair) → list_all (λ m. test m.0) xs ≡ list_all test (names_of (plain_named xs))
all_named test [] = refl
all_named test (x ∷ xs) = ap (λ b. test x.0 && b) (all_named test xs)

pub names_plain : (xs : List Pair) → map (λ m. m.0) xs ≡ names_of (plain_named xs)
names_plain [] = refl
names_plain (x ∷ xs) = ap (λ (rest : List (List ℕ)). x.0 ∷ rest) (names_plain xs)

-- ---- the members of a flat box

abbrev pub has_box_names : List Pair → Bool
has_box_names members = list_all (λ m. list_any (same_name m.0) box_members) members && all_differ (map (λ m. m.0) members)

abbrev pub has_no_height : List Pair → Bool
has_no_height members =
    option_map_or is_null (argument_named (codes "base") (plain_named members)) true
    && option_map_or is_null (argument_named (codes "height") (plain_named members)) true

grouped : (a b c : Bool) → (a && (b && c)) ≡ (a && b && c)
grouped true b c = refl
grouped false b c = refl

pub flat_box : (members : List Pair) (named flat : Bool) → named ≡ has_box_names members → flat ≡ has_no_height members
    → (named && flat) ≡ is_flat_box (plain_named members)
flat_box members named flat named_is flat_is =
    let one = all_named (λ name. list_any (same_name name) box_members) members in
    let two = ap all_differ (names_plain members) in
    ap (λ b. b && flat) named_is
    ∙ (ap (λ b. has_box_names members && b) flat_is
    ∙ (grouped (has_box_names members) (option_map_or is_null (argument_named (codes "base") (plain_named members)) true)
    (option_map_or is_null (argument_named (codes "height") (plain_named members)) true)
    ∙ rw (one, two) refl))

pub no_flat_box : (members : List Pair) (named : Bool) → named ≡ has_box_names members → named ≡ false
    → named ≡ is_flat_box (plain_named members)
no_flat_box members named named_is fails =
    fails ∙ (sym (ap (λ b. b && has_no_height members) fails) ∙ flat_box members named (has_no_height members) named_is refl)

-- ---- names in the order of their bytes

abbrev pub refers_before : Bor Text → Bor Text → Bool
refers_before a b = is_name_before a.now b.now

pub references_rank : IsStrictWeakOrder refers_before
references_rank = ranks_by nat_list_cmp_total (λ (n : Bor Text). n.now)

names_sorted : (xs : List (Bor Text)) → IsSortedBy refers_before xs → IsSortedBy is_name_before (map (λ n. n.now) xs)
names_sorted [] sorted k d low high = absurd (omega (arith, high))
names_sorted (x ∷ xs) sorted k d low high =
    let mapped = length-map (x ∷ xs) (λ (n : Bor Text). n.now) in
    let next : k + 1 < length (x ∷ xs) = omega arith in
    let one = get_or-map (λ (n : Bor Text). n.now) (x ∷ xs) k x d (omega arith) in
    let two = get_or-map (λ (n : Bor Text). n.now) (x ∷ xs) (k + 1) x d next in
    rw (one, two) (sorted k x (omega arith) next)

-- names differ where they rise once they are sorted
pub rise_where_differ : (xs ys : List (Bor Text)) → IsPermutation xs ys → IsSortedBy refers_before ys
    → names_rise (map (λ n. n.now) ys) ≡ all_differ (map (λ n. n.now) xs)
rise_where_differ xs ys moved order =
    names_rise-sorted (map (λ n. n.now) ys) (names_sorted ys order)
    ∙ sym (all_differ-permutation (map (λ n. n.now) xs) (map (λ n. n.now) ys) (IsPermutation-map (λ (n : Bor Text). n.now) xs ys moved))
