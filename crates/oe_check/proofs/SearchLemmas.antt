-- A binary search among names that rise.
use Rattle.std.proofs.Common.{◌≡◌, ℕ, zero, suc, ◌<◌, true, false, List, [], ◌∷◌, length, get_or, refl, sym, ap, ◌∙◌, arith, inl, inr, Ordering, Ok, Err, Some, None}
use Rattle.std.specs.declared.cmp.Ordering.TheVariants.{Less, Greater}
use Rattle.std.specs.List.Sorted.{IsSearchInRange, IsBinarySearchResult}
use Rattle.std.specs.Cmp.Lexicographic.{slice_cmp}
use Rattle.std.specs.FinMap.{slice_cmp-IsAntisymmetric, nat_cmp-IsAntisymmetric}
use Rattle.std.specs.Ordering.{nat_cmp, is_lt, is_eq}
use Rattle.std.proofs.lemmas.Bool.{cases_Bool, cases_lt, and_parts, false≢true}
use Rattle.std.proofs.lemmas.Cmp.{nat_list_cmp_total, tied_itself}
use Rattle.std.proofs.lemmas.List.Sorted.{searchable_from_sorted}
use Rattle.oe_dims.specs.Indices.{index_where}
use Rattle.oe_dims.specs.Names.{same_name, is_name_before, names_rise}
use Rattle.oe_dims.proofs.IndexLemmas.{index_where_found, index_where_none}
use Rattle.oe_dims.proofs.OrderLemmas.{same_name_is, same_name_refl}
use Rattle.oe_dims.proofs.NameOrderLemmas.{is_less, names_sorted}

-- each name stands before each later one
before_later : (names : List (List ℕ)) → names_rise names ≡ true → (k i : ℕ) → k < i → i < length names
    → is_name_before (get_or names k []) (get_or names i []) ≡ true
before_later [] h k i l m = absurd (omega arith)
before_later (a ∷ []) h k i l m = absurd (omega arith)
before_later (a ∷ b ∷ names) h k zero l m = absurd (omega arith)
before_later (a ∷ b ∷ names) h zero (suc zero) l m = (and_parts _ _ h).0
before_later (a ∷ b ∷ names) h zero (suc (suc i)) l m =
    let c = get_or names i [] in
    let first : slice_cmp nat_cmp a b ≡ Less = is_less _ (and_parts _ _ h).0 in
    let later : is_name_before b c ≡ true = before_later (b ∷ names) (and_parts _ _ h).1 zero (suc i) (omega arith) (omega arith) in
    ap is_lt (nat_list_cmp_total.trans a b c first (is_less _ later))
before_later (a ∷ b ∷ names) h (suc k) (suc i) l m =
    before_later (b ∷ names) (and_parts _ _ h).1 k i (omega arith) (omega arith)

differs : (a name : List ℕ) (o : Ordering) → slice_cmp nat_cmp a name ≡ o → is_eq o ≡ false → same_name a name ≡ false
differs a name o e h =
    elim (cases_Bool (same_name a name)) [
      | inl t ↦ absurd (false≢true (sym h ∙ ap is_eq (sym e ∙ (ap (slice_cmp nat_cmp a) (same_name_is a name t) ∙ tied_itself nat_list_cmp_total a))))
      | inr f ↦ f
    ]

module _ (names : List (List ℕ)) (name : List ℕ) (rise : names_rise names ≡ true) where
  pub search_found : (i : ℕ) → i < length names → IsBinarySearchResult (λ a. slice_cmp nat_cmp a name) names (Ok i)
      → index_where (λ (a : List ℕ). same_name a name) names ≡ Some i
  search_found i within found =
      let is : get_or names i [] ≡ name = slice_cmp-IsAntisymmetric nat_cmp-IsAntisymmetric _ _ (found []) in
      index_where_found (λ (a : List ℕ). same_name a name) names i [] within
      (λ k l. let before = is_less _ (before_later names rise k i l within) in
      differs (get_or names k []) name Less (ap (slice_cmp nat_cmp (get_or names k [])) (sym is) ∙ before) refl)
      (ap (λ a. same_name a name) is ∙ same_name_refl name)

  pub search_none : (i : ℕ) → IsSearchInRange (Err i) (length names) → IsBinarySearchResult (λ a. slice_cmp nat_cmp a name) names (Err i)
      → index_where (λ (a : List ℕ). same_name a name) names ≡ None
  search_none i within parted =
      let halves = parted (searchable_from_sorted nat_list_cmp_total (λ a. a) names name (names_sorted names rise)) in
      index_where_none (λ (a : List ℕ). same_name a name) names []
      (λ k l. elim (cases_lt k i) [
        | inl t ↦ differs (get_or names k []) name Less (halves.0 k [] (omega arith) t) refl
        | inr f ↦ differs (get_or names k []) name Greater (halves.1 k [] (omega arith) l) refl
      ])
