-- Names that differ are told by a set of those before them.
use Rattle.std.proofs.Common.{◌≡◌, ℕ, Bool, true, false, not, ◌&&◌, ◌||◌, List, [], ◌∷◌, Ordering, Less, Equal, Greater, nat_cmp, is_eq, refl, sym, ap, ◌∙◌, subst, true≢false}
use Rattle.std.specs.Cmp.Lexicographic.{slice_cmp}
use Rattle.std.specs.Ordering.{match_ordering}
use Rattle.std.specs.List.{list_any}
use Rattle.std.specs.BTreeMap.{is_at}
use Rattle.std.specs.BTreeSet.{insert_key}
use Rattle.std.proofs.lemmas.Map.Text.{is_eq-slice_cmp}
use Rattle.oe_dims.specs.Names.{same_name}
use Rattle.oe_dims.proofs.OrderLemmas.{same_name-bytes_eq, same_name_is}
use Rattle.oe_graph.specs.Parameters.{are_distinct}

or_swap : (a b c : Bool) → (a || (b || c)) ≡ (b || (a || c))
or_swap true true c = refl
or_swap true false c = refl
or_swap false true c = refl
or_swap false false c = refl

or_same : (a b : Bool) → (a || b) ≡ (a || (a || b))
or_same true b = refl
or_same false b = refl

split : (a b c d : Bool) → (not (a || b) && (c && not d)) ≡ ((not b && c) && not (a || d))
split true true c d = refl
split true false true d = refl
split true false false d = refl
split false true c d = refl
split false false true d = refl
split false false false d = refl

assoc : (a b c : Bool) → (a && (b && c)) ≡ ((a && b) && c)
assoc true b c = refl
assoc false b c = refl

turned : (a b : List ℕ) (x y : Bool) → same_name a b ≡ x → same_name b a ≡ y → x ≡ y
turned a b true true p q = refl
turned a b false false p q = refl
turned a b true false p q =
    let is : b ≡ a = same_name_is a b p in
    sym (subst (λ n. same_name n a ≡ true) (sym is) (subst (λ n. same_name a n ≡ true) is p)) ∙ q
turned a b false true p q =
    let is : a ≡ b = same_name_is b a q in
    sym p ∙ subst (λ n. same_name n b ≡ true) (sym is) (subst (λ n. same_name b n ≡ true) is q)

pub same_name-sym : (a b : List ℕ) → same_name a b ≡ same_name b a
same_name-sym a b = turned a b (same_name a b) (same_name b a) refl refl

at_name : (a b : List ℕ) → is_eq (slice_cmp nat_cmp a b) ≡ same_name a b
at_name a b = is_eq-slice_cmp a b ∙ same_name-bytes_eq a b

module _ {K : Type 0} where
  -- one of the keys has this name
  abbrev pub has : (K → List ℕ) → List K → List ℕ → Bool
  has bytes [] q = false
  has bytes (k ∷ ks) q = same_name q (bytes k) || has bytes ks q

  -- no key has one of the names
  abbrev pub has_none : (K → List ℕ) → List K → List (List ℕ) → Bool
  has_none bytes ks [] = true
  has_none bytes ks (n ∷ ns) = not (has bytes ks n) && has_none bytes ks ns

  pub has_none_empty : (bytes : K → List ℕ) (ns : List (List ℕ)) → has_none bytes [] ns ≡ true
  has_none_empty bytes [] = refl
  has_none_empty bytes (n ∷ ns) = has_none_empty bytes ns

  pub any_has : (bytes : K → List ℕ) (q : List ℕ) (ks : List K)
      → list_any (is_at (λ k. slice_cmp nat_cmp q (bytes k))) ks ≡ has bytes ks q
  any_has bytes q [] = refl
  any_has bytes q (k ∷ ks) = rw (at_name q (bytes k), any_has bytes q ks) refl

  inserted : (bytes : K → List ℕ) (q : List ℕ) (k x : K) (ks rest : List K) (o : Ordering)
      → slice_cmp nat_cmp (bytes k) (bytes x) ≡ o
      → has bytes rest q ≡ (same_name q (bytes k) || has bytes ks q)
      → has bytes (match_ordering o (k ∷ x ∷ ks) (x ∷ ks) (x ∷ rest)) q
      ≡ (same_name q (bytes k) || (same_name q (bytes x) || has bytes ks q))
  inserted bytes q k x ks rest Less is more = refl
  inserted bytes q k x ks rest Equal is more =
      let same : bytes x ≡ bytes k = same_name_is (bytes k) (bytes x) (sym (at_name (bytes k) (bytes x)) ∙ ap is_eq is) in
      subst (λ n. (same_name q (bytes x) || has bytes ks q) ≡ (same_name q n || (same_name q (bytes x) || has bytes ks q)))
      same (or_same (same_name q (bytes x)) (has bytes ks q))
  inserted bytes q k x ks rest Greater is more =
      ap (λ b. same_name q (bytes x) || b) more ∙ or_swap (same_name q (bytes x)) (same_name q (bytes k)) (has bytes ks q)

  pub insert_has : (bytes : K → List ℕ) (q : List ℕ) (k : K) (ks : List K)
      → has bytes (insert_key (λ a b. slice_cmp nat_cmp (bytes a) (bytes b)) ks k) q ≡ (same_name q (bytes k) || has bytes ks q)
  insert_has bytes q k [] = refl
  insert_has bytes q k (x ∷ ks) =
      inserted bytes q k x ks (insert_key (λ a b. slice_cmp nat_cmp (bytes a) (bytes b)) ks k)
      (slice_cmp nat_cmp (bytes k) (bytes x)) refl (insert_has bytes q k ks)

  one_more : (bytes : K → List ℕ) (ks more : List K) (n : List ℕ)
      → ((q : List ℕ) → has bytes more q ≡ (same_name q n || has bytes ks q))
      → (ns : List (List ℕ)) → has_none bytes more ns ≡ (has_none bytes ks ns && not (list_any (same_name n) ns))
  one_more bytes ks more n is [] = refl
  one_more bytes ks more n is (m ∷ ns) =
      rw (is m, one_more bytes ks more n is ns, same_name-sym m n)
      (split (same_name n m) (has bytes ks m) (has_none bytes ks ns) (list_any (same_name n) ns))

  -- where the first name is in no key, it joins them
  pub next_name : (bytes : K → List ℕ) (ks more : List K) (n : List ℕ) (ns : List (List ℕ))
      → has bytes ks n ≡ false → ((q : List ℕ) → has bytes more q ≡ (same_name q n || has bytes ks q))
      → (has_none bytes ks (n ∷ ns) && are_distinct (n ∷ ns)) ≡ (has_none bytes more ns && are_distinct ns)
  next_name bytes ks more n ns fresh is =
      rw (fresh, one_more bytes ks more n is ns)
      (assoc (has_none bytes ks ns) (not (list_any (same_name n) ns)) (are_distinct ns))

  pub no_next : (bytes : K → List ℕ) (ks : List K) (n : List ℕ) (ns : List (List ℕ))
      → has bytes ks n ≡ true → (has_none bytes ks (n ∷ ns) && are_distinct (n ∷ ns)) ≡ false
  no_next bytes ks n ns is = rw is refl
