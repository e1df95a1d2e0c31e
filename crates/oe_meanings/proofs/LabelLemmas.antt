-- No label is lost where labels are put in order, or those of two cubes together.
use Rattle.std.proofs.Common.{◌≡◌, Bool, true, false, ◌||◌, List, [], ◌∷◌, ◌++◌, refl, sym, ap, ◌∙◌, subst, ℤ, true≢false}
use Rattle.std.specs.List.{list_any}
use Rattle.std.proofs.lemmas.List.Folds.{list_any-append}
use Rattle.oe_dims.proofs.IndexLemmas.{same_number_is}
use Rattle.oe_dims.proofs.OrderLemmas.{same_name_is}
use Rattle.oe_dims.specs.Indices.{same_number}
use Rattle.oe_dims.specs.Names.{same_name}
use Rattle.oe_requests.specs.Labels.{insert_label, sorted_labels, new_among}
use Rattle.oe_meanings.specs.Laws.{KeepAllLabels}

-- ---- in order

swapped : (a b c : Bool) → (a || (b || c)) ≡ (b || (a || c))
swapped true true c = refl
swapped true false c = refl
swapped false b c = refl

put_any : (is_before : ℤ → ℤ → Bool) (p : ℤ → Bool) (x : ℤ) (ys : List ℤ) → list_any p (insert_label is_before x ys) ≡ (p x || list_any p ys)
put_any is_before p x [] = refl
put_any is_before p x (y ∷ ys) = by (is_before x y) refl (put_any is_before p x ys)
  where
    by : (b : Bool) → is_before x y ≡ b → list_any p (insert_label is_before x ys) ≡ (p x || list_any p ys)
        → list_any p (insert_label is_before x (y ∷ ys)) ≡ (p x || (p y || list_any p ys))
    by true is rest = rw is refl
    by false is rest = rw is (ap (λ b. p y || b) rest ∙ swapped (p y) (p x) (list_any p ys))

order_any : (is_before : ℤ → ℤ → Bool) (p : ℤ → Bool) (ys : List ℤ) → list_any p (sorted_labels is_before ys) ≡ list_any p ys
order_any is_before p [] = refl
order_any is_before p (y ∷ ys) = put_any is_before p y (sorted_labels is_before ys) ∙ ap (λ b. p y || b) (order_any is_before p ys)

-- ---- of both

module _ {L : Type 0} (same : L → L → Bool) (is_same : (a b : L) → same a b ≡ true → b ≡ a) where
  -- a label that is not among the first is new where it is among the second
  new_any : (one two : List L) (n : L) → list_any (same n) one ≡ false → list_any (same n) (new_among same one two) ≡ list_any (same n) two
  new_any one [] n h = refl
  new_any one (l ∷ two) n h = by (list_any (same l) one) refl (new_any one two n h)
    where
      other : list_any (same l) one ≡ true → (b : Bool) → same n l ≡ b → same n l ≡ false
      other there true is = absurd (true≢false (sym there ∙ subst (λ k. list_any (same k) one ≡ false) (sym (is_same n l is)) h))
      other there false is = is

      by : (b : Bool) → list_any (same l) one ≡ b → list_any (same n) (new_among same one two) ≡ list_any (same n) two
          → list_any (same n) (new_among same one (l ∷ two)) ≡ (same n l || list_any (same n) two)
      by true is rest = let apart : same n l ≡ false = other is (same n l) refl in rw (is, apart) rest
      by false is rest = rw is (ap (λ b. same n l || b) rest)

  both_any : (one two : List L) (n : L) → list_any (same n) (one ++ new_among same one two) ≡ (list_any (same n) one || list_any (same n) two)
  both_any one two n = list_any-append (same n) one (new_among same one two) ∙ by (list_any (same n) one) refl
    where
      by : (b : Bool) → list_any (same n) one ≡ b → (list_any (same n) one || list_any (same n) (new_among same one two)) ≡ (list_any (same n) one || list_any (same n) two)
      by true is = rw is refl
      by false is = rw is (new_any one two n is)

pub keep_all_labels : KeepAllLabels
keep_all_labels = record {
  sorted_labels = λ is_before labels label. order_any is_before (same_number label) labels;
  of_both = λ is_before one two label.
      order_any is_before (same_number label) (one ++ new_among same_number one two) ∙ both_any same_number same_number_is one two label;
  bands_of_both = λ one two name. both_any same_name same_name_is one two name;
}
