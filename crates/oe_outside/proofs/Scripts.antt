-- The set of the numbers of the calls that fail, as the code keeps it.
use Rattle.std.proofs.Common.{◌≡◌, ℕ, ◌<◌, ◌≤◌, false, List, length, get_or, Result, Ok, Err, nat_eq, eq-eqb, sym, ◌∙◌, arith}
use Rattle.std.specs.Ordering.{nat_cmp}
use Rattle.std.specs.Cmp.{nat_cmp_total}
use Rattle.std.specs.FinSet as set
use Rattle.std.specs.List.{list_any}
use Rattle.std.specs.List.Sorted.{IsPermutation, IsSorted, IsBinarySearchResult}
use Rattle.std.specs.Result.{is_ok, MatchResult}
use Rattle.std.proofs.lemmas.Bool.{ne_eqb}
use Rattle.std.proofs.lemmas.List.Elements.{All-from_get_or}
use Rattle.std.proofs.lemmas.List.Sorted.{list_any-IsPermutation, searched, IsNonDecreasingBy-from_sort}
use Rattle.std.proofs.lemmas.List.Folds.{list_any_at, list_any_none}

-- an order of the numbers changes no set
pub from_list-permutation : (xs ys : List ℕ) → IsPermutation xs ys → set.from_list {R = nat_cmp} ys ≡ set.from_list xs
from_list-permutation xs ys same =
    set.same_set nat_cmp_total set.nat_cmp-IsAntisymmetric _ _ (λ q. set.contains-from_list_nat ys q ∙ sym (list_any-IsPermutation (λ y. nat_eq y q) xs ys same) ∙ sym (set.contains-from_list_nat xs q))

-- a number that is smaller before an index and greater from there on is nowhere
nowhere : (i k y x : ℕ) → (k < i → y < x) → (i ≤ k → x < y) → y ≡ x → ⊥
nowhere i k y x below above same = grind arith

-- what a search found in numbers in order: one that is among them, or none
is_ok-searched : (xs : List ℕ) (x : ℕ) (r : Result ℕ ℕ) → MatchResult r (λ i. (i < length xs) × (get_or xs i 0 ≡ x)) (λ i. (i ≤ length xs) × ((k : ℕ) → k < i → get_or xs k 0 < x) × ((k : ℕ) → i ≤ k → k < length xs → x < get_or xs k 0)) → is_ok r ≡ list_any (λ y. nat_eq y x) xs
is_ok-searched xs x (Ok i) h = sym (list_any_at (λ y. nat_eq y x) xs i 0 h.0 (eq-eqb _ _ h.1))
is_ok-searched xs x (Err i) h =
    sym (list_any_none (λ y. nat_eq y x) xs (All-from_get_or (λ y. nat_eq y x ≡ false) xs 0 (λ k lt. ne_eqb (get_or xs k 0) x (nowhere i k (get_or xs k 0) x (h.1 k) (λ from. h.2 k from lt)))))

-- a binary search in numbers in order finds those of the set
pub is_ok-binary_search : (xs : List ℕ) (x : ℕ) (r : Result ℕ ℕ) → IsBinarySearchResult (λ y. nat_cmp y x) xs r → IsSorted nat_cmp xs → is_ok r ≡ set.contains (set.from_list {R = nat_cmp} xs) x
is_ok-binary_search xs x r found sorted =
    is_ok-searched xs x r (searched xs x r found (λ i j le lt. IsNonDecreasingBy-from_sort (λ y. y) xs sorted i j 0 le lt)) ∙ sym (set.contains-from_list_nat xs x)
