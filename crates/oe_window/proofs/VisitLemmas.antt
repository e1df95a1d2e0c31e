-- A loop over the runs of a window, which comes to the window's numbers in their order.
use Rattle.std.proofs.Common.{◌≡◌, ℕ, zero, suc, ◌+◌, ◌<◌, List, [], ◌∷◌, ◌++◌, length, drop, refl, sym, ap, ◌∙◌, subst, arith, Some, inl, inr}
use Rattle.std.specs.List.{slice_get, range_with_len, sum_by}
use Rattle.std.proofs.lemmas.Bool.{cases_lt}
use Rattle.std.proofs.lemmas.List.{drop-drop}
use Rattle.std.proofs.lemmas.List.FromFn.{length-range_with_len}
use Rattle.std.proofs.lemmas.List.Sums.{sum_by-cons}
use Rattle.std.proofs.lemmas.Option.{same_Some}
use Rattle.oe_dims.proofs.FlatMapLemmas.{slice_get-append_left}
use Rattle.oe_window.specs.Runs.{laid, AreRising}
use Rattle.oe_window.proofs.RangeLemmas.{slice_get-range}

-- the runs that are left have the numbers that are left, of which so many are done
pub record Visiting (numbers : List ℕ) (left : List (ℕ × ℕ)) (done : ℕ) : Type 0 where
  pub numbers_left : laid left ≡ drop done numbers
  pub lengths : done + sum_by (λ run. run.1) left ≡ length numbers

pub visiting_begins : (numbers : List ℕ) (runs begun : List (ℕ × ℕ)) → laid runs ≡ numbers → sum_by (λ run. run.1) runs ≡ length numbers → begun ≡ runs → Visiting numbers begun 0
visiting_begins numbers runs begun same lengths e =
    subst (λ rs. Visiting numbers rs 0) (sym e) (record { numbers_left = same; lengths = omega arith })

drop-append : {X : Type 0} (xs ys : List X) → drop (length xs) (xs ++ ys) ≡ ys
drop-append [] ys = refl
drop-append (x ∷ xs) ys = drop-append xs ys

pub visiting_goes : (numbers : List ℕ) (left next : List (ℕ × ℕ)) (first count done : ℕ) → Visiting numbers left done → left ≡ (first, count) ∷ next → Visiting numbers next (done + count)
visiting_goes numbers left next first count done v e =
    let here : Visiting numbers ((first, count) ∷ next) done = subst (λ rs. Visiting numbers rs done) e v in
    let lengths = here.lengths in
    let more = sum_by-cons (λ run. run.1) (first, count) next in
    let long = length-range_with_len first count in
    let all = range_with_len first count ++ laid next in
    let rest : drop count all ≡ laid next = ap (λ n. drop n all) (sym long) ∙ drop-append (range_with_len first count) (laid next) in
    record {
      numbers_left = sym rest ∙ ap (drop count) here.numbers_left ∙ drop-drop count done numbers;
      lengths = omega arith;
    }

slice_get-drop : {X : Type 0} (xs : List X) (n i : ℕ) → slice_get (drop n xs) i ≡ slice_get xs (n + i)
slice_get-drop xs zero i = let same : 0 + i ≡ i = omega arith in rw same refl
slice_get-drop [] (suc n) i = refl
slice_get-drop (x ∷ xs) (suc n) i = let next : suc n + i ≡ suc (n + i) = omega arith in rw next (slice_get-drop xs n i)

-- each number of the next run is that of the position whose turn it is
pub visited_number : (numbers : List ℕ) (left next : List (ℕ × ℕ)) (first count done i : ℕ) → Visiting numbers left done → left ≡ (first, count) ∷ next → i < count → slice_get numbers (done + i) ≡ Some (first + i)
visited_number numbers left next first count done i v e lt =
    let here : Visiting numbers ((first, count) ∷ next) done = subst (λ rs. Visiting numbers rs done) e v in
    let long : i < length (range_with_len first count) = omega (arith, length-range_with_len first count) in
    sym (slice_get-drop numbers done i) ∙ sym (ap (λ ks. slice_get ks i) here.numbers_left)
    ∙ slice_get-append_left (range_with_len first count) (laid next) i long ∙ slice_get-range first count i lt

pub visiting_ends : (numbers : List ℕ) (left : List (ℕ × ℕ)) (done : ℕ) → Visiting numbers left done → left ≡ [] → done ≡ length numbers
visiting_ends numbers left done v none =
    let here : Visiting numbers [] done = subst (λ rs. Visiting numbers rs done) none v in
    let lengths = here.lengths in
    omega arith

-- ---- numbers that rise stand once

rising_tail : (k : ℕ) (ks : List ℕ) → AreRising (k ∷ ks) → AreRising ks
rising_tail k [] h = tt
rising_tail k (n ∷ ks) h = h.1

rising_after : (k : ℕ) (ks : List ℕ) (j b : ℕ) → AreRising (k ∷ ks) → slice_get ks j ≡ Some b → k < b
rising_after k [] j b h e = cc
rising_after k (n ∷ ks) zero b h e = let same : n ≡ b = same_Some n b e in omega (arith, h.0)
rising_after k (n ∷ ks) (suc j) b h e = let later = rising_after n ks j b h.1 e in omega (arith, h.0)

-- of two numbers the later one is the greater
pub rising_below : (ks : List ℕ) (i j a b : ℕ) → AreRising ks → i < j → slice_get ks i ≡ Some a → slice_get ks j ≡ Some b → a < b
rising_below [] i j a b h lt e f = cc
rising_below (k ∷ ks) i zero a b h lt e f = absurd (omega arith)
rising_below (k ∷ ks) zero (suc j) a b h lt e f = let same : k ≡ a = same_Some k a e in let later = rising_after k ks j b h f in omega arith
rising_below (k ∷ ks) (suc i) (suc j) a b h lt e f = rising_below ks i j a b (rising_tail k ks h) (omega arith) e f

pub rising_once : (ks : List ℕ) (i j k : ℕ) → AreRising ks → slice_get ks i ≡ Some k → slice_get ks j ≡ Some k → i ≡ j
rising_once ks i j k h e f =
    elim (cases_lt i j) [
      | inl lt ↦ let below = rising_below ks i j k k h lt e f in absurd (omega arith)
      | inr ge ↦ elim (cases_lt j i) [
        | inl lt ↦ let below = rising_below ks j i k k h lt f e in absurd (omega arith)
        | inr le ↦ omega arith
      ]
    ]
