-- A loop that asks of each item whether it holds, and stops at the first that does not.
use Rattle.std.proofs.Common.{◌≡◌, ◌↔◌, ℕ, ◌+◌, ◌<◌, ◌≤◌, true, false, true≢false, List, ◌∷◌, length, drop, get_or, map, refl, sym, ap, ◌∙◌, subst}
use Rattle.std.specs.Prelude.{IsTrue}
use Rattle.std.specs.List.{AllByRecursion}
use Rattle.std.proofs.lemmas.List.{drop_more}
use Rattle.std.proofs.Math.ListN.{drop_of_length-le}

module _ {X Y : Type 0} (P : Y → Type 0) (f : X → Y) (W : Type 0) where
  -- what is asked holds just where it holds of the items that are left
  abbrev pub Left : List X → ℕ → Type 0
  Left xs k = W ↔ AllByRecursion P (map f (drop k xs))

  cut : (xs : List X) (k : ℕ) (x : X) → k < length xs → x ≡ get_or xs k x
      → map f (drop k xs) ≡ f x ∷ map f (drop (k + 1) xs)
  cut xs k x below is = ap (map f) (drop_more xs k x below) ∙ ap (λ (y : X). f y ∷ map f (drop (k + 1) xs)) (sym is)

  pub left_next : (xs : List X) (k : ℕ) (x : X) → Left xs k → k < length xs → x ≡ get_or xs k x → P (f x) → Left xs (k + 1)
  left_next xs k x left below is holds = (
    λ w. (subst (AllByRecursion P) (cut xs k x below is) (left.0 w)).1,
    λ rest. left.1 (subst (AllByRecursion P) (sym (cut xs k x below is)) (holds, rest)),
  )

  pub left_stops : (xs : List X) (k : ℕ) (x : X) → Left xs k → k < length xs → x ≡ get_or xs k x → ¬ P (f x) → IsTrue false ↔ W
  left_stops xs k x left below is fails = (
    λ e. absurd (true≢false (sym e)),
    λ w. absurd (fails (subst (AllByRecursion P) (cut xs k x below is) (left.0 w)).0),
  )

  pub left_ends : (xs : List X) (k : ℕ) → Left xs k → length xs ≤ k → IsTrue true ↔ W
  left_ends xs k left past = (
    λ _. left.1 (subst (λ (ys : List X). AllByRecursion P (map f ys)) (sym (drop_of_length-le xs past)) tt),
    λ _. refl,
  )

-- the same of the items as they are
module _ {X : Type 0} (P : X → Type 0) (W : Type 0) where
  abbrev pub LeftPlain : List X → ℕ → Type 0
  LeftPlain xs k = W ↔ AllByRecursion P (drop k xs)

  pub plain_next : (xs : List X) (k : ℕ) (x : X) → LeftPlain xs k → k < length xs → x ≡ get_or xs k x → P x → LeftPlain xs (k + 1)
  plain_next xs k x left below is holds =
      let here : drop k xs ≡ x ∷ drop (k + 1) xs = drop_more xs k x below ∙ ap (λ (y : X). y ∷ drop (k + 1) xs) (sym is) in (
        λ w. (subst (AllByRecursion P) here (left.0 w)).1,
        λ rest. left.1 (subst (AllByRecursion P) (sym here) (holds, rest)),
      )

  pub plain_stops : (xs : List X) (k : ℕ) (x : X) → LeftPlain xs k → k < length xs → x ≡ get_or xs k x → ¬ P x → IsTrue false ↔ W
  plain_stops xs k x left below is fails =
      let here : drop k xs ≡ x ∷ drop (k + 1) xs = drop_more xs k x below ∙ ap (λ (y : X). y ∷ drop (k + 1) xs) (sym is) in (
        λ e. absurd (true≢false (sym e)),
        λ w. absurd (fails (subst (AllByRecursion P) here (left.0 w)).0),
      )

  pub plain_ends : (xs : List X) (k : ℕ) → LeftPlain xs k → length xs ≤ k → IsTrue true ↔ W
  plain_ends xs k left past = (
    λ _. left.1 (subst (AllByRecursion P) (sym (drop_of_length-le xs past)) tt),
    λ _. refl,
  )
