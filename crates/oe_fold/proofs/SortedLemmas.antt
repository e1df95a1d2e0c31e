-- Two lists of numbers in order that have the same members as often are equal.
use Rattle.std.proofs.Common.{◌≡◌, ℕ, suc, ◌+◌, ◌<◌, ◌≤◌, false, cond, refl, sym, ap, ◌∙◌, subst, arith, inl, inr, List, [], ◌∷◌, length, get_or}
use Rattle.std.specs.List.{All, sum_by}
use Rattle.std.specs.List.Sorted.{IsSortedBy}
use Rattle.std.specs.Ordering.{is_lt, ordering_reverse}
use Rattle.std.specs.declared.cmp.Ordering.{Ordering}
use Rattle.std.specs.declared.cmp.Ordering.TheVariants.{Less, Equal, Greater}
use Rattle.std.proofs.lemmas.Bool.{cases_Bool, cond-true, cond-false}
use Rattle.std.proofs.lemmas.List.Elements.{All-head, All-tail}
use Rattle.std.proofs.lemmas.List.Sorted.{sorted_far}
use Rattle.std.proofs.lemmas.List.Sums.{sum_by-cons}
use Rattle.oe_cell.specs.Fraction.{Fraction, IsNumber}
use Rattle.oe_cell.specs.Order.{compare_of}
use Rattle.oe_cell.specs.declared.cell.Cell.{Cell}
use Rattle.oe_cell.specs.declared.cell.Cell.TheVariants.{Empty, Flag, Number, Over}
use Rattle.oe_cell.proofs.OrderLemmas.{compare_of_antisymm, same_from_compare_of}
use Rattle.oe_fold.specs.Order.{is_below, is_before}
use Rattle.oe_fold.proofs.OrderLemmas.{before-numbers, before-ranks}

-- a number of a cell
abbrev pub IsReal : Cell → Type 0
IsReal (Number q) = IsNumber q
IsReal Empty = ⊥
IsReal (Flag b) = ⊥
IsReal Over = ⊥

-- on numbers the order of the sort is that of the numbers
pub before-below : (x y : Cell) → IsReal x → IsReal y → is_before x y ≡ is_below x y
before-below (Number p) (Number q) x_real y_real = before-numbers p q x_real.den_positive y_real.den_positive
before-below (Number p) Empty x_real y_real = absurd y_real
before-below (Number p) (Flag b) x_real y_real = absurd y_real
before-below (Number p) Over x_real y_real = absurd y_real
before-below Empty y x_real y_real = absurd x_real
before-below (Flag a) y x_real y_real = absurd x_real
before-below Over y x_real y_real = absurd x_real

same_numbers : (p q : Fraction) → IsNumber p → IsNumber q → is_lt (compare_of p q) ≡ false → is_lt (compare_of q p) ≡ false → p ≡ q
same_numbers p q left right h k = by_order (compare_of p q) refl h
  where
    back : (o : Ordering) → o ≡ compare_of q p → is_lt o ≡ false → compare_of p q ≡ Greater → ⊥
    back Less e g f = cc
    back Equal e g f = (let turned : compare_of p q ≡ ordering_reverse Equal = compare_of_antisymm p q ∙ ap ordering_reverse (sym e) in cc)
    back Greater e g f = (let turned : compare_of p q ≡ ordering_reverse Greater = compare_of_antisymm p q ∙ ap ordering_reverse (sym e) in cc)

    by_order : (o : Ordering) → o ≡ compare_of p q → is_lt o ≡ false → p ≡ q
    by_order Less e g = cc
    by_order Equal e g = same_from_compare_of p q left right (sym e)
    by_order Greater e g = absurd (back (compare_of q p) refl k (sym e))

-- two numbers of which neither is less than the other are the same
pub same_real : (x y : Cell) → IsReal x → IsReal y → is_below x y ≡ false → is_below y x ≡ false → x ≡ y
same_real (Number p) (Number q) x_real y_real h k = ap (λ (r : Fraction). Number r) (same_numbers p q x_real y_real h k)
same_real (Number p) Empty x_real y_real h k = absurd y_real
same_real (Number p) (Flag b) x_real y_real h k = absurd y_real
same_real (Number p) Over x_real y_real h k = absurd y_real
same_real Empty y x_real y_real h k = absurd x_real
same_real (Flag a) y x_real y_real h k = absurd x_real
same_real Over y x_real y_real h k = absurd x_real

-- 1 for each cell that stands before x
abbrev before_count : Cell → Cell → ℕ
before_count x z = cond (is_before z x) 1 0

none_before : (x : Cell) (zs : List Cell) → All (λ z. is_before z x ≡ false) zs → sum_by (before_count x) zs ≡ 0
none_before x [] h = refl
none_before x (z ∷ zs) h =
    let first : before_count x z ≡ 0 = cond-false (is_before z x) 1 0 (All-head (λ z. is_before z x ≡ false) z zs h) in
    let rest : sum_by (before_count x) zs ≡ 0 = none_before x zs (All-tail (λ z. is_before z x ≡ false) z zs h) in
    let whole : sum_by (before_count x) (z ∷ zs) ≡ before_count x z + sum_by (before_count x) zs = sum_by-cons (before_count x) z zs in
    omega (arith, first, rest, whole)

not_before : (x y : Cell) → before_count x y ≡ 0 → is_before y x ≡ false
not_before x y h = elim (cases_Bool (is_before y x)) [
  | inl e ↦ (let one : before_count x y ≡ 1 = cond-true (is_before y x) 1 0 e in absurd (omega (arith, h, one)))
  | inr e ↦ e
]

-- the first of a list in order stands after none of another with the same sums
first_before : (x : Cell) (xs : List Cell) (y : Cell) (ys : List Cell) → IsSortedBy is_before (x ∷ xs) → ((f : Cell → ℕ) → sum_by f (x ∷ xs) ≡ sum_by f (y ∷ ys)) → is_before y x ≡ false
first_before x xs y ys up same =
    let none : sum_by (before_count x) (x ∷ xs) ≡ 0 = none_before x (x ∷ xs) (λ k d h. sorted_far is_before before-ranks (x ∷ xs) up 0 k d (omega arith) h) in
    let other : sum_by (before_count x) (x ∷ xs) ≡ sum_by (before_count x) (y ∷ ys) = same (before_count x) in
    let whole : sum_by (before_count x) (y ∷ ys) ≡ before_count x y + sum_by (before_count x) ys = sum_by-cons (before_count x) y ys in
    not_before x y (omega (arith, none, other, whole))

sorted_tail : (x : Cell) (xs : List Cell) → IsSortedBy is_before (x ∷ xs) → IsSortedBy is_before xs
sorted_tail x xs up k d low high =
    let within : suc k + 1 < suc (length xs) = omega arith in
    let low' : 0 ≤ suc k = omega arith in
    let e : suc k + 1 ≡ suc (k + 1) = omega arith in
    subst (λ (n : ℕ). is_before (get_or (x ∷ xs) n d) (get_or xs k d) ≡ false) e (up (suc k) d low' within)

pub sorted-unique : (xs ys : List Cell) → All IsReal xs → All IsReal ys → IsSortedBy is_before xs → IsSortedBy is_before ys → ((f : Cell → ℕ) → sum_by f xs ≡ sum_by f ys) → xs ≡ ys
sorted-unique [] [] a b up over same = refl
sorted-unique [] (y ∷ ys) a b up over same =
    let none : 0 ≡ sum_by (λ (z : Cell). 1) (y ∷ ys) = same (λ _. 1) in
    let whole : sum_by (λ (z : Cell). 1) (y ∷ ys) ≡ 1 + sum_by (λ (z : Cell). 1) ys = sum_by-cons (λ _. 1) y ys in
    absurd (omega (arith, none, whole))
sorted-unique (x ∷ xs) [] a b up over same =
    let none : sum_by (λ (z : Cell). 1) (x ∷ xs) ≡ 0 = same (λ _. 1) in
    let whole : sum_by (λ (z : Cell). 1) (x ∷ xs) ≡ 1 + sum_by (λ (z : Cell). 1) xs = sum_by-cons (λ _. 1) x xs in
    absurd (omega (arith, none, whole))
sorted-unique (x ∷ xs) (y ∷ ys) a b up over same =
    let x_real : IsReal x = All-head IsReal x xs a in
    let y_real : IsReal y = All-head IsReal y ys b in
    let e : x ≡ y = same_real x y x_real y_real (sym (before-below x y x_real y_real) ∙ first_before y ys x xs over (λ f. sym (same f))) (sym (before-below y x y_real x_real) ∙ first_before x xs y ys up same) in
    let rest : xs ≡ ys = sorted-unique xs ys (All-tail IsReal x xs a) (All-tail IsReal y ys b) (sorted_tail x xs up) (sorted_tail y ys over) (λ f. tail f e (same f)) in
    cc
  where
    tail : (f : Cell → ℕ) → x ≡ y → sum_by f (x ∷ xs) ≡ sum_by f (y ∷ ys) → sum_by f xs ≡ sum_by f ys
    tail f e h =
        let left : sum_by f (x ∷ xs) ≡ f x + sum_by f xs = sum_by-cons f x xs in
        let right : sum_by f (y ∷ ys) ≡ f y + sum_by f ys = sum_by-cons f y ys in
        let first : f x ≡ f y = ap f e in
        omega (arith, left, right, first, h)
