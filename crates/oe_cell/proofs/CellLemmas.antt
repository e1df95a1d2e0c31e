-- What the operations keep: each gives a cell of cells, and whole numbers are added and multiplied as such.
use Rattle.std.proofs.Common.{◌≡◌, ℕ, zero, suc, inl, inr, ◌==◌, ◌/◌, ◌<◌, ◌≤◌, ◌^◌, true, false, cond, sym, ap, ◌∙◌, subst, arith, ℤ, pos, ◌+ℤ◌, ◌*ℤ◌, neg_ℤ}
use Rattle.std.specs.Prelude.{negsuc, unsigned_abs, int_div}
use Rattle.std.specs.Int.{int_signum, int_div_euclid}
use Rattle.std.proofs.Math.Nat.{mul-pos, mul-one, div-le_self}
use Rattle.std.proofs.lemmas.Bool.{cases_Bool, cond-true, cond-false}
use Rattle.std.proofs.lemmas.Int.{ints}
use Rattle.oe_cell.specs.Fraction.{Fraction, IsNumber}
use Rattle.oe_cell.specs.Cells.{IsCell, on_number, on_numbers}
use Rattle.oe_cell.specs.Exact.{exact, exact_value, cell_of_lowest}
use Rattle.oe_cell.specs.Operations.{add_of, subtract_of, multiply_of, divide_of, modulo_of, choose_of, floor_of, ceil_of, int_of, absolute_of, sgn_of}
use Rattle.oe_cell.specs.Rational.{sum_of, difference_of, product_of, quotient_of, remainder_of, whole_of, floor_int, ceil_int, truncated_int}
use Rattle.oe_cell.specs.declared.cell.Cell.{Cell}
use Rattle.oe_cell.specs.declared.cell.Cell.TheVariants.{Empty, Flag, Number, Over}
use Rattle.oe_cell.proofs.Coprime.{IsCoprime-one}
use Rattle.oe_cell.proofs.ExactLemmas.{IsExactValue-exact, IsCell-from_exact, exact-lowest}
use Rattle.oe_cell.proofs.OppositeLemmas.{IsNumber-whole, IsNumber-absolute}
use Rattle.oe_cell.proofs.Scale.{*ℤ-pos_one}

pub IsCell-exact_value : (r : Fraction) → 0 < r.den → IsCell (exact_value r)
IsCell-exact_value r some = IsCell-from_exact r (exact_value r) (IsExactValue-exact r.num r.den some)

pub IsCell-on_numbers : (f : Fraction → Fraction → Cell) → ((p q : Fraction) → IsNumber p → IsNumber q → IsCell (f p q)) → (x y : Cell) → IsCell x → IsCell y → IsCell (on_numbers f x y)
IsCell-on_numbers f h Over y p q = tt
IsCell-on_numbers f h Empty Over p q = tt
IsCell-on_numbers f h Empty Empty p q = tt
IsCell-on_numbers f h Empty (Flag b) p q = tt
IsCell-on_numbers f h Empty (Number b) p q = tt
IsCell-on_numbers f h (Flag a) Over p q = tt
IsCell-on_numbers f h (Flag a) Empty p q = tt
IsCell-on_numbers f h (Flag a) (Flag b) p q = tt
IsCell-on_numbers f h (Flag a) (Number b) p q = tt
IsCell-on_numbers f h (Number a) Over p q = tt
IsCell-on_numbers f h (Number a) Empty p q = tt
IsCell-on_numbers f h (Number a) (Flag b) p q = tt
IsCell-on_numbers f h (Number a) (Number b) p q = h a b p q

pub IsCell-on_number : (f : Fraction → Cell) → ((p : Fraction) → IsNumber p → IsCell (f p)) → (x : Cell) → IsCell x → IsCell (on_number f x)
IsCell-on_number f h Over p = tt
IsCell-on_number f h Empty p = tt
IsCell-on_number f h (Flag a) p = tt
IsCell-on_number f h (Number a) p = h a p

pub IsCell-add_of : (x y : Cell) → IsCell x → IsCell y → IsCell (add_of x y)
IsCell-add_of x y =
    IsCell-on_numbers (λ p q. exact_value (sum_of p q)) (λ p q left right. IsCell-exact_value (sum_of p q) (mul-pos left.den_positive right.den_positive)) x y

pub IsCell-subtract_of : (x y : Cell) → IsCell x → IsCell y → IsCell (subtract_of x y)
IsCell-subtract_of x y =
    IsCell-on_numbers (λ p q. exact_value (difference_of p q)) (λ p q left right. IsCell-exact_value (difference_of p q) (mul-pos left.den_positive right.den_positive)) x y

pub IsCell-multiply_of : (x y : Cell) → IsCell x → IsCell y → IsCell (multiply_of x y)
IsCell-multiply_of x y =
    IsCell-on_numbers (λ p q. exact_value (product_of p q)) (λ p q left right. IsCell-exact_value (product_of p q) (mul-pos left.den_positive right.den_positive)) x y

IsCell-unless_zero : (n : ℕ) (c : Cell) → (0 < n → IsCell c) → IsCell (cond (n == 0) Empty c)
IsCell-unless_zero n c h =
    elim (cases_Bool (n == 0)) [
      | inl e ↦ subst (λ (x : Cell). IsCell x) (sym (cond-true _ _ _ e)) tt
      | inr e ↦
          subst (λ (x : Cell). IsCell x) (sym (cond-false _ _ _ e)) (h (some n e))
    ]
  where
    some : (n : ℕ) → (n == 0) ≡ false → 0 < n
    some zero e = cc
    some (suc n) e = omega arith

pub IsCell-divide_of : (x y : Cell) → IsCell x → IsCell y → IsCell (divide_of x y)
IsCell-divide_of x y =
    IsCell-on_numbers _ (λ p q left right. IsCell-unless_zero (unsigned_abs q.num) (exact_value (quotient_of p q)) (λ some. IsCell-exact_value (quotient_of p q) (mul-pos left.den_positive some))) x y

pub IsCell-modulo_of : (x y : Cell) → IsCell x → IsCell y → IsCell (modulo_of x y)
IsCell-modulo_of x y =
    IsCell-on_numbers _ (λ p q left right. IsCell-unless_zero (unsigned_abs q.num) (exact_value (remainder_of p q)) (λ some. IsCell-exact_value (remainder_of p q) (mul-pos left.den_positive (subst (λ (n : ℕ). 0 < n) (sym (mul-one q.den)) right.den_positive)))) x y

pub IsCell-choose_of : (value accept reject : Cell) → IsCell accept → IsCell reject → IsCell (choose_of value accept reject)
IsCell-choose_of Over accept reject h k = tt
IsCell-choose_of (Number q) accept reject h k = tt
IsCell-choose_of (Flag true) accept reject h k = h
IsCell-choose_of (Flag false) accept reject h k = k
IsCell-choose_of Empty accept reject h k = k

-- whole numbers: the sum and the product are those of the numerators, where they are in range, else Over
pub add_of-whole : (m n : ℤ) → add_of (Number (whole_of m)) (Number (whole_of n)) ≡ cell_of_lowest (m +ℤ n) 1
add_of-whole m n =
    ap (λ (z : ℤ). exact (z +ℤ n *ℤ pos 1) 1) (*ℤ-pos_one m) ∙ ap (λ (z : ℤ). exact (m +ℤ z) 1) (*ℤ-pos_one n) ∙ exact-lowest (m +ℤ n) 1 (IsCoprime-one (unsigned_abs (m +ℤ n)))

pub multiply_of-whole : (m n : ℤ) → multiply_of (Number (whole_of m)) (Number (whole_of n)) ≡ cell_of_lowest (m *ℤ n) 1
multiply_of-whole m n = exact-lowest (m *ℤ n) 1 (IsCoprime-one (unsigned_abs (m *ℤ n)))

abs-floor : (n : ℤ) (d : ℕ) → unsigned_abs (int_div_euclid n (pos d)) ≤ unsigned_abs n
abs-floor (pos a) d = div-le_self a d
abs-floor (negsuc a) d = let below : a / d ≤ a = div-le_self a d in omega arith

abs-neg : (z : ℤ) → unsigned_abs (neg_ℤ z) ≡ unsigned_abs z
abs-neg z = omega (arith, ints)

abs-truncated : (n : ℤ) (d : ℕ) → unsigned_abs (int_div n (pos d)) ≤ unsigned_abs n
abs-truncated (pos a) d = div-le_self a d
abs-truncated (negsuc a) d = subst (λ (k : ℕ). k ≤ suc a) (sym (abs-neg (pos (suc a / d)))) (div-le_self (suc a) d)

abs-signum : (z : ℤ) → unsigned_abs (int_signum z) ≤ 1
abs-signum (pos n) = omega arith
abs-signum (negsuc n) = omega arith

pub IsCell-floor_of : (x : Cell) → IsCell x → IsCell (floor_of x)
IsCell-floor_of x =
    IsCell-on_number _ (λ q h. IsNumber-whole (floor_int q) (let size : unsigned_abs (floor_int q) ≤ unsigned_abs q.num = abs-floor q.num q.den in let fits : unsigned_abs q.num < 2 ^ 63 = h.num_fits in omega arith)) x

pub IsCell-ceil_of : (x : Cell) → IsCell x → IsCell (ceil_of x)
IsCell-ceil_of x =
    IsCell-on_number _ (λ q h. IsNumber-whole (ceil_int q) (let size : unsigned_abs (int_div_euclid (neg_ℤ q.num) (pos q.den)) ≤ unsigned_abs (neg_ℤ q.num) = abs-floor (neg_ℤ q.num) q.den in let fits : unsigned_abs q.num < 2 ^ 63 = h.num_fits in omega (arith, abs-neg q.num, abs-neg (int_div_euclid (neg_ℤ q.num) (pos q.den))))) x

pub IsCell-int_of : (x : Cell) → IsCell x → IsCell (int_of x)
IsCell-int_of x =
    IsCell-on_number _ (λ q h. IsNumber-whole (truncated_int q) (let size : unsigned_abs (truncated_int q) ≤ unsigned_abs q.num = abs-truncated q.num q.den in let fits : unsigned_abs q.num < 2 ^ 63 = h.num_fits in omega arith)) x

pub IsCell-absolute_of : (x : Cell) → IsCell x → IsCell (absolute_of x)
IsCell-absolute_of x = IsCell-on_number _ (λ q h. IsNumber-absolute q h) x

pub IsCell-sgn_of : (x : Cell) → IsCell x → IsCell (sgn_of x)
IsCell-sgn_of x =
    IsCell-on_number _ (λ q h. IsNumber-whole (int_signum q.num) (let size : unsigned_abs (int_signum q.num) ≤ 1 = abs-signum q.num in omega arith)) x
