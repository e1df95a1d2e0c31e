-- The kinds of results: an operation of arithmetic never gives a flag, one of logic or order never a number, whatever its operands are.
use Rattle.std.proofs.Common.{ℕ, ◌==◌, ◌^◌, true, false, Bool, cond, ℤ}
use Rattle.std.specs.Prelude.{unsigned_abs, nat_lt, ◌&&◌}
use Rattle.oe_cell.specs.Fraction.{Fraction}
use Rattle.oe_cell.specs.Cells.{on_number, on_numbers}
use Rattle.oe_cell.specs.Kinds.{IsNumeric, IsLogical}
use Rattle.oe_cell.specs.Exact.{exact, exact_value, cell_of_lowest}
use Rattle.oe_cell.specs.Operations.{add_of, subtract_of, multiply_of, divide_of, modulo_of, eq_of, neq_of, gt_of, gte_of, lt_of, lte_of, and_of, or_of, xor_of, not_of, choose_of, floor_of, ceil_of, int_of, absolute_of, sgn_of}
use Rattle.oe_cell.specs.declared.cell.Cell.{Cell}
use Rattle.oe_cell.specs.declared.cell.Cell.TheVariants.{Empty, Flag, Number, Over}

IsNumeric-cond : (b : Bool) (x y : Cell) → IsNumeric x → IsNumeric y → IsNumeric (cond b x y)
IsNumeric-cond true x y h k = h
IsNumeric-cond false x y h k = k

IsNumeric-cell_of_lowest : (n : ℤ) (d : ℕ) → IsNumeric (cell_of_lowest n d)
unfolding cell_of_lowest
IsNumeric-cell_of_lowest n d = IsNumeric-cond (nat_lt (unsigned_abs n) (2 ^ 63) && nat_lt d (2 ^ 63)) _ _ tt tt

pub IsNumeric-exact_value : (r : Fraction) → IsNumeric (exact_value r)
unfolding exact
IsNumeric-exact_value r = IsNumeric-cell_of_lowest _ _

-- ---- arithmetic, whose results are numbers, null or Over

pub IsNumeric-on_numbers : (f : Fraction → Fraction → Cell) → ((p q : Fraction) → IsNumeric (f p q)) → (x y : Cell) → IsNumeric (on_numbers f x y)
IsNumeric-on_numbers f h Over y = tt
IsNumeric-on_numbers f h Empty Over = tt
IsNumeric-on_numbers f h Empty Empty = tt
IsNumeric-on_numbers f h Empty (Flag b) = tt
IsNumeric-on_numbers f h Empty (Number b) = tt
IsNumeric-on_numbers f h (Flag a) Over = tt
IsNumeric-on_numbers f h (Flag a) Empty = tt
IsNumeric-on_numbers f h (Flag a) (Flag b) = tt
IsNumeric-on_numbers f h (Flag a) (Number b) = tt
IsNumeric-on_numbers f h (Number a) Over = tt
IsNumeric-on_numbers f h (Number a) Empty = tt
IsNumeric-on_numbers f h (Number a) (Flag b) = tt
IsNumeric-on_numbers f h (Number a) (Number b) = h a b

pub IsNumeric-add_of : (x y : Cell) → IsNumeric (add_of x y)
IsNumeric-add_of x y = IsNumeric-on_numbers _ (λ p q. IsNumeric-exact_value _) x y

pub IsNumeric-subtract_of : (x y : Cell) → IsNumeric (subtract_of x y)
IsNumeric-subtract_of x y = IsNumeric-on_numbers _ (λ p q. IsNumeric-exact_value _) x y

pub IsNumeric-multiply_of : (x y : Cell) → IsNumeric (multiply_of x y)
IsNumeric-multiply_of x y = IsNumeric-on_numbers _ (λ p q. IsNumeric-exact_value _) x y

pub IsNumeric-divide_of : (x y : Cell) → IsNumeric (divide_of x y)
IsNumeric-divide_of x y = IsNumeric-on_numbers _ (λ p q. IsNumeric-cond (unsigned_abs q.num == 0) _ _ tt (IsNumeric-exact_value _)) x y

pub IsNumeric-modulo_of : (x y : Cell) → IsNumeric (modulo_of x y)
IsNumeric-modulo_of x y = IsNumeric-on_numbers _ (λ p q. IsNumeric-cond (unsigned_abs q.num == 0) _ _ tt (IsNumeric-exact_value _)) x y

pub IsNumeric-on_number : (f : Fraction → Cell) → ((p : Fraction) → IsNumeric (f p)) → (x : Cell) → IsNumeric (on_number f x)
IsNumeric-on_number f h Over = tt
IsNumeric-on_number f h Empty = tt
IsNumeric-on_number f h (Flag a) = tt
IsNumeric-on_number f h (Number a) = h a

pub IsNumeric-floor_of : (x : Cell) → IsNumeric (floor_of x)
IsNumeric-floor_of x = IsNumeric-on_number _ (λ p. tt) x

pub IsNumeric-ceil_of : (x : Cell) → IsNumeric (ceil_of x)
IsNumeric-ceil_of x = IsNumeric-on_number _ (λ p. tt) x

pub IsNumeric-int_of : (x : Cell) → IsNumeric (int_of x)
IsNumeric-int_of x = IsNumeric-on_number _ (λ p. tt) x

pub IsNumeric-absolute_of : (x : Cell) → IsNumeric (absolute_of x)
IsNumeric-absolute_of x = IsNumeric-on_number _ (λ p. tt) x

pub IsNumeric-sgn_of : (x : Cell) → IsNumeric (sgn_of x)
IsNumeric-sgn_of x = IsNumeric-on_number _ (λ p. tt) x

-- ---- comparisons and logic, whose results are flags, null or Over

pub IsLogical-on_numbers : (f : Fraction → Fraction → Cell) → ((p q : Fraction) → IsLogical (f p q)) → (x y : Cell) → IsLogical (on_numbers f x y)
IsLogical-on_numbers f h Over y = tt
IsLogical-on_numbers f h Empty Over = tt
IsLogical-on_numbers f h Empty Empty = tt
IsLogical-on_numbers f h Empty (Flag b) = tt
IsLogical-on_numbers f h Empty (Number b) = tt
IsLogical-on_numbers f h (Flag a) Over = tt
IsLogical-on_numbers f h (Flag a) Empty = tt
IsLogical-on_numbers f h (Flag a) (Flag b) = tt
IsLogical-on_numbers f h (Flag a) (Number b) = tt
IsLogical-on_numbers f h (Number a) Over = tt
IsLogical-on_numbers f h (Number a) Empty = tt
IsLogical-on_numbers f h (Number a) (Flag b) = tt
IsLogical-on_numbers f h (Number a) (Number b) = h a b

pub IsLogical-gt_of : (x y : Cell) → IsLogical (gt_of x y)
IsLogical-gt_of x y = IsLogical-on_numbers _ (λ p q. tt) x y

pub IsLogical-gte_of : (x y : Cell) → IsLogical (gte_of x y)
IsLogical-gte_of x y = IsLogical-on_numbers _ (λ p q. tt) x y

pub IsLogical-lt_of : (x y : Cell) → IsLogical (lt_of x y)
IsLogical-lt_of x y = IsLogical-on_numbers _ (λ p q. tt) x y

pub IsLogical-lte_of : (x y : Cell) → IsLogical (lte_of x y)
IsLogical-lte_of x y = IsLogical-on_numbers _ (λ p q. tt) x y

pub IsLogical-and_of : (x y : Cell) → IsLogical (and_of x y)
IsLogical-and_of Over y = tt
IsLogical-and_of (Number p) Over = tt
IsLogical-and_of (Number p) (Number q) = tt
IsLogical-and_of (Number p) Empty = tt
IsLogical-and_of (Number p) (Flag true) = tt
IsLogical-and_of (Number p) (Flag false) = tt
IsLogical-and_of Empty Over = tt
IsLogical-and_of Empty (Number q) = tt
IsLogical-and_of Empty Empty = tt
IsLogical-and_of Empty (Flag true) = tt
IsLogical-and_of Empty (Flag false) = tt
IsLogical-and_of (Flag true) Over = tt
IsLogical-and_of (Flag true) (Number q) = tt
IsLogical-and_of (Flag true) Empty = tt
IsLogical-and_of (Flag true) (Flag true) = tt
IsLogical-and_of (Flag true) (Flag false) = tt
IsLogical-and_of (Flag false) Over = tt
IsLogical-and_of (Flag false) (Number q) = tt
IsLogical-and_of (Flag false) Empty = tt
IsLogical-and_of (Flag false) (Flag true) = tt
IsLogical-and_of (Flag false) (Flag false) = tt

pub IsLogical-or_of : (x y : Cell) → IsLogical (or_of x y)
IsLogical-or_of Over y = tt
IsLogical-or_of (Number p) Over = tt
IsLogical-or_of (Number p) (Number q) = tt
IsLogical-or_of (Number p) Empty = tt
IsLogical-or_of (Number p) (Flag true) = tt
IsLogical-or_of (Number p) (Flag false) = tt
IsLogical-or_of Empty Over = tt
IsLogical-or_of Empty (Number q) = tt
IsLogical-or_of Empty Empty = tt
IsLogical-or_of Empty (Flag true) = tt
IsLogical-or_of Empty (Flag false) = tt
IsLogical-or_of (Flag true) Over = tt
IsLogical-or_of (Flag true) (Number q) = tt
IsLogical-or_of (Flag true) Empty = tt
IsLogical-or_of (Flag true) (Flag true) = tt
IsLogical-or_of (Flag true) (Flag false) = tt
IsLogical-or_of (Flag false) Over = tt
IsLogical-or_of (Flag false) (Number q) = tt
IsLogical-or_of (Flag false) Empty = tt
IsLogical-or_of (Flag false) (Flag true) = tt
IsLogical-or_of (Flag false) (Flag false) = tt

pub IsLogical-xor_of : (x y : Cell) → IsLogical (xor_of x y)
IsLogical-xor_of Over y = tt
IsLogical-xor_of (Number p) Over = tt
IsLogical-xor_of (Number p) (Number q) = tt
IsLogical-xor_of (Number p) Empty = tt
IsLogical-xor_of (Number p) (Flag b) = tt
IsLogical-xor_of Empty Over = tt
IsLogical-xor_of Empty (Number q) = tt
IsLogical-xor_of Empty Empty = tt
IsLogical-xor_of Empty (Flag b) = tt
IsLogical-xor_of (Flag a) Over = tt
IsLogical-xor_of (Flag a) (Number q) = tt
IsLogical-xor_of (Flag a) Empty = tt
IsLogical-xor_of (Flag a) (Flag b) = tt

pub IsLogical-eq_of : (x y : Cell) → IsLogical (eq_of x y)
IsLogical-eq_of Over y = tt
IsLogical-eq_of (Number p) Over = tt
IsLogical-eq_of (Number p) (Number q) = tt
IsLogical-eq_of (Number p) Empty = tt
IsLogical-eq_of (Number p) (Flag b) = tt
IsLogical-eq_of Empty Over = tt
IsLogical-eq_of Empty (Number q) = tt
IsLogical-eq_of Empty Empty = tt
IsLogical-eq_of Empty (Flag b) = tt
IsLogical-eq_of (Flag a) Over = tt
IsLogical-eq_of (Flag a) (Number q) = tt
IsLogical-eq_of (Flag a) Empty = tt
IsLogical-eq_of (Flag a) (Flag b) = tt

pub IsLogical-not_of : (x : Cell) → IsLogical (not_of x)
IsLogical-not_of Over = tt
IsLogical-not_of (Number p) = tt
IsLogical-not_of Empty = tt
IsLogical-not_of (Flag b) = tt

pub IsLogical-neq_of : (x y : Cell) → IsLogical (neq_of x y)
IsLogical-neq_of x y = IsLogical-not_of (eq_of x y)

-- ---- the choice, which keeps what null, Over and both branches have

pub choose_of-keeps : (P : Cell → Type 0) (value accept reject : Cell) → P Empty → P Over → P accept → P reject → P (choose_of value accept reject)
choose_of-keeps P Over accept reject null over first second = over
choose_of-keeps P (Number q) accept reject null over first second = null
choose_of-keeps P (Flag true) accept reject null over first second = first
choose_of-keeps P (Flag false) accept reject null over first second = second
choose_of-keeps P Empty accept reject null over first second = second
