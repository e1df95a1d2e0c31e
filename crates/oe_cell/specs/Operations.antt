-- The operations on cells, by the names that openEO Processes gives them. In each definition the first case that fits
-- decides.
use Rattle.std.specs.Prelude.{◌≡◌, ◌==◌, true, false, not, if◌then◌else◌, ℤ, pos, unsigned_abs}
use Rattle.std.specs.Bool.{beq}
use Rattle.std.specs.Int.{int_signum}
use Rattle.std.specs.Ordering.{is_eq, is_gt, is_ge, is_lt, is_le}
use Rattle.oe_cell.specs.Fraction.{Fraction}
use Rattle.oe_cell.specs.Exact.{exact_value}
use Rattle.oe_cell.specs.Rational.{sum_of, difference_of, product_of, quotient_of, remainder_of, whole_of, floor_int, ceil_int, truncated_int}
use Rattle.oe_cell.specs.Order.{compare_of}
use Rattle.oe_cell.specs.Cells.{on_number, on_numbers}
use Rattle.oe_cell.specs.declared.cell.Cell.{Cell}
use Rattle.oe_cell.specs.declared.cell.Cell.TheVariants.{Empty, Flag, Number, Over}

-- ---- arithmetic: the exact value

abbrev pub add_of : Cell → Cell → Cell
add_of x y = on_numbers (λ p q. exact_value (sum_of p q)) x y

abbrev pub subtract_of : Cell → Cell → Cell
subtract_of x y = on_numbers (λ p q. exact_value (difference_of p q)) x y

abbrev pub multiply_of : Cell → Cell → Cell
multiply_of x y = on_numbers (λ p q. exact_value (product_of p q)) x y

-- null where the divisor is 0
abbrev pub divide_of : Cell → Cell → Cell
divide_of x y =
    on_numbers (λ p q. if unsigned_abs q.num == 0 then Empty else exact_value (quotient_of p q)) x y

-- x - y floor(x / y), and null where the divisor is 0
abbrev pub modulo_of : Cell → Cell → Cell
modulo_of x y =
    on_numbers (λ p q. if unsigned_abs q.num == 0 then Empty else exact_value (remainder_of p q)) x y

-- ---- comparisons

-- of two flags or of two numbers; a flag beside a number gives null
abbrev pub eq_of : Cell → Cell → Cell
eq_of Over y = Over
eq_of x Over = Over
eq_of (Flag a) (Number q) = Empty
eq_of (Number p) (Flag b) = Empty
eq_of Empty y = Empty
eq_of x Empty = Empty
eq_of (Flag a) (Flag b) = Flag (beq a b)
eq_of (Number p) (Number q) = Flag (is_eq (compare_of p q))

abbrev pub gt_of : Cell → Cell → Cell
gt_of x y = on_numbers (λ p q. Flag (is_gt (compare_of p q))) x y

abbrev pub gte_of : Cell → Cell → Cell
gte_of x y = on_numbers (λ p q. Flag (is_ge (compare_of p q))) x y

abbrev pub lt_of : Cell → Cell → Cell
lt_of x y = on_numbers (λ p q. Flag (is_lt (compare_of p q))) x y

abbrev pub lte_of : Cell → Cell → Cell
lte_of x y = on_numbers (λ p q. Flag (is_le (compare_of p q))) x y

-- ---- logic of three values: false and null is false, true or null is true, every other case with a null is null

abbrev pub and_of : Cell → Cell → Cell
and_of Over y = Over
and_of x Over = Over
and_of (Number p) y = Empty
and_of x (Number q) = Empty
and_of (Flag false) y = Flag false
and_of x (Flag false) = Flag false
and_of Empty y = Empty
and_of x Empty = Empty
and_of (Flag true) (Flag true) = Flag true

abbrev pub or_of : Cell → Cell → Cell
or_of Over y = Over
or_of x Over = Over
or_of (Number p) y = Empty
or_of x (Number q) = Empty
or_of (Flag true) y = Flag true
or_of x (Flag true) = Flag true
or_of Empty y = Empty
or_of x Empty = Empty
or_of (Flag false) (Flag false) = Flag false

abbrev pub xor_of : Cell → Cell → Cell
xor_of Over y = Over
xor_of x Over = Over
xor_of (Number p) y = Empty
xor_of x (Number q) = Empty
xor_of Empty y = Empty
xor_of x Empty = Empty
xor_of (Flag a) (Flag b) = Flag (not (beq a b))

abbrev pub not_of : Cell → Cell
not_of Over = Over
not_of (Number p) = Empty
not_of Empty = Empty
not_of (Flag b) = Flag (not b)

-- the opposite of `eq`
abbrev pub neq_of : Cell → Cell → Cell
neq_of x y = not_of (eq_of x y)

-- `if`: the branch that is not chosen does not count
abbrev pub choose_of : Cell → Cell → Cell → Cell
choose_of Over accept reject = Over
choose_of (Number q) accept reject = Empty
choose_of (Flag true) accept reject = accept
choose_of (Flag false) accept reject = reject
choose_of Empty accept reject = reject

-- ---- one number

abbrev pub floor_of : Cell → Cell
floor_of x = on_number (λ q. Number (whole_of (floor_int q))) x

abbrev pub ceil_of : Cell → Cell
ceil_of x = on_number (λ q. Number (whole_of (ceil_int q))) x

-- cut towards 0
abbrev pub int_of : Cell → Cell
int_of x = on_number (λ q. Number (whole_of (truncated_int q))) x

abbrev pub absolute_of : Cell → Cell
absolute_of x = on_number (λ q. Number (record { num = pos (unsigned_abs q.num); den = q.den })) x

-- -1, 0 or 1
abbrev pub sgn_of : Cell → Cell
sgn_of x = on_number (λ q. Number (whole_of (int_signum q.num))) x

-- the cell is the whole number that the relation names of the operand's number
abbrev pub IsWhole : (Fraction → ℤ → Type 0) → Fraction → Cell → Type 0
IsWhole R q result = (k : ℤ) × (result ≡ Number (whole_of k)) × R q k
