-- The exact value of a fraction as a cell: the number of a cell that equals it, or Over where none does.
use Rattle.std.specs.Prelude.{◌≡◌, ℕ, zero, suc, ◌/◌, ◌%◌, ◌^◌, ◌&&◌, nat_lt, if◌then◌else◌, ℤ, pos, ◌*ℤ◌, int_div, unsigned_abs}
use Rattle.oe_cell.specs.Fraction.{Fraction, IsNumber}
use Rattle.oe_cell.specs.declared.cell.Cell.{Cell}
use Rattle.oe_cell.specs.declared.cell.Cell.TheVariants.{Empty, Flag, Number, Over}

-- the greatest common divisor by Euclid's method, which ends within as many turns as the second number says
unfoldable pub gcd_within : ℕ → ℕ → ℕ → ℕ
gcd_within zero a b = a
gcd_within (suc turns) a zero = a
gcd_within (suc turns) a (suc b) = gcd_within turns (suc b) (a % suc b)

-- the greatest common divisor of two numbers
unfoldable pub gcd_of : ℕ → ℕ → ℕ
gcd_of a b = gcd_within b a b

-- the cell of a fraction in lowest terms: a number where both parts are in range, else Over
unfoldable pub cell_of_lowest : ℤ → ℕ → Cell
cell_of_lowest n d =
    if nat_lt (unsigned_abs n) (2 ^ 63) && nat_lt d (2 ^ 63) then Number (record { num = n; den = d }) else Over

-- the exact value of n / d for d above 0: both parts are divided by their greatest common divisor, and then it is seen
-- whether they fit
unfoldable pub exact : ℤ → ℕ → Cell
exact n d = let g = gcd_of (unsigned_abs n) d in cell_of_lowest (int_div n (pos g)) (d / g)

-- the exact value of a fraction, whether or not it is in lowest terms
abbrev pub exact_value : Fraction → Cell
exact_value r = exact r.num r.den

-- two fractions are the same rational number: p.num / p.den = q.num / q.den, multiplied out
abbrev pub IsSameRational : Fraction → Fraction → Type 0
IsSameRational p q = p.num *ℤ pos q.den ≡ q.num *ℤ pos p.den

-- what the exact value means: the number of a cell that is the same rational, or Over exactly where no number of a cell
-- is
abbrev pub IsExactValue : Fraction → Cell → Type 0
IsExactValue r (Number q) = IsNumber q × IsSameRational q r
IsExactValue r Over = (q : Fraction) → IsNumber q → ¬ (IsSameRational q r)
IsExactValue r Empty = ⊥
IsExactValue r (Flag b) = ⊥
