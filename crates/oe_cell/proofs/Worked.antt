-- Worked values of the definitions.
use Rattle.std.specs.Prelude.{◌≡◌, true, false, pos, negsuc, codes, ℤ, ℕ, [], ◌∷◌, refl}
use Rattle.std.specs.Fmt.{digits}
use Rattle.std.specs.declared.cmp.Ordering.TheVariants.{Less}
use Rattle.oe_cell.specs.Exact.{gcd_within, gcd_of, cell_of_lowest, exact}
use Rattle.oe_cell.specs.Operations.{add_of, subtract_of, multiply_of, divide_of, modulo_of, floor_of, ceil_of, int_of, and_of, or_of, eq_of, choose_of}
use Rattle.oe_cell.specs.Order.{compare_of}
use Rattle.oe_cell.specs.Record.{bytes_of, record_of}
use Rattle.oe_cell.specs.declared.cell.Cell.{Cell}
use Rattle.oe_cell.specs.Spelling.{cell_text}
use Rattle.oe_cell.specs.declared.cell.Cell.TheVariants.{Empty, Flag, Number, Over}

empty_text : cell_text Empty ≡ codes "null"
empty_text = refl

true_text : cell_text (Flag true) ≡ codes "true"
true_text = refl

seven_text : cell_text (Number (record { num = pos 7; den = 1 })) ≡ codes "7"
unfolding digits
seven_text = refl

negative_text : cell_text (Number (record { num = negsuc 6; den = 1 })) ≡ codes "-7"
unfolding digits
negative_text = refl

fraction_text : cell_text (Number (record { num = negsuc 2; den = 2 })) ≡ codes "\"-3/2\""
unfolding digits
fraction_text = refl

limit_text : cell_text (Number (record { num = negsuc 9223372036854775806; den = 9223372036854775807 })) ≡ codes "\"-9223372036854775807/9223372036854775807\""
unfolding digits
limit_text = refl

abbrev number : ℤ → ℕ → Cell
number n d = Number (record { num = n; den = d })

halves : add_of (number (pos 1) 2) (number (pos 1) 2) ≡ number (pos 1) 1
unfolding exact gcd_of gcd_within cell_of_lowest
halves = refl

common_parts : subtract_of (number (pos 1) 6) (number (pos 1) 10) ≡ number (pos 1) 15
unfolding exact gcd_of gcd_within cell_of_lowest
common_parts = refl

past_the_limit : add_of (number (pos 9223372036854775807) 1) (number (pos 1) 1) ≡ Over
unfolding exact gcd_of gcd_within cell_of_lowest
past_the_limit = refl

fits_after_reduction : multiply_of (number (pos 9223372036854775807) 2) (number (pos 2) 9223372036854775807) ≡ number (pos 1) 1
unfolding exact gcd_of gcd_within cell_of_lowest
fits_after_reduction = refl

denominator_too_large : multiply_of (number (pos 1) 9223372036854775807) (number (pos 1) 2) ≡ Over
unfolding exact gcd_of gcd_within cell_of_lowest
denominator_too_large = refl

negative_divisor : divide_of (number (pos 1) 3) (number (negsuc 4) 3) ≡ number (negsuc 0) 5
unfolding exact gcd_of gcd_within cell_of_lowest
negative_divisor = refl

by_zero : modulo_of (number (pos 1) 1) (number (pos 0) 1) ≡ Empty
by_zero = refl

negative_dividend : modulo_of (number (negsuc 6) 1) (number (pos 3) 1) ≡ number (pos 2) 1
unfolding exact gcd_of gcd_within cell_of_lowest
negative_dividend = refl

sign_of_divisor : modulo_of (number (pos 7) 1) (number (negsuc 2) 1) ≡ number (negsuc 1) 1
unfolding exact gcd_of gcd_within cell_of_lowest
sign_of_divisor = refl

remainder_of_fractions : modulo_of (number (pos 7) 2) (number (pos 2) 3) ≡ number (pos 1) 6
unfolding exact gcd_of gcd_within cell_of_lowest
remainder_of_fractions = refl

rounded_down : floor_of (number (negsuc 2) 2) ≡ number (negsuc 1) 1
rounded_down = refl

rounded_up : ceil_of (number (pos 3) 2) ≡ number (pos 2) 1
rounded_up = refl

cut : int_of (number (negsuc 2) 2) ≡ number (negsuc 0) 1
cut = refl

over_before_false : and_of (Flag false) Over ≡ Over
over_before_false = refl

false_and_null : and_of Empty (Flag false) ≡ Flag false
false_and_null = refl

true_or_null : or_of (Flag true) Empty ≡ Flag true
true_or_null = refl

flag_beside_number : eq_of (Flag true) (number (pos 1) 1) ≡ Empty
flag_beside_number = refl

other_branch : choose_of Empty Over (number (pos 1) 1) ≡ number (pos 1) 1
other_branch = refl

third_is_less : compare_of (record { num = pos 1; den = 3 }) (record { num = pos 1; den = 2 }) ≡ Less
third_is_less = refl

record_of_fraction : record_of (number (negsuc 2) 2) ≡ 3 ∷ 255 ∷ 255 ∷ 255 ∷ 255 ∷ 255 ∷ 255 ∷ 255 ∷ 253 ∷ 0 ∷ 0 ∷ 0 ∷ 0 ∷ 0 ∷ 0 ∷ 0 ∷ 2 ∷ []
unfolding bytes_of
record_of_fraction = refl
