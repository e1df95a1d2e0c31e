-- Worked values of the definitions.
use Rattle.std.specs.Prelude.{◌≡◌, ℕ, true, false, [], ◌∷◌, pos, negsuc, ℤ, refl}
use Rattle.oe_cell.specs.Exact.{gcd_within, gcd_of, cell_of_lowest, exact}
use Rattle.oe_cell.specs.declared.cell.Cell.{Cell}
use Rattle.oe_cell.specs.declared.cell.Cell.TheVariants.{Empty, Flag, Number, Over}
use Rattle.oe_fold.specs.Order.{is_below}
use Rattle.oe_fold.specs.Value.{reduction_of}
use Rattle.oe_fold.specs.Reduction.{IsReduction, middle_of}
use Rattle.oe_fold.specs.declared.reducer.Reducer.TheVariants.{Sum, Product, Mean, Min, Max, Median, First, Last, Any, All, Count, CountAll}

abbrev number : ℤ → ℕ → Cell
number n d = Number (record { num = n; den = d })

abbrev one : Cell
one = number (pos 1) 1

abbrev two : Cell
two = number (pos 2) 1

over_before_all : IsReduction Count true (Empty ∷ Over ∷ []) Over
unfolding IsReduction
over_before_all = refl

nulls_counted : IsReduction CountAll true (Empty ∷ Empty ∷ []) two
unfolding IsReduction
nulls_counted = refl

nulls_not_counted : IsReduction Count false (Empty ∷ Empty ∷ []) (number (pos 0) 1)
unfolding IsReduction
nulls_not_counted = refl

sum_of_two : IsReduction Sum true (one ∷ Empty ∷ two ∷ []) (number (pos 3) 1)
unfolding IsReduction exact gcd_of gcd_within cell_of_lowest
sum_of_two = refl

sum_past_the_limit : IsReduction Sum true (number (pos 9223372036854775807) 1 ∷ one ∷ number (negsuc 0) 1 ∷ []) Over
unfolding IsReduction exact gcd_of gcd_within cell_of_lowest
sum_past_the_limit = refl

sum_with_a_null : IsReduction Sum false (one ∷ Empty ∷ two ∷ []) Empty
unfolding IsReduction
sum_with_a_null = refl

product_of_fractions : IsReduction Product true (number (pos 2) 3 ∷ number (pos 3) 4 ∷ []) (number (pos 1) 2)
unfolding IsReduction exact gcd_of gcd_within cell_of_lowest
product_of_fractions = refl

mean_of_two : IsReduction Mean true (one ∷ two ∷ []) (number (pos 3) 2)
unfolding IsReduction exact gcd_of gcd_within cell_of_lowest
mean_of_two = (number (pos 3) 1, refl, refl)

mean_of_nulls : IsReduction Mean true (Empty ∷ Empty ∷ []) Empty
unfolding IsReduction
mean_of_nulls = refl

any_beside_null : IsReduction Any false (Flag true ∷ Empty ∷ []) (Flag true)
unfolding IsReduction
any_beside_null = refl

all_beside_null : IsReduction All false (Flag true ∷ Empty ∷ []) Empty
unfolding IsReduction
all_beside_null = refl

first_kept : IsReduction First true (Empty ∷ one ∷ two ∷ []) one
unfolding IsReduction
first_kept = refl

last_null : IsReduction Last false (one ∷ Empty ∷ []) Empty
unfolding IsReduction
last_null = refl

mixed_least : IsReduction Min true (one ∷ Flag true ∷ []) Empty
unfolding IsReduction
mixed_least = refl

halves_in_order : is_below (number (pos 1) 3) (number (pos 1) 2) ≡ true
halves_in_order = refl

middle_of_three : middle_of (one ∷ two ∷ number (pos 5) 1 ∷ []) ≡ two
middle_of_three = refl

middle_of_two : middle_of (one ∷ two ∷ []) ≡ number (pos 3) 2
unfolding exact gcd_of gcd_within cell_of_lowest
middle_of_two = refl

-- ---- the function

least_of_two : reduction_of Min true (two ∷ Empty ∷ one ∷ []) ≡ one
unfolding reduction_of
least_of_two = refl

greatest_of_two : reduction_of Max true (two ∷ Empty ∷ one ∷ []) ≡ two
unfolding reduction_of
greatest_of_two = refl

median_of_three : reduction_of Median true (number (pos 5) 1 ∷ one ∷ two ∷ []) ≡ two
unfolding reduction_of
median_of_three = refl

last_of_two : reduction_of Last true (one ∷ two ∷ Empty ∷ []) ≡ two
unfolding reduction_of
last_of_two = refl

median_beside_null : reduction_of Median false (one ∷ Empty ∷ []) ≡ Empty
unfolding reduction_of
median_beside_null = refl
