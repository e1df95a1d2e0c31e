-- Worked values of the definitions.
use Rattle.std.specs.Prelude.{◌≡◌, true, false, pos, negsuc, ℤ, ℕ, List, [], ◌∷◌, ◌++◌, replicate, Some, None, refl}
use Rattle.oe_cell.specs.Record.{bytes_of}
use Rattle.oe_cell.specs.declared.cell.Cell.{Cell}
use Rattle.oe_cell.specs.declared.cell.Cell.TheVariants.{Empty, Flag, Number, Over}
use Rattle.oe_wide.specs.Wide.{nine_bytes, part_at, record_in, records_in}
use Rattle.oe_wide.specs.declared.width.Width.TheVariants.{One, Nine, Seventeen}

abbrev number : ℤ → ℕ → Cell
number n d = Number (record { num = n; den = d })

flag_in_one : record_in One (Flag true) ≡ Some (2 ∷ [])
flag_in_one = refl

number_in_one : record_in One (number (pos 7) 1) ≡ None
number_in_one = refl

over_in_nine : record_in Nine Over ≡ None
over_in_nine = refl

fraction_in_nine : record_in Nine (number (negsuc 2) 2) ≡ None
fraction_in_nine = refl

empty_in_nine : record_in Nine Empty ≡ Some (replicate 9 0)
unfolding nine_bytes
empty_in_nine = refl

seven_in_nine : record_in Nine (number (pos 7) 1) ≡ Some (5 ∷ replicate 7 0 ++ 7 ∷ [])
unfolding nine_bytes
seven_in_nine = refl

minus_one_in_nine : record_in Nine (number (negsuc 0) 1) ≡ Some (5 ∷ replicate 8 255)
unfolding nine_bytes
minus_one_in_nine = refl

seven_in_seventeen : record_in Seventeen (number (pos 7) 1) ≡ Some (3 ∷ replicate 7 0 ++ 7 ∷ replicate 7 0 ++ 1 ∷ [])
unfolding bytes_of
seven_in_seventeen = refl

fraction_in_seventeen : record_in Seventeen (number (negsuc 2) 2) ≡ Some (3 ∷ replicate 7 255 ++ 253 ∷ replicate 7 0 ++ 2 ∷ [])
unfolding bytes_of
fraction_in_seventeen = refl

row_of_two : records_in Nine (Flag false ∷ number (pos 256) 1 ∷ []) ≡ 1 ∷ replicate 8 0 ++ 5 ∷ replicate 6 0 ++ 1 ∷ 0 ∷ []
unfolding nine_bytes
row_of_two = refl

second_of_two : part_at Nine (1 ∷ replicate 8 0 ++ 5 ∷ replicate 6 0 ++ 1 ∷ 0 ∷ []) 1 ≡ 5 ∷ replicate 6 0 ++ 1 ∷ 0 ∷ []
second_of_two = refl
