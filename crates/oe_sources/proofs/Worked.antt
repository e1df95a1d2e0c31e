-- Worked values of the definitions.
use Rattle.std.specs.Prelude.{◌≡◌, ℕ, ◌+◌, true, pos, negsuc, List, [], ◌∷◌, ◌++◌, length, replicate, codes, Some, None, refl}
use Rattle.std.specs.Fmt.{digits}
use Rattle.oe_cell.specs.Exact.{gcd_of, gcd_within}
use Rattle.oe_cell.specs.declared.cell.Cell.TheVariants.{Empty, Flag, Number}
use Rattle.oe_dims.specs.Dimensions.{Dimensions}
use Rattle.oe_dims.specs.declared.kind.CellKind.TheVariants.{Numbers, Flags}
use Rattle.oe_sources.specs.CubeFile.{contents_of, width_of}
use Rattle.oe_sources.specs.Generated.{generated_cell}
use Rattle.oe_sources.specs.Head.{Head, front_bytes, header_text, record_bytes_count}
use Rattle.oe_sources.specs.StoredCell.{candidate, stored_cell}
use Rattle.oe_wide.specs.Wide.{nine_bytes}
use Rattle.oe_cell.specs.Record.{bytes_of}
use Rattle.oe_wide.specs.declared.width.Width.TheVariants.{One, Nine, Seventeen}

abbrev no_dimensions : Dimensions
no_dimensions = record { epsg = 0; t = None; bands = None; y = None; x = None }

-- the one cell -3/2 under the id Z, in version 2 and in version 1
abbrev head_two : Head
head_two = record { id = codes "Z"; kind = Numbers; widths = Some (Seventeen ∷ []); shape = no_dimensions }

abbrev head_one : Head
head_one = record { id = codes "Z"; kind = Numbers; widths = None; shape = no_dimensions }

abbrev text_two : List ℕ
text_two = codes "{\"id\":\"Z\",\"cells\":\"number\",\"widths\":[17],\"dimensions\":[]}"

header_two : header_text head_two ≡ text_two
unfolding header_text digits
header_two = refl

header_one : header_text head_one ≡ codes "{\"id\":\"Z\",\"cells\":\"number\",\"dimensions\":[]}"
unfolding header_text digits
header_one = refl

front_two : front_bytes head_two ≡ codes "OEOCUBE2" ++ 0 ∷ 0 ∷ 0 ∷ 57 ∷ text_two
unfolding header_text digits
front_two = refl

front_one_long : length (front_bytes head_one) ≡ 12 + 43
unfolding header_text digits
front_one_long = refl

abbrev minus_three_halves : List ℕ
minus_three_halves = 3 ∷ replicate 7 255 ++ 253 ∷ replicate 7 0 ++ 2 ∷ []

whole_two : length (front_bytes head_two) + record_bytes_count head_two ≡ 86
unfolding header_text digits
whole_two = refl

cell_of_two : contents_of head_two (front_bytes head_two ++ minus_three_halves) ≡ record { cells = Number (record { num = negsuc 2; den = 2 }) ∷ []; damaged = [] }
unfolding contents_of stored_cell candidate header_text digits gcd_of gcd_within bytes_of
cell_of_two = refl

-- a record with tag 4 is damaged, and so is a pair that is not in lowest terms
damaged_tag : contents_of head_one (front_bytes head_one ++ 4 ∷ replicate 16 0) ≡ record { cells = Empty ∷ []; damaged = 0 ∷ [] }
unfolding contents_of stored_cell candidate header_text digits gcd_of gcd_within bytes_of
damaged_tag = refl

damaged_pair : stored_cell Numbers Seventeen (3 ∷ replicate 7 0 ++ 2 ∷ replicate 7 0 ++ 4 ∷ []) ≡ None
unfolding stored_cell candidate gcd_of gcd_within bytes_of
damaged_pair = refl

flag_among_numbers : stored_cell Numbers One (2 ∷ []) ≡ None
unfolding stored_cell candidate
flag_among_numbers = refl

flag_among_flags : stored_cell Flags One (2 ∷ []) ≡ Some (Flag true)
unfolding stored_cell candidate
flag_among_flags = refl

whole_in_nine : stored_cell Numbers Nine (5 ∷ replicate 8 255) ≡ Some (Number (record { num = negsuc 0; den = 1 }))
unfolding stored_cell candidate gcd_of gcd_within nine_bytes
whole_in_nine = refl

too_far_in_nine : stored_cell Numbers Nine (5 ∷ 128 ∷ replicate 7 0) ≡ None
unfolding stored_cell candidate gcd_of gcd_within nine_bytes
too_far_in_nine = refl

tag_five_in_seventeen : stored_cell Numbers Seventeen (5 ∷ replicate 7 0 ++ 1 ∷ replicate 7 0 ++ 1 ∷ []) ≡ None
unfolding stored_cell candidate gcd_of gcd_within bytes_of
tag_five_in_seventeen = refl

-- two days with three pixels each: the second pixel of the second day stands behind three records of 1 byte and one of 9
abbrev two_days : Head
two_days = record {
  id = codes "Z";
  kind = Numbers;
  widths = Some (One ∷ Nine ∷ []);
  shape = record { epsg = 4326; t = Some (pos 0 ∷ pos 1 ∷ []); bands = None; y = None; x = Some (pos 0 ∷ pos 1 ∷ pos 2 ∷ []) };
}

second_width : width_of two_days 4 ≡ Nine
second_width = refl

both_sections : record_bytes_count two_days ≡ 30
both_sections = refl

-- the demonstration
first_neighbour : generated_cell 0 (record { t = 0; band = 0; y = 0; x = 1 }) ≡ Number (record { num = pos 7; den = 1 })
first_neighbour = refl

last_of_128 : generated_cell 1 (record { t = 3; band = 0; y = 127; x = 127 }) ≡ Number (record { num = pos 67; den = 1 })
last_of_128 = refl

null_of_100 : generated_cell 100 (record { t = 0; band = 0; y = 0; x = 0 }) ≡ Empty
null_of_100 = refl
