-- How many bytes the text of a cube has at most.
use Rattle.std.proofs.Common.{◌≡◌, ℕ, suc, ◌+◌, ◌*◌, ◌<◌, ◌≤◌, ◌^◌, ◌==◌, ◌&&◌, nat_le, ℤ, pos, negsuc, neg_ℤ, unsigned_abs, List, [], ◌∷◌, ◌++◌, length, map, codes, decimal, Bool, true, false, Option, Some, None, is_some, refl, arith}
use Rattle.std.specs.Prelude.{if◌then◌else◌}
use Rattle.std.specs.Fmt.{signed_decimal}
use Rattle.std.specs.List.{filter_map, cons_option, list_all}
use Rattle.std.proofs.lemmas.Bool.{and_parts, leb-true}
use Rattle.std.proofs.lemmas.Fmt.{length-decimal-le}
use Rattle.std.proofs.lemmas.List.{length-append}
use Rattle.oe_cell.specs.Cells.{IsCell}
use Rattle.oe_cell.specs.Fraction.{Fraction, IsNumber}
use Rattle.oe_cell.specs.Spelling.{cell_text}
use Rattle.oe_cell.specs.declared.cell.Cell.{Cell}
use Rattle.oe_cell.specs.declared.cell.Cell.TheVariants.{Empty, Flag, Number, Over}
use Rattle.oe_dims.specs.Dimensions.{Dimensions, IsShape, all_kinds, farthest_coordinate, number_labels, band_names, label_count}
use Rattle.oe_dims.specs.Instant.{instant_text}
use Rattle.oe_dims.specs.Names.{is_name, is_name_byte}
use Rattle.oe_dims.specs.declared.kind.Kind.{Kind}
use Rattle.oe_dims.specs.declared.kind.Kind.TheVariants.{Time, Bands, Y, X}
use Rattle.oe_dims.proofs.ShapeLemmas.{bands_are_names, names_within, numbers_within, x_in_range, y_in_range}
use Rattle.oe_render.specs.Text.{listed_text, quoted, label_texts, reference_system, dimension_head, dimension_text, present_text, cube_text}
use Rattle.oe_render.proofs.Spells.{AreFit, are_near, is_between, near, time_text}
use Rattle.oe_render.proofs.WrittenCube.{epsg_of_shape}

-- the bytes of some parts, with one more for each
abbrev total : List (List ℕ) → ℕ
total [] = 0
total (part ∷ parts) = suc (length part + total parts)

listed_total : (parts : List (List ℕ)) → length (listed_text parts) ≤ total parts
listed_total [] = omega arith
listed_total (a ∷ []) = omega arith
listed_total (a ∷ b ∷ parts) = omega (arith, length-append a (44 ∷ listed_text (b ∷ parts)), listed_total (b ∷ parts))

-- ---- cells

decimal_short : (n : ℕ) → n < 2 ^ 64 → length (decimal n) ≤ 20
decimal_short n below = length-decimal-le 20 n (omega arith) (omega (arith, below)) below

signed_short : (z : ℤ) → unsigned_abs z < 2 ^ 63 → length (signed_decimal z) ≤ 21
signed_short (pos n) below = omega (arith, decimal_short n (omega (arith, below)))
signed_short (negsuc n) below = omega (arith, decimal_short (suc n) (omega (arith, below)))

fraction_short : (num den : List ℕ) → length num ≤ 21 → length den ≤ 20 → length (codes "\"" ++ num ++ codes "/" ++ den ++ codes "\"") ≤ 44
fraction_short num den a b =
    omega (arith, length-append (num ++ codes "/" ++ den) (codes "\""), length-append (num ++ codes "/") den, length-append num (codes "/"), a, b)

number_short : (q : Fraction) (whole : Bool) → IsNumber q → length (if whole then signed_decimal q.num else codes "\"" ++ signed_decimal q.num ++ codes "/" ++ decimal q.den ++ codes "\"") ≤ 44
number_short q true h = omega (arith, signed_short q.num h.num_fits)
number_short q false h =
    let below : q.den < 2 ^ 63 = h.den_fits in
    fraction_short (signed_decimal q.num) (decimal q.den) (signed_short q.num h.num_fits) (decimal_short q.den (omega (arith, below)))

cell_short : (c : Cell) → IsCell c → length (cell_text c) ≤ 44
cell_short Empty h = omega arith
cell_short (Flag true) h = omega arith
cell_short (Flag false) h = omega arith
cell_short (Number q) h = number_short q (q.den == 1) h
cell_short Over h = omega arith

cells_total : (cells : List Cell) → AreFit cells → total (map cell_text cells) ≤ 45 * length cells
cells_total [] h = omega arith
cells_total (c ∷ cells) h = omega (arith, cell_short c h.0, cells_total cells h.2)

-- ---- labels

quoted_length : (text : List ℕ) → length (quoted text) ≡ length text + 2
quoted_length text = omega (arith, length-append text (codes "\""))

time_length : (seconds : ℤ) → length (instant_text seconds) ≡ 20
unfolding instant_text
time_length seconds = refl

times_total : (labels : List ℤ) → total (map time_text labels) ≤ 70 * length labels
times_total [] = omega arith
times_total (seconds ∷ labels) =
    omega (arith, quoted_length (instant_text seconds), time_length seconds, times_total labels)

pub name_short : (name : List ℕ) → is_name name ≡ true → length name ≤ 64
name_short name h =
    let parts = and_parts (nat_le 1 (length name) && nat_le (length name) 64) (list_all is_name_byte name) h in
    leb-true (length name) 64 (and_parts (nat_le 1 (length name)) (nat_le (length name) 64) parts.0).1

names_total : (names : List (List ℕ)) → list_all is_name names ≡ true → total (map quoted names) ≤ 70 * length names
names_total [] h = omega arith
names_total (name ∷ names) h =
    let parts = and_parts (is_name name) (list_all is_name names) h in
    omega (arith, quoted_length name, name_short name parts.0, names_total names parts.1)

coordinates_total : (labels : List ℤ) → are_near labels ≡ true → total (map signed_decimal labels) ≤ 70 * length labels
coordinates_total [] h = omega arith
coordinates_total (z ∷ labels) h =
    let parts = and_parts _ _ h in
    let range = is_between (neg_ℤ (pos farthest_coordinate)) (pos farthest_coordinate) z parts.0 in
    omega (arith, signed_short z (near z range.0 range.1), coordinates_total labels parts.1)

-- 65536 labels of at most 70 bytes each, with their commas
labels_short : (d : Dimensions) (kind : Kind) → IsShape d → length (listed_text (label_texts d kind)) ≤ 4587520
labels_short d Time h = omega (arith, listed_total (label_texts d Time), times_total (number_labels d Time), numbers_within d Time h)
labels_short d Bands h = omega (arith, listed_total (label_texts d Bands), names_total (band_names d) (bands_are_names d h), names_within d h)
labels_short d Y h = omega (arith, listed_total (label_texts d Y), coordinates_total (number_labels d Y) (y_in_range d h), numbers_within d Y h)
labels_short d X h = omega (arith, listed_total (label_texts d X), coordinates_total (number_labels d X) (x_in_range d h), numbers_within d X h)

-- ---- dimensions

system_short : (d : Dimensions) → IsShape d → length (reference_system d) ≤ 50
system_short d h =
    let few = epsg_of_shape d h in
    omega (arith, length-append (decimal d.epsg) (codes ","), decimal_short d.epsg (omega (arith, few)))

front_short : (d : Dimensions) (kind : Kind) → IsShape d → length (dimension_head d kind) ≤ 100
front_short d Time h = omega arith
front_short d Bands h = omega arith
front_short d Y h = omega (arith, system_short d h)
front_short d X h = omega (arith, system_short d h)

dimension_short : (d : Dimensions) (kind : Kind) → IsShape d → length (dimension_text d kind) ≤ 4587700
dimension_short d kind h =
    let labels = listed_text (label_texts d kind) in
    omega (arith, length-append (dimension_head d kind ++ codes "\"labels\":[" ++ labels) (codes "]}"), length-append (dimension_head d kind ++ codes "\"labels\":[") labels, length-append (dimension_head d kind) (codes "\"labels\":["), front_short d kind h, labels_short d kind h)

abbrev size_of : Option (List ℕ) → ℕ
size_of None = 0
size_of (Some text) = length text

size_if : (there : Bool) (text : List ℕ) (most : ℕ) → length text ≤ most → size_of (if there then Some text else None) ≤ most
size_if true text most h = h
size_if false text most h = omega arith

present_short : (d : Dimensions) (kind : Kind) → IsShape d → size_of (present_text d kind) ≤ 4587700
present_short d kind h = size_if (is_some (label_count d kind)) (dimension_text d kind) 4587700 (dimension_short d kind h)

total_option : (part : Option (List ℕ)) (parts : List (List ℕ)) → total (cons_option part parts) ≤ suc (size_of part + total parts)
total_option None parts = omega arith
total_option (Some part) parts = omega arith

four_total : (a b c d : Option (List ℕ)) (most : ℕ) → size_of a ≤ most → size_of b ≤ most → size_of c ≤ most → size_of d ≤ most
    → total (cons_option a (cons_option b (cons_option c (cons_option d [])))) ≤ 4 + 4 * most
four_total a b c d most p q r s =
    omega (arith, p, q, r, s, total_option a (cons_option b (cons_option c (cons_option d []))), total_option b (cons_option c (cons_option d [])), total_option c (cons_option d []), total_option d [])

dimensions_short : (d : Dimensions) → IsShape d → length (listed_text (filter_map (present_text d) all_kinds)) ≤ 18350804
dimensions_short d h =
    let all = four_total (present_text d Time) (present_text d Bands) (present_text d Y) (present_text d X) 4587700 (present_short d Time h) (present_short d Bands h) (present_short d Y h) (present_short d X h) in
    omega (arith, listed_total (filter_map (present_text d) all_kinds), all)

-- ---- the whole text

abbrev whole : List ℕ → List ℕ → List ℕ
whole dimensions cells =
    codes "{\"type\":\"FractionCube\",\"dimensions\":[" ++ dimensions ++ codes "],\"data\":[" ++ cells ++ codes "]}"

whole_short : (dimensions cells : List ℕ) → length dimensions ≤ 18350804 → length cells ≤ 45 * 1099511627776 → length (whole dimensions cells) < 2 ^ 64
whole_short dimensions cells a b =
    omega (arith, a, b, length-append (dimensions ++ codes "],\"data\":[" ++ cells) (codes "]}"), length-append (dimensions ++ codes "],\"data\":[") cells, length-append dimensions (codes "],\"data\":["))

pub text_short : (d : Dimensions) (cells : List Cell) → IsShape d → AreFit cells → length cells ≤ 2 ^ 40 → length (cube_text (record { shape = d; cells = cells })) < 2 ^ 64
unfolding cube_text
text_short d cells valid fit few =
    let parts = map cell_text cells in
    let most : length (listed_text parts) ≤ 45 * 1099511627776 = omega (arith, listed_total parts, cells_total cells fit, few) in
    whole_short (listed_text (filter_map (present_text d) all_kinds)) (listed_text parts) (dimensions_short d valid) most
