-- The header of every valid head keeps the limit of its length.
use Rattle.std.proofs.Common.{◌≡◌, ℕ, zero, suc, ◌+◌, ◌*◌, ◌≤◌, ◌||◌, ℤ, pos, negsuc, neg_ℤ, unsigned_abs, ◌≤ℤ◌, List, [], ◌∷◌, ◌++◌, length, map, codes, decimal, Bool, true, false, Option, Some, None, is_some, IfSome, refl, ap, arith}
use Rattle.std.specs.Prelude.{⊤, if◌then◌else◌}
use Rattle.std.specs.Fmt.{signed_decimal}
use Rattle.std.specs.Int.Signed.{le_z}
use Rattle.std.specs.List.{filter_map, list_all}
use Rattle.std.proofs.Math.Nat.{mul-suc}
use Rattle.std.proofs.lemmas.Bool.{and_parts}
use Rattle.std.proofs.lemmas.Fmt.{length-decimal-le, length_signed_le}
use Rattle.std.proofs.lemmas.Int.{ints}
use Rattle.std.proofs.lemmas.List.{length-append, length-map}
use Rattle.oe_dims.specs.Dimensions.{Dimensions, IsShape, all_kinds, band_names, farthest_coordinate, extent, label_count, number_labels}
use Rattle.oe_dims.specs.Instant.{instant_text}
use Rattle.oe_dims.specs.Names.{is_name}
use Rattle.oe_dims.specs.declared.kind.CellKind.{CellKind}
use Rattle.oe_dims.specs.declared.kind.CellKind.TheVariants.{Numbers, Flags}
use Rattle.oe_dims.specs.declared.kind.Kind.{Kind}
use Rattle.oe_dims.specs.declared.kind.Kind.TheVariants.{Time, Bands, Y, X}
use Rattle.oe_dims.proofs.ShapeLemmas.{bands_are_names, extents_of_shape, fitting_epsg, names_within, numbers_within, x_in_range, y_in_range}
use Rattle.oe_render.specs.Text.{listed_text, quoted, separator, part_text, parts_after, dimension_head, dimension_text, label_texts, present_text}
use Rattle.oe_render.specs.Members.{kind_word}
use Rattle.oe_render.proofs.Texts.{le_from, listed_four}
use Rattle.oe_render.proofs.Spells.{are_near}
use Rattle.oe_render.proofs.WrittenCube.{epsg_within}
use Rattle.oe_render.proofs.Lengths.{name_short}
use Rattle.oe_sources.specs.Head.{Head, IsHead, header_text, most_header, widths_text}
use Rattle.oe_sources.specs.HeadRead.{HasWidthsOf, IsHeadOf}
use Rattle.oe_sources.specs.declared.head.Version.{Version}
use Rattle.oe_sources.specs.declared.head.Version.TheVariants.{First, Second}
use Rattle.oe_sources.proofs.SizeLemmas.{byte_count_most}
use Rattle.oe_wide.specs.Wide.{byte_count}
use Rattle.oe_wide.specs.declared.width.Width.{Width}

-- ---- lists of short texts

abbrev AreShort : ℕ → List (List ℕ) → Type 0
AreShort most [] = ⊤
AreShort most (part ∷ parts) = (length part ≤ most) × AreShort most parts

listed_short : (most : ℕ) (parts : List (List ℕ)) → AreShort most parts → length (listed_text parts) ≤ (most + 1) * length parts
listed_short most [] h = omega arith
listed_short most (a ∷ []) h = omega (arith, h.0)
listed_short most (a ∷ b ∷ parts) h =
    omega (arith, h.0, listed_short most (b ∷ parts) h.1, length-append a (44 ∷ listed_text (b ∷ parts)), mul-suc (most + 1) (length (b ∷ parts)))

abbrev quote : List ℕ
quote = codes "\""

length_quoted : (text : List ℕ) → length (quoted text) ≡ length text + 2
length_quoted text = omega (arith, length-append (quote ++ text) quote, length-append quote text)

-- ---- labels

length_instant : (seconds : ℤ) → length (instant_text seconds) ≡ 20
unfolding instant_text
length_instant seconds = refl

short_instants : (labels : List ℤ) → AreShort 22 (map (λ label. quoted (instant_text label)) labels)
short_instants [] = tt
short_instants (l ∷ labels) = (omega (arith, length_quoted (instant_text l), length_instant l), short_instants labels)

short_names : (names : List (List ℕ)) → list_all is_name names ≡ true → AreShort 66 (map quoted names)
short_names [] h = tt
short_names (name ∷ names) h =
    let parts = and_parts (is_name name) (list_all is_name names) h in
    (omega (arith, length_quoted name, name_short name parts.0), short_names names parts.1)

near : (z : ℤ) → neg_ℤ (pos 1000000000) ≤ℤ z → z ≤ℤ pos 1000000000 → unsigned_abs z ≤ 1000000000
near z low high = grind (arith, ints, low, high)

coordinate_short : (z : ℤ) → neg_ℤ (pos 1000000000) ≤ℤ z → z ≤ℤ pos 1000000000 → length (signed_decimal z) ≤ 11
coordinate_short (pos n) low high =
    let size = near (pos n) low high in
    length_signed_le 10 (pos n) (omega (arith, size)) (omega (arith, size))
coordinate_short (negsuc n) low high =
    let size = near (negsuc n) low high in
    length_signed_le 10 (negsuc n) (omega (arith, size)) (omega (arith, size))

short_coordinates : (labels : List ℤ) → are_near labels ≡ true → AreShort 11 (map signed_decimal labels)
short_coordinates [] h = tt
short_coordinates (z ∷ labels) h =
    let parts = and_parts _ _ h in
    let ends = and_parts (le_z (neg_ℤ (pos farthest_coordinate)) z) (le_z z (pos farthest_coordinate)) parts.0 in
    (coordinate_short z (le_from _ z ends.0) (le_from z _ ends.1), short_coordinates labels parts.1)

-- ---- dimensions

length_four : (a b c d : List ℕ) → length (a ++ b ++ c ++ d) ≡ length a + length b + length c + length d
length_four a b c d =
    omega (arith, length-append (a ++ b ++ c) d, length-append (a ++ b) c, length-append a b)

epsg_short : (d : Dimensions) → IsShape d → length (decimal d.epsg) ≤ 6
epsg_short d valid =
    let fits = epsg_within d (is_some d.y || is_some d.x) (fitting_epsg d valid) in
    length-decimal-le 6 d.epsg (omega arith) (omega (arith, fits)) (omega (arith, fits))

head_short : (d : Dimensions) (kind : Kind) → IsShape d → length (dimension_head d kind) ≤ 100
head_short d Time valid = omega arith
head_short d Bands valid = omega arith
head_short d Y valid =
    omega (
      arith,
      epsg_short d valid,
      length-append (codes "{\"name\":\"y\",\"type\":\"spatial\",\"axis\":\"y\",") (codes "\"reference_system\":" ++ decimal d.epsg ++ codes ","),
      length-append (codes "\"reference_system\":" ++ decimal d.epsg) (codes ","),
      length-append (codes "\"reference_system\":") (decimal d.epsg),
    )
head_short d X valid =
    omega (
      arith,
      epsg_short d valid,
      length-append (codes "{\"name\":\"x\",\"type\":\"spatial\",\"axis\":\"x\",") (codes "\"reference_system\":" ++ decimal d.epsg ++ codes ","),
      length-append (codes "\"reference_system\":" ++ decimal d.epsg) (codes ","),
      length-append (codes "\"reference_system\":") (decimal d.epsg),
    )

-- the labels of a dimension have at most so many bytes
abbrev most_of : Kind → ℕ
most_of Time = 23 * 65536
most_of Bands = 67 * 65536
most_of Y = 12 * 65536
most_of X = 12 * 65536

labels_short : (d : Dimensions) (kind : Kind) → IsShape d → length (listed_text (label_texts d kind)) ≤ most_of kind
labels_short d Time valid =
    omega (arith, listed_short 22 (label_texts d Time) (short_instants (number_labels d Time)), length-map (number_labels d Time) (λ label. quoted (instant_text label)), numbers_within d Time valid)
labels_short d Bands valid =
    omega (arith, listed_short 66 (label_texts d Bands) (short_names (band_names d) (bands_are_names d valid)), length-map (band_names d) quoted, names_within d valid)
labels_short d Y valid =
    omega (arith, listed_short 11 (label_texts d Y) (short_coordinates (number_labels d Y) (y_in_range d valid)), length-map (number_labels d Y) signed_decimal, numbers_within d Y valid)
labels_short d X valid =
    omega (arith, listed_short 11 (label_texts d X) (short_coordinates (number_labels d X) (x_in_range d valid)), length-map (number_labels d X) signed_decimal, numbers_within d X valid)

dimension_short : (d : Dimensions) (kind : Kind) → IsShape d → length (dimension_text d kind) ≤ most_of kind + 120
dimension_short d kind valid =
    omega (arith, head_short d kind valid, labels_short d kind valid, length_four (dimension_head d kind) (codes "\"labels\":[") (listed_text (label_texts d kind)) (codes "]}"))

separator_short : (sent : ℕ) → length (separator sent) ≤ 1
separator_short zero = omega arith
separator_short (suc sent) = omega arith

part_short : (there : Bool) (text : List ℕ) (sent : ℕ) → length (part_text (if there then Some text else None) sent) ≤ length text + 1
part_short true text sent = omega (arith, separator_short sent, length-append (separator sent) text)
part_short false text sent = omega arith

kind_short : (d : Dimensions) (kind : Kind) (sent : ℕ) → IsShape d → length (part_text (present_text d kind) sent) ≤ most_of kind + 121
kind_short d kind sent valid =
    omega (arith, part_short (is_some (label_count d kind)) (dimension_text d kind) sent, dimension_short d kind valid)

dimensions_short : (d : Dimensions) → IsShape d → length (listed_text (filter_map (present_text d) all_kinds)) ≤ 114 * 65536 + 484
dimensions_short d valid =
    let t = present_text d Time in
    let bands = present_text d Bands in
    let y = present_text d Y in
    let x = present_text d X in
    let after_t = parts_after t 0 in
    let after_b = parts_after bands after_t in
    let after_y = parts_after y after_b in
    let same = ap length (listed_four t bands y x) in
    omega (
      arith,
      same,
      length_four (part_text t 0) (part_text bands after_t) (part_text y after_b) (part_text x after_y),
      kind_short d Time 0 valid,
      kind_short d Bands after_t valid,
      kind_short d Y after_b valid,
      kind_short d X after_y valid,
    )

-- ---- the header

width_short : (w : Width) → length (decimal (byte_count w)) ≤ 2
width_short w =
    let most = byte_count_most w in
    length-decimal-le 2 (byte_count w) (omega arith) (omega (arith, most)) (omega (arith, most))

short_widths : (ws : List Width) → AreShort 2 (map (λ w. decimal (byte_count w)) ws)
short_widths [] = tt
short_widths (w ∷ ws) = (width_short w, short_widths ws)

widths_short : (version : Version) (n : ℕ) (ws : Option (List Width)) → HasWidthsOf version n ws → n ≤ 65536 → length (widths_text ws) ≤ 3 * 65536 + 12
widths_short version n None h most = omega arith
widths_short First n (Some ws) h most = absurd h
widths_short Second n (Some ws) h most =
    let text = listed_text (map (λ w. decimal (byte_count w)) ws) in
    omega (
      arith,
      h,
      listed_short 2 (map (λ w. decimal (byte_count w)) ws) (short_widths ws),
      length-map ws (λ w. decimal (byte_count w)),
      length-append (codes "\"widths\":[" ++ text) (codes "],"),
      length-append (codes "\"widths\":[") text,
    )

kind_word_short : (kind : CellKind) → length (kind_word kind) ≤ 7
kind_word_short Numbers = omega arith
kind_word_short Flags = omega arith

length_nine : (a b c d e f g h i : List ℕ) → length (a ++ b ++ c ++ d ++ e ++ f ++ g ++ h ++ i) ≡ length a + length b + length c + length d + length e + length f + length g + length h + length i
length_nine a b c d e f g h i =
    omega (
      arith,
      length-append (a ++ b ++ c ++ d ++ e ++ f ++ g ++ h) i,
      length-append (a ++ b ++ c ++ d ++ e ++ f ++ g) h,
      length-append (a ++ b ++ c ++ d ++ e ++ f) g,
      length-append (a ++ b ++ c ++ d ++ e) f,
      length_four (a ++ b) c d e,
      length-append a b,
    )

-- a valid header has at most 8388608 bytes
pub header_short : (version : Version) (h : Head) → IsHeadOf version h → length (header_text h) ≤ most_header
unfolding header_text
header_short version h valid =
    omega (
      arith,
      length_nine (codes "{\"id\":") (quoted h.id) (codes ",\"cells\":") (quoted (kind_word h.kind)) (codes ",") (widths_text h.widths) (codes "\"dimensions\":[") (listed_text (filter_map (present_text h.shape) all_kinds)) (codes "]}"),
      length_quoted h.id,
      name_short h.id valid.id,
      length_quoted (kind_word h.kind),
      kind_word_short h.kind,
      widths_short version (extent h.shape.t) h.widths valid.widths (extents_of_shape h.shape valid.shape).t,
      dimensions_short h.shape valid.shape,
    )

-- ---- valid heads

some_widths : (version : Version) (n : ℕ) (ws : Option (List Width)) → HasWidthsOf version n ws → IfSome ws (λ w. length w ≡ n)
some_widths version n None h = tt
some_widths First n (Some ws) h = absurd h
some_widths Second n (Some ws) h = h

-- a head that is read is valid
pub head_of_version : (version : Version) (h : Head) → IsHeadOf version h → IsHead h
head_of_version version h valid = record {
  id = valid.id;
  shape = valid.shape;
  widths = some_widths version (extent h.shape.t) h.widths valid.widths;
  short = header_short version h valid;
}

-- and so does that of a file with these widths
pub packed_short : (id : List ℕ) (shape : Dimensions) (kind : CellKind) (widths : List Width) → is_name id ≡ true → IsShape shape → length widths ≡ extent shape.t → length (header_text (record { id = id; kind = kind; widths = Some widths; shape = shape })) ≤ most_header
packed_short id shape kind widths named valid counted =
    header_short Second (record { id = id; kind = kind; widths = Some widths; shape = shape }) (record { id = named; shape = valid; widths = counted })
