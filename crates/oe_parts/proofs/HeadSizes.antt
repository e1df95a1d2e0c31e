-- The header of a part keeps the limit of its length, where the text of the graph and the dimensions are not too long.
use Rattle.std.proofs.Common.{◌≡◌, ℕ, ◌+◌, ◌*◌, ◌/◌, ◌%◌, ◌<◌, ◌≤◌, ◌^◌, List, [], ◌∷◌, ◌++◌, length, map, codes, decimal, Bool, true, false, cond, nat_lt, arith}
use Rattle.std.specs.Char.{digit_char}
use Rattle.std.specs.List.{filter_map}
use Rattle.std.proofs.lemmas.Fmt.{length-decimal-le}
use Rattle.std.proofs.lemmas.List.{length-append}
use Rattle.json.specs.Print.{escape, escape_byte, escape_letter, quoted}
use Rattle.oe_dims.specs.Dimensions.{IsShape, all_kinds}
use Rattle.oe_dims.specs.declared.kind.CellKind.{CellKind}
use Rattle.oe_dims.specs.declared.kind.CellKind.TheVariants.{Numbers, Flags}
use Rattle.oe_render.specs.Text.{listed_text, present_text}
use Rattle.oe_render.specs.Members.{kind_word}
use Rattle.oe_parts.specs.Head.{AreSides, PartHead, chunk_total, header_text, most_header, numbers_text, sides_text}
use Rattle.oe_parts.proofs.SizeLemmas.{total_below}

-- ---- a JSON text

either_short : (b c : Bool) (letter high low x : ℕ) → length (cond b (92 ∷ letter ∷ []) (cond c (92 ∷ 117 ∷ 48 ∷ 48 ∷ high ∷ low ∷ []) (x ∷ []))) ≤ 6
either_short true c letter high low x = omega arith
either_short false true letter high low x = omega arith
either_short false false letter high low x = omega arith

byte_short : (x : ℕ) → length (escape_byte x) ≤ 6
unfolding escape_byte
byte_short x = either_short (nat_lt 0 (escape_letter x)) (nat_lt x 32) (escape_letter x) (digit_char (x / 16)) (digit_char (x % 16)) x

escape_short : (s : List ℕ) → length (escape s) ≤ 6 * length s
escape_short [] = omega arith
escape_short (x ∷ s) = omega (arith, byte_short x, escape_short s, length-append (escape_byte x) (escape s))

quoted_short : (s : List ℕ) → length (quoted s) ≤ 6 * length s + 2
quoted_short s = omega (arith, escape_short s, length-append (escape s) (34 ∷ []))

-- ---- numbers

decimal_short : (n : ℕ) → n < 2 ^ 63 → length (decimal n) ≤ 19
decimal_short n fits = length-decimal-le 19 n (omega arith) (omega (arith, fits)) (omega (arith, fits))

three_short : (a b c : ℕ) → a < 2 ^ 63 → b < 2 ^ 63 → c < 2 ^ 63 → length (numbers_text (a ∷ b ∷ c ∷ [])) ≤ 61
three_short a b c ha hb hc =
    omega (
      arith,
      decimal_short a ha,
      decimal_short b hb,
      decimal_short c hc,
      length-append (codes "[" ++ listed_text (map decimal (a ∷ b ∷ c ∷ []))) (codes "]"),
      length-append (codes "[") (listed_text (map decimal (a ∷ b ∷ c ∷ []))),
      length-append (decimal a) (44 ∷ listed_text (map decimal (b ∷ c ∷ []))),
      length-append (decimal b) (44 ∷ decimal c),
    )

two_short : (a b : ℕ) → a < 2 ^ 63 → b < 2 ^ 63 → length (numbers_text (a ∷ b ∷ [])) ≤ 41
two_short a b ha hb =
    omega (
      arith,
      decimal_short a ha,
      decimal_short b hb,
      length-append (codes "[" ++ listed_text (map decimal (a ∷ b ∷ []))) (codes "]"),
      length-append (codes "[") (listed_text (map decimal (a ∷ b ∷ []))),
      length-append (decimal a) (44 ∷ decimal b),
    )

word_short : (kind : CellKind) → length (kind_word kind) ≤ 7
word_short Numbers = omega arith
word_short Flags = omega arith

-- ---- the whole

length_six : (a b c d e f : List ℕ) → length (a ++ b ++ c ++ d ++ e ++ f) ≡ length a + length b + length c + length d + length e + length f
length_six a b c d e f =
    omega (arith, length-append (a ++ b ++ c ++ d ++ e) f, length-append (a ++ b ++ c ++ d) e, length-append (a ++ b ++ c) d, length-append (a ++ b) c, length-append a b)

length_ten : (a b c d e f g h i j : List ℕ) → length (a ++ b ++ c ++ d ++ e ++ f ++ g ++ h ++ i ++ j)
    ≡ length a + length b + length c + length d + length e + (length f + length g + length h + length i + length j)
length_ten a b c d e f g h i j =
    omega (
      arith,
      length_six (a ++ b ++ c ++ d ++ e) f g h i j,
      length-append (a ++ b ++ c ++ d) e,
      length-append (a ++ b ++ c) d,
      length-append (a ++ b) c,
      length-append a b,
    )

length_fifteen : (a b c d e f g h i j k l m n o : List ℕ) → length (a ++ b ++ c ++ d ++ e ++ f ++ g ++ h ++ i ++ j ++ k ++ l ++ m ++ n ++ o)
    ≡ length a + length b + length c + length d + length e + (length f + length g + length h + length i + length j) + (length k + length l + length m + length n + length o)
length_fifteen a b c d e f g h i j k l m n o =
    omega (arith, length_six (a ++ b ++ c ++ d ++ e ++ f ++ g ++ h ++ i ++ j) k l m n o, length_ten a b c d e f g h i j)

-- a graph of at most 1048576 bytes and dimensions of at most 8388608
pub short_header : (h : PartHead) → length h.graph ≤ 1048576 → length (listed_text (filter_map (present_text h.shape) all_kinds)) ≤ 8388608 → IsShape h.shape → AreSides h.sides → h.first < h.end → h.end ≤ chunk_total h → length (header_text h) ≤ most_header
unfolding header_text
short_header h graph dimensions shape sides some within =
    let total = total_below h sides shape in
    omega (
      arith,
      length_fifteen (codes "{\"graph\":") (quoted h.graph) (codes ",\"chunk\":") (sides_text h.sides) (codes ",\"range\":") (numbers_text (h.first ∷ h.end ∷ [])) (codes ",\"chunks\":") (decimal (chunk_total h)) (codes ",\"cells\":\"") (kind_word h.kind) (codes "\",\"dimensions\":[") (listed_text (filter_map (present_text h.shape) all_kinds)) (codes "],\"again\":") (sides_text h.sides) (codes "}"),
      quoted_short h.graph,
      graph,
      dimensions,
      three_short h.sides.x h.sides.y h.sides.t (omega (arith, sides.x.1)) (omega (arith, sides.y.1)) (omega (arith, sides.t.1)),
      two_short h.first h.end (omega (arith, total, some, within)) (omega (arith, total, within)),
      decimal_short (chunk_total h) (omega (arith, total)),
      word_short h.kind,
    )
