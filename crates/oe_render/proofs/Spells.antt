-- What the values of labels and cells spell.
use Rattle.std.proofs.Common.{◌≡◌, ◌≢◌, ℕ, ◌<◌, ◌≤◌, ◌^◌, ◌==◌, ℤ, pos, negsuc, neg_ℤ, unsigned_abs, ◌≤ℤ◌, List, [], ◌∷◌, ◌++◌, length, codes, decimal, Bool, true, false, ◌&&◌, not, nat_lt, nat_le, Some, Ok, Err, refl, sym, ap, subst, arith, lt-ltb, inl, true≢false}
use Rattle.std.specs.Prelude.{⊤, if◌then◌else◌}
use Rattle.std.specs.Fmt.{signed_decimal}
use Rattle.std.specs.Int.Signed.{le_z}
use Rattle.std.specs.List.{list_all}
use Rattle.std.proofs.lemmas.Bool.{and_parts, leb-true, eqb-true}
use Rattle.std.proofs.lemmas.Int.{ints}
use Rattle.serde_json.specs.Data.{Data, null, boolean, number, string}
use Rattle.serde_json.specs.Find.{of_integer, as_i64}
use Rattle.oe_cell.specs.Cells.{IsCell}
use Rattle.oe_cell.specs.Fraction.{Fraction, IsNumber}
use Rattle.oe_cell.specs.Spelling.{cell_text}
use Rattle.oe_cell.specs.declared.cell.Cell.{Cell}
use Rattle.oe_cell.specs.declared.cell.Cell.TheVariants.{Empty, Flag, Number, Over}
use Rattle.oe_dims.specs.Dimensions.{all_between, first_instant, last_instant, farthest_coordinate}
use Rattle.oe_dims.specs.Instant.{instant_text, instant_read, follows_pattern, is_let_stand, instant_pattern, date_pattern, instant_of, moment_in, midnight_in}
use Rattle.oe_dims.specs.Names.{is_name, is_name_byte, is_byte_in}
use Rattle.oe_dims.specs.declared.instant.InstantFault.TheVariants.{Spelling}
use Rattle.oe_dims.proofs.InstantLemmas.{instant_read-instant_text}
use Rattle.oe_render.specs.CubeText.{Each, SpellsTime, SpellsName, SpellsCoordinate, SpellsCell, whole}
use Rattle.oe_render.specs.Text.{quoted}
use Rattle.oe_render.proofs.Texts.{le_from}
use Rattle.oe_render.proofs.Leaves.{IsPlainByte, IsPlain, IsLeaf, AreLeaves, items, text_leaf, whole_leaf, plain_both, decimal_plain, signed_plain}

-- ---- plain texts

is_plain : ℕ → Bool
is_plain b = nat_le 32 b && nat_lt b 128 && not (b == 34) && not (b == 92)

abbrev all_plain : List ℕ → Bool
all_plain [] = true
all_plain (b ∷ bs) = is_plain b && all_plain bs

byte_plain : (b : ℕ) → is_plain b ≡ true → IsPlainByte b
unfolding is_plain
byte_plain b h =
    record { printed = grind (arith, h); ascii = grind (arith, h); no_quote = λ e. grind (arith, h, e); no_backslash = λ e. grind (arith, h, e) }

plain_from : (s : List ℕ) → all_plain s ≡ true → IsPlain s
plain_from [] h = tt
plain_from (b ∷ s) h = let parts = and_parts _ _ h in (byte_plain b parts.0, plain_from s parts.1)

between : (low high b : ℕ) → is_byte_in low high b ≡ true → (low ≤ b) × (b ≤ high)
between low high b h = let parts = and_parts _ _ h in (leb-true low b parts.0, leb-true b high parts.1)

let_stand_plain : (letter b : ℕ) (d : Bool) → (letter == 100) ≡ d → IsPlainByte letter → (if d then is_byte_in 48 57 b else b == letter) ≡ true → IsPlainByte b
let_stand_plain letter b true e p h =
    let digit = between 48 57 b h in
    let low = digit.0 in
    let high = digit.1 in
    record { printed = omega (arith, low); ascii = omega (arith, high); no_quote = λ e. omega (arith, low, e); no_backslash = λ e. omega (arith, high, e) }
let_stand_plain letter b false e p h = subst IsPlainByte (sym (eqb-true b letter h)) p

pattern_plain : (pattern text : List ℕ) → IsPlain pattern → follows_pattern pattern text ≡ true → IsPlain text
pattern_plain [] [] p h = tt
pattern_plain [] (b ∷ text) p h = absurd (true≢false (sym h))
pattern_plain (letter ∷ pattern) [] p h = absurd (true≢false (sym h))
pattern_plain (letter ∷ pattern) (b ∷ text) p h =
    let parts = and_parts (is_let_stand letter b) (follows_pattern pattern text) h in
    (let_stand_plain letter b (letter == 100) refl p.0 parts.0, pattern_plain pattern text p.1 parts.1)

patterns_plain : IsPlain instant_pattern × IsPlain date_pattern
unfolding is_plain
patterns_plain = (plain_from instant_pattern refl, plain_from date_pattern refl)

read_plain : (text : List ℕ) (seconds : ℤ) (long short : Bool) → follows_pattern instant_pattern text ≡ long → follows_pattern date_pattern text ≡ short
    → (if long then instant_of (moment_in text) else (if short then instant_of (midnight_in text) else Err Spelling)) ≡ Ok seconds → IsPlain text
read_plain text seconds true short e f h = pattern_plain instant_pattern text patterns_plain.0 e
read_plain text seconds false true e f h = pattern_plain date_pattern text patterns_plain.1 f
read_plain text seconds false false e f h = absurd cc

instant_plain : (text : List ℕ) (seconds : ℤ) → instant_read text ≡ Ok seconds → IsPlain text
unfolding instant_read
instant_plain text seconds h =
    read_plain text seconds (follows_pattern instant_pattern text) (follows_pattern date_pattern text) refl refl h

name_byte : (b : ℕ) → is_name_byte b ≡ true → IsPlainByte b
name_byte b h = record { printed = grind (arith, h); ascii = grind (arith, h); no_quote = λ e. grind (arith, h, e); no_backslash = λ e. grind (arith, h, e) }

name_bytes : (s : List ℕ) → list_all is_name_byte s ≡ true → IsPlain s
name_bytes [] h = tt
name_bytes (b ∷ s) h = let parts = and_parts _ _ h in (name_byte b parts.0, name_bytes s parts.1)

name_plain : (name : List ℕ) → is_name name ≡ true → IsPlain name
name_plain name h = name_bytes name (and_parts (nat_le 1 (length name) && nat_le (length name) 64) (list_all is_name_byte name) h).1

-- ---- labels

abbrev pub time_data : ℤ → Data
time_data seconds = string (instant_text seconds)

abbrev pub time_text : ℤ → List ℕ
time_text seconds = quoted (instant_text seconds)

abbrev pub whole_data : ℤ → Data
whole_data z = number (of_integer z)

pub is_between : (low high z : ℤ) → (le_z low z && le_z z high) ≡ true → (low ≤ℤ z) × (z ≤ℤ high)
is_between low high z h = let parts = and_parts (le_z low z) (le_z z high) h in (le_from low z parts.0, le_from z high parts.1)

pub time_leaves : (labels : List ℤ) → all_between first_instant last_instant labels ≡ true → AreLeaves time_data time_text labels
time_leaves [] h = tt
time_leaves (seconds ∷ labels) h =
    let parts = and_parts _ _ h in
    let range = is_between first_instant last_instant seconds parts.0 in
    (text_leaf (instant_text seconds) (instant_plain (instant_text seconds) seconds (instant_read-instant_text seconds range.0 range.1)), time_leaves labels parts.1)

pub each_time : (labels : List ℤ) → all_between first_instant last_instant labels ≡ true → Each SpellsTime (items time_data labels) labels
each_time [] h = tt
each_time (seconds ∷ labels) h =
    let parts = and_parts _ _ h in
    let range = is_between first_instant last_instant seconds parts.0 in
    ((instant_text seconds, refl, record { in_range = record { first = range.0; last = range.1 }; spelling = inl refl }), each_time labels parts.1)

pub name_leaves : (names : List (List ℕ)) → list_all is_name names ≡ true → AreLeaves string quoted names
name_leaves [] h = tt
name_leaves (name ∷ names) h = let parts = and_parts _ _ h in (text_leaf name (name_plain name parts.0), name_leaves names parts.1)

pub each_name : (names : List (List ℕ)) → Each SpellsName (items string names) names
each_name [] = tt
each_name (name ∷ names) = (refl, each_name names)

pub near : (z : ℤ) → neg_ℤ (pos 1000000000) ≤ℤ z → z ≤ℤ pos 1000000000 → unsigned_abs z < 2 ^ 63
near z low high = grind (arith, ints, low, high)

whole_back : (z : ℤ) → unsigned_abs z < 2 ^ 63 → as_i64 (of_integer z) ≡ Some z
whole_back (pos n) fits = rw (lt-ltb n (2 ^ 63) fits) refl
whole_back (negsuc n) fits = refl

abbrev pub are_near : List ℤ → Bool
are_near labels = all_between (neg_ℤ (pos farthest_coordinate)) (pos farthest_coordinate) labels

pub coordinate_leaves : (labels : List ℤ) → are_near labels ≡ true → AreLeaves whole_data signed_decimal labels
coordinate_leaves [] h = tt
coordinate_leaves (z ∷ labels) h =
    let parts = and_parts _ _ h in
    let range = is_between (neg_ℤ (pos farthest_coordinate)) (pos farthest_coordinate) z parts.0 in
    (whole_leaf z (near z range.0 range.1), coordinate_leaves labels parts.1)

pub each_coordinate : (labels : List ℤ) → are_near labels ≡ true → Each SpellsCoordinate (items whole_data labels) labels
each_coordinate [] h = tt
each_coordinate (z ∷ labels) h =
    let parts = and_parts _ _ h in
    let range = is_between (neg_ℤ (pos farthest_coordinate)) (pos farthest_coordinate) z parts.0 in
    (whole_back z (near z range.0 range.1), each_coordinate labels parts.1)

-- ---- cells

abbrev fraction_text : Fraction → List ℕ
fraction_text q = signed_decimal q.num ++ codes "/" ++ decimal q.den

abbrev number_data : Fraction → Data
number_data q = if q.den == 1 then whole_data q.num else string (fraction_text q)

abbrev pub cell_data : Cell → Data
cell_data Empty = null
cell_data (Flag b) = boolean b
cell_data (Number q) = number_data q
cell_data Over = null

slash_plain : IsPlain (codes "/")
unfolding is_plain
slash_plain = plain_from (codes "/") refl

fraction_leaf : (q : Fraction) → IsNumber q → IsLeaf (string (fraction_text q)) (codes "\"" ++ signed_decimal q.num ++ codes "/" ++ decimal q.den ++ codes "\"")
fraction_leaf q h =
    let below : q.den < 2 ^ 63 = h.den_fits in
    let plain = plain_both (signed_decimal q.num ++ codes "/") (decimal q.den) (plain_both (signed_decimal q.num) (codes "/") (signed_plain q.num h.num_fits) slash_plain) (decimal_plain q.den (omega (arith, below))) in
    text_leaf (fraction_text q) plain

number_leaf : (q : Fraction) (one : Bool) → IsNumber q → IsLeaf (if one then whole_data q.num else string (fraction_text q)) (if one then signed_decimal q.num else codes "\"" ++ signed_decimal q.num ++ codes "/" ++ decimal q.den ++ codes "\"")
number_leaf q true h = whole_leaf q.num h.num_fits
number_leaf q false h = fraction_leaf q h

cell_leaf : (c : Cell) → IsCell c → c ≢ Over → IsLeaf (cell_data c) (cell_text c)
cell_leaf Empty h other = record { written = tt; text_is = refl; shallow = refl; same = refl }
cell_leaf (Flag true) h other = record { written = tt; text_is = refl; shallow = refl; same = refl }
cell_leaf (Flag false) h other = record { written = tt; text_is = refl; shallow = refl; same = refl }
cell_leaf (Number q) h other = number_leaf q (q.den == 1) h
cell_leaf Over h other = absurd (other refl)

number_spelled : (q : Fraction) (one : Bool) → (q.den == 1) ≡ one → IsNumber q → SpellsCell (if one then whole_data q.num else string (fraction_text q)) (Number q)
number_spelled q true e h =
    let same : q ≡ whole q.num = λ i. record { num = q.num; den = eqb-true q.den 1 e i } in
    (q.num, whole_back q.num h.num_fits, subst IsNumber same h, ap Number same)
number_spelled q false e h =
    let some : 0 < q.den = h.den_positive in
    let least : 2 ≤ q.den = grind (arith, e, some) in
    (q, (h, least, refl), refl)

cell_spelled : (c : Cell) → IsCell c → c ≢ Over → SpellsCell (cell_data c) c
cell_spelled Empty h other = refl
cell_spelled (Flag b) h other = refl
cell_spelled (Number q) h other = number_spelled q (q.den == 1) refl h
cell_spelled Over h other = absurd (other refl)

-- cells that have a text, none Over
abbrev pub AreFit : List Cell → Type 0
AreFit [] = ⊤
AreFit (c ∷ cells) = IsCell c × (c ≢ Over) × AreFit cells

pub cell_leaves : (cells : List Cell) → AreFit cells → AreLeaves cell_data cell_text cells
cell_leaves [] h = tt
cell_leaves (c ∷ cells) h = (cell_leaf c h.0 h.1, cell_leaves cells h.2)

pub each_cell : (cells : List Cell) → AreFit cells → Each SpellsCell (items cell_data cells) cells
each_cell [] h = tt
each_cell (c ∷ cells) h = (cell_spelled c h.0 h.1, each_cell cells h.2)
