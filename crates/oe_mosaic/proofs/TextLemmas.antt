-- The file of a mosaic line by line, and what its names are made of.
use Rattle.std.proofs.Common.{◌≡◌, ℕ, zero, suc, ◌+◌, ◌<◌, ◌≤◌, ◌&&◌, nat_lt, Bool, true, IsTrue, List, [], ◌∷◌, ◌++◌, length, get_or, Result, Err, refl, sym, ap, ◌∙◌, arith, IsUtf8, if◌then◌else◌}
use Rattle.std.specs.List.{before_first, after_first, list_all, position_or_len}
use Rattle.std.proofs.lemmas.Bool.Decides.{nat_tests}
use Rattle.std.proofs.lemmas.Bool.{and_parts}
use Rattle.std.proofs.lemmas.List.{length_push}
use Rattle.std.proofs.lemmas.List.Splits.{slice_split_first, slice_split_none, length-slice_split}
use Rattle.std.proofs.lemmas.List.Sums.{fails_before_first}
use Rattle.std.proofs.lemmas.Str.{IsUtf8-from_ascii}
use Rattle.oe_dims.specs.Names.{is_name, is_name_byte}
use Rattle.oe_dims.specs.Lists.{is_line_feed, lines_of}
use Rattle.oe_mosaic.specs.MosaicText.{if_enough, may_follow, names_from, names_with}

-- nothing stands behind the last line feed
pub no_more : (before : List (List ℕ)) (rest : List ℕ) → length rest ≡ 0 → names_from before (lines_of rest) ≡ if_enough before
no_more before [] h = refl
no_more before (b ∷ rest) h = absurd (omega (arith, h))

step : (before : List (List ℕ)) (line : List ℕ) (lines : List (List ℕ)) → 0 < length lines
    → names_from before (line ∷ lines)
    ≡ (if may_follow before line then names_from (before ++ line ∷ []) lines else Err (length before + 1))
step before line [] h = absurd (omega (arith, h))
step before [] (next ∷ lines) h = refl
step before (b ∷ line) (next ∷ lines) h = refl

-- a line that ends with a line feed
pub one_more : (before : List (List ℕ)) (rest : List ℕ) → position_or_len is_line_feed rest < length rest
    → names_from before (lines_of rest)
    ≡ (if may_follow before (before_first is_line_feed rest)
    then names_from (before ++ before_first is_line_feed rest ∷ []) (lines_of (after_first is_line_feed rest))
    else Err (length before + 1))
one_more before rest h =
    ap (names_from before) (slice_split_first is_line_feed rest 0 h)
    ∙ step before (before_first is_line_feed rest) (lines_of (after_first is_line_feed rest))
    (omega (arith, length-slice_split is_line_feed (after_first is_line_feed rest)))

last_bad : (before : List (List ℕ)) (rest : List ℕ) → 0 < length rest → names_from before (rest ∷ []) ≡ Err (length before + 1)
last_bad before [] h = absurd (omega (arith, h))
last_bad before (b ∷ rest) h = refl

-- a line that ends with the bytes
pub cut_off : (before : List (List ℕ)) (rest : List ℕ) → position_or_len is_line_feed rest ≡ length rest → 0 < length rest
    → names_from before (lines_of rest) ≡ Err (length before + 1)
cut_off before rest h some =
    ap (names_from before) (slice_split_none is_line_feed rest (λ k d lt. fails_before_first is_line_feed rest k d (omega (arith, lt, h))))
    ∙ last_bad before rest some

-- ---- bytes that are ASCII

name_small : (b : ℕ) → IsTrue (is_name_byte b) → b < 128
name_small b is = grind (arith, nat_tests)

small : (bytes : List ℕ) → list_all is_name_byte bytes ≡ true → (i : ℕ) → get_or bytes i 0 < 128
small [] all i = omega arith
small (b ∷ bytes) all zero = name_small b (and_parts _ _ all).0
small (b ∷ bytes) all (suc i) = small bytes (and_parts _ _ all).1 i

pub name_is_utf8 : (before : List (List ℕ)) (line : List ℕ) → may_follow before line ≡ true → IsUtf8 line
name_is_utf8 before line may = IsUtf8-from_ascii line (small line (and_parts _ _ (and_parts _ _ may).0).1)

few_of : (a : Bool) (n : ℕ) → a && nat_lt n 17 ≡ true → n < 17
few_of a n h =
    let below : nat_lt n 17 ≡ true = (and_parts a (nat_lt n 17) h).1 in
    grind (arith, nat_tests)

pub may_be_few : (before : List (List ℕ)) (line : List ℕ) → may_follow before line ≡ true → length before < 17
may_be_few before line may = few_of (is_name line) (length before) may

-- ---- a line whose name was added

pub goes_on : (all : Result (List (List ℕ)) ℕ) (before after : List (List ℕ)) (rest line left : List ℕ) (added : Bool)
    → all ≡ names_from before (lines_of rest) → position_or_len is_line_feed rest < length rest
    → line ≡ before_first is_line_feed rest → left ≡ after_first is_line_feed rest
    → added ≡ may_follow before line → after ≡ names_with before line added → added ≡ true
    → (all ≡ names_from after (lines_of left)) × (length after ≡ length before + 1) × (length after ≤ 17)
goes_on all before after rest line left added so_far more is_line is_left answer names taken =
    let first = before_first is_line_feed rest in
    let others = after_first is_line_feed rest in
    let may : may_follow before line ≡ true = sym answer ∙ taken in
    let here : may_follow before first ≡ true = ap (may_follow before) (sym is_line) ∙ may in
    let grown : after ≡ before ++ line ∷ [] = names ∙ ap (names_with before line) taken in
    let counted : length after ≡ length before + 1 = ap length grown ∙ length_push before line in
    let step : names_from before (lines_of rest) ≡ names_from (before ++ first ∷ []) (lines_of others) =
    one_more before rest more
    ∙ ap (λ (b : Bool). if b then names_from (before ++ first ∷ []) (lines_of others) else Err (length before + 1)) here in
    let same : names_from after (lines_of left) ≡ names_from (before ++ first ∷ []) (lines_of others) =
    ap (λ (es : List (List ℕ)). names_from es (lines_of left)) (grown ∙ ap (λ (l : List ℕ). before ++ l ∷ []) is_line)
    ∙ ap (λ (l : List ℕ). names_from (before ++ first ∷ []) (lines_of l)) is_left in
    (so_far ∙ (step ∙ sym same), counted, omega (arith, counted, may_be_few before line may))
