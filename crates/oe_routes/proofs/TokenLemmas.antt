-- A file of tokens line by line, and what its entries are made of.
use Rattle.std.proofs.Common.{◌≡◌, ℕ, zero, suc, ◌+◌, ◌<◌, ◌≤◌, ◌&&◌, nat_lt, not, Bool, true, IsTrue, List, [], ◌∷◌, ◌++◌, length, get_or, Result, Ok, Err, refl, sym, ap, ◌∙◌, arith, IsUtf8, if◌then◌else◌}
use Rattle.std.specs.List.{before_first, after_first, list_all, list_any, position_or_len}
use Rattle.std.proofs.lemmas.Bool.Decides.{nat_tests}
use Rattle.std.proofs.lemmas.List.{length_push}
use Rattle.std.proofs.lemmas.List.Splits.{slice_split_first, slice_split_none, length-slice_split}
use Rattle.std.proofs.lemmas.List.Sums.{fails_before_first}
use Rattle.std.proofs.lemmas.Str.{IsUtf8-from_ascii}
use Rattle.oe_dims.specs.Names.{is_byte_in}
use Rattle.oe_dims.specs.Lists.{is_line_feed, lines_of}
use Rattle.std.proofs.lemmas.Bool.{and_parts}
use Rattle.oe_routes.specs.Tokens.{Adds, Entry, entries_from, entry_in, has_token, has_user, is_id, is_id_byte, is_token, may_follow}

-- nothing stands behind the last line feed
pub no_more : (before : List Entry) (rest : List ℕ) → length rest ≡ 0 → entries_from before (lines_of rest) ≡ Ok before
no_more before [] h = refl
no_more before (b ∷ rest) h = absurd (omega (arith, h))

step : (before : List Entry) (line : List ℕ) (lines : List (List ℕ)) → 0 < length lines
    → entries_from before (line ∷ lines)
    ≡ (if may_follow before (entry_in line) then entries_from (before ++ entry_in line ∷ []) lines else Err (length before + 1))
step before line [] h = absurd (omega (arith, h))
step before [] (next ∷ lines) h = refl
step before (b ∷ line) (next ∷ lines) h = refl

-- a line that ends with a line feed
pub one_more : (before : List Entry) (rest : List ℕ) → position_or_len is_line_feed rest < length rest
    → entries_from before (lines_of rest)
    ≡ (if may_follow before (entry_in (before_first is_line_feed rest))
    then entries_from (before ++ entry_in (before_first is_line_feed rest) ∷ []) (lines_of (after_first is_line_feed rest))
    else Err (length before + 1))
one_more before rest h =
    ap (entries_from before) (slice_split_first is_line_feed rest 0 h)
    ∙ step before (before_first is_line_feed rest) (lines_of (after_first is_line_feed rest))
    (omega (arith, length-slice_split is_line_feed (after_first is_line_feed rest)))

last_bad : (before : List Entry) (rest : List ℕ) → 0 < length rest → entries_from before (rest ∷ []) ≡ Err (length before + 1)
last_bad before [] h = absurd (omega (arith, h))
last_bad before (b ∷ rest) h = refl

-- a line that ends with the bytes
pub cut_off : (before : List Entry) (rest : List ℕ) → position_or_len is_line_feed rest ≡ length rest → 0 < length rest
    → entries_from before (lines_of rest) ≡ Err (length before + 1)
cut_off before rest h some =
    ap (entries_from before) (slice_split_none is_line_feed rest (λ k d lt. fails_before_first is_line_feed rest k d (omega (arith, lt, h))))
    ∙ last_bad before rest some

-- ---- bytes that are ASCII

id_small : (b : ℕ) → IsTrue (is_id_byte b) → b < 128
id_small b is = grind (arith, nat_tests)

printed_small : (b : ℕ) → IsTrue (is_byte_in 33 126 b) → b < 128
printed_small b is = grind (arith, nat_tests)

small : (p : ℕ → Bool) → ((b : ℕ) → IsTrue (p b) → b < 128) → (bytes : List ℕ) → list_all p bytes ≡ true
    → (i : ℕ) → get_or bytes i 0 < 128
small p below [] all i = omega arith
small p below (b ∷ bytes) all zero = below b (and_parts _ _ all).0
small p below (b ∷ bytes) all (suc i) = small p below bytes (and_parts _ _ all).1 i

ids_are_utf8 : (text : List ℕ) → is_id text ≡ true → IsUtf8 text
ids_are_utf8 text is = IsUtf8-from_ascii text (small is_id_byte id_small text (and_parts _ _ is).1)

tokens_are_utf8 : (token : List ℕ) → is_token token ≡ true → IsUtf8 token
tokens_are_utf8 token is = IsUtf8-from_ascii token (small (is_byte_in 33 126) printed_small token (and_parts _ _ is).1)

-- ---- an entry that may stand behind others

pub user_is_utf8 : (before : List Entry) (user token : List ℕ) → may_follow before (user, token) ≡ true → IsUtf8 user
user_is_utf8 before user token may = ids_are_utf8 user (and_parts _ _ (and_parts _ _ (and_parts _ _ (and_parts _ _ may).0).0).0).0

pub token_is_utf8 : (before : List Entry) (user token : List ℕ) → may_follow before (user, token) ≡ true → IsUtf8 token
token_is_utf8 before user token may = tokens_are_utf8 token (and_parts _ _ (and_parts _ _ (and_parts _ _ (and_parts _ _ may).0).0).0).1

few_of : (a b c : Bool) (n : ℕ) → a && nat_lt n 8 && b && c ≡ true → n < 8
few_of a b c n h =
    let below : nat_lt n 8 ≡ true = (and_parts a (nat_lt n 8) (and_parts (a && nat_lt n 8) b (and_parts (a && nat_lt n 8 && b) c h).0).0).1 in
    grind (arith, nat_tests)

pub may_be_few : (before : List Entry) (entry : Entry) → may_follow before entry ≡ true → length before < 8
may_be_few before entry may =
    few_of (is_id entry.0 && is_token entry.1) (not (list_any (has_user entry.0) before)) (not (list_any (has_token entry.1) before))
    (length before) may

-- ---- a line whose entry was added

pub goes_on : (all : Result (List Entry) ℕ) (before after : List Entry) (rest line left : List ℕ) (added : Bool)
    → all ≡ entries_from before (lines_of rest) → position_or_len is_line_feed rest < length rest
    → line ≡ before_first is_line_feed rest → left ≡ after_first is_line_feed rest
    → Adds line before added after → added ≡ true
    → (all ≡ entries_from after (lines_of left)) × (length after ≡ length before + 1) × (length after ≤ 8)
goes_on all before after rest line left added so_far more is_line is_left a taken =
    let first = before_first is_line_feed rest in
    let others = after_first is_line_feed rest in
    let may : may_follow before (entry_in line) ≡ true = sym a.answer ∙ taken in
    let here : may_follow before (entry_in first) ≡ true = ap (λ (l : List ℕ). may_follow before (entry_in l)) (sym is_line) ∙ may in
    let grown : after ≡ before ++ entry_in line ∷ [] =
    a.entries ∙ ap (λ (b : Bool). if b then before ++ entry_in line ∷ [] else before) taken in
    let counted : length after ≡ length before + 1 = ap length grown ∙ length_push before (entry_in line) in
    let step : entries_from before (lines_of rest) ≡ entries_from (before ++ entry_in first ∷ []) (lines_of others) =
    one_more before rest more
    ∙ ap (λ (b : Bool). if b then entries_from (before ++ entry_in first ∷ []) (lines_of others) else Err (length before + 1)) here in
    let same : entries_from after (lines_of left) ≡ entries_from (before ++ entry_in first ∷ []) (lines_of others) =
    ap (λ (es : List Entry). entries_from es (lines_of left)) (grown ∙ ap (λ (l : List ℕ). before ++ entry_in l ∷ []) is_line)
    ∙ ap (λ (l : List ℕ). entries_from (before ++ entry_in first ∷ []) (lines_of l)) is_left in
    (so_far ∙ (step ∙ sym same), counted, omega (arith, counted, may_be_few before (entry_in line) may))
