-- Visible bytes: they may stand in a target and in a value, and are ASCII.
use Rattle.std.proofs.Common.{◌≡◌, ◌≢◌, ℕ, zero, suc, ◌<◌, ◌≤◌, ◌==◌, ◌||◌, false, IsTrue, List, [], ◌∷◌, length, get_or, reverse, refl, arith, IsUtf8, decimal, ◌^◌}
use Rattle.std.proofs.lemmas.Bool.Decides.{nat_tests}
use Rattle.std.proofs.lemmas.List.Elements.{All-weaker}
use Rattle.std.proofs.lemmas.Str.{IsUtf8-from_ascii}
use Rattle.std.proofs.lemmas.Fmt.{decimal_is_IsNumeral, length-decimal-le}
use Rattle.std.specs.Char.{digit_value, is_ascii_digit}
use Rattle.std.specs.Str.Parse.{AllDigits, digits_value}
use Rattle.httparse.specs.Grammar.{AllPass, is_ows, is_uri_byte, is_value_byte, skip_ows, trim_ows}
use Rattle.httparse.proofs.TrimLemmas.{AllPass-reverse, trim_ows_space}
use Rattle.oe_http.specs.Again.{blank, is_path_byte, is_visible}
use Rattle.oe_http.specs.Fields.{IsLengthText}
use Rattle.oe_http.specs.Requests.{question_mark}

visible_value : (b : ℕ) → IsTrue (is_visible b) → IsTrue (is_value_byte b)
visible_value b is = grind (arith, nat_tests)

visible_uri : (b : ℕ) → IsTrue (is_visible b) → IsTrue (is_uri_byte b)
visible_uri b is = grind (arith, nat_tests)

path_visible : (b : ℕ) → IsTrue (is_path_byte b) → IsTrue (is_visible b)
path_visible b is = grind (arith, nat_tests)

path_no_mark : (b : ℕ) → IsTrue (is_path_byte b) → b ≢ question_mark
path_no_mark b is = grind (arith, nat_tests)

credential_value : (b : ℕ) → IsTrue (b == blank || is_visible b) → IsTrue (is_value_byte b)
credential_value b is = grind (arith, nat_tests)

visible_small : (b : ℕ) → IsTrue (is_visible b) → b < 128
visible_small b is = grind (arith, nat_tests)

credential_small : (b : ℕ) → IsTrue (b == blank || is_visible b) → b < 128
credential_small b is = grind (arith, nat_tests)

pub all_value : (bytes : List ℕ) → AllPass is_visible bytes → AllPass is_value_byte bytes
all_value bytes pass = All-weaker _ _ visible_value bytes pass

pub all_uri : (bytes : List ℕ) → AllPass is_visible bytes → AllPass is_uri_byte bytes
all_uri bytes pass = All-weaker _ _ visible_uri bytes pass

pub all_visible : (bytes : List ℕ) → AllPass is_path_byte bytes → AllPass is_visible bytes
all_visible bytes pass = All-weaker _ _ path_visible bytes pass

pub credentials_value : (bytes : List ℕ) → AllPass (λ b. b == blank || is_visible b) bytes → AllPass is_value_byte bytes
credentials_value bytes pass = All-weaker _ _ credential_value bytes pass

-- no question mark stands in a path
pub no_mark : (bytes : List ℕ) → AllPass is_path_byte bytes → (i : ℕ) → i < length bytes → get_or bytes i 0 ≢ question_mark
no_mark bytes pass i lt = path_no_mark (get_or bytes i 0) (pass i 0 lt)

-- bytes below 128 are UTF-8
small_utf8 : (bytes : List ℕ) → ((i : ℕ) → i < length bytes → get_or bytes i 0 < 128) → IsUtf8 bytes
small_utf8 bytes small = IsUtf8-from_ascii bytes (λ i. at i)
  where
    outside : (bs : List ℕ) (i : ℕ) → length bs ≤ i → get_or bs i 0 < 128
    outside [] i le = omega arith
    outside (b ∷ bs) zero le = absurd (omega (arith, le))
    outside (b ∷ bs) (suc i) le = outside bs i (omega (arith, le))

    at : (i : ℕ) → get_or bytes i 0 < 128
    at i = grind (arith, small i, outside bytes i)

pub visible_utf8 : (bytes : List ℕ) → AllPass is_visible bytes → IsUtf8 bytes
visible_utf8 bytes pass = small_utf8 bytes (λ i lt. visible_small (get_or bytes i 0) (pass i 0 lt))

pub credentials_utf8 : (bytes : List ℕ) → AllPass (λ b. b == blank || is_visible b) bytes → IsUtf8 bytes
credentials_utf8 bytes pass = small_utf8 bytes (λ i lt. credential_small (get_or bytes i 0) (pass i 0 lt))

-- the digits of a decimal
digit_test : (c : ℕ) → digit_value c < 10 → IsTrue (is_ascii_digit c)
digit_test c small = grind (arith, nat_tests)

digits_pass : (digits : List ℕ) → AllDigits 10 digits → AllPass is_ascii_digit digits
digits_pass [] all k d lt = absurd (omega (arith, lt))
digits_pass (c ∷ digits) all zero d lt = digit_test c all.0
digits_pass (c ∷ digits) all (suc k) d lt = digits_pass digits all.1 k d (omega (arith, lt))

digit_value_byte : (b : ℕ) → IsTrue (is_ascii_digit b) → IsTrue (is_value_byte b)
digit_value_byte b is = grind (arith, nat_tests)

digit_no_ows : (b : ℕ) → IsTrue (is_ascii_digit b) → is_ows b ≡ false
digit_no_ows b is = grind (arith, nat_tests)

skip_digits : (digits : List ℕ) → AllPass is_ascii_digit digits → skip_ows digits ≡ digits
skip_digits [] pass = refl
skip_digits (c ∷ digits) pass = rw (digit_no_ows c (pass 0 0 (omega arith))) refl

pub decimal_digits : (number : ℕ) → number < 2 ^ 64 → AllPass is_ascii_digit (decimal number)
decimal_digits number small = digits_pass (decimal number) (decimal_is_IsNumeral number small).0.1

pub decimal_value : (number : ℕ) → number < 2 ^ 64 → AllPass is_value_byte (decimal number)
decimal_value number small = All-weaker _ _ digit_value_byte (decimal number) (decimal_digits number small)

-- a decimal is read as it is from behind a blank
pub decimal_trimmed : (number : ℕ) → number < 2 ^ 64 → trim_ows (32 ∷ decimal number) ≡ decimal number
decimal_trimmed number small =
    let digits = decimal_digits number small in
    trim_ows_space (decimal number) (skip_digits (decimal number) digits) (skip_digits (reverse (decimal number)) (AllPass-reverse is_ascii_digit (decimal number) digits))

-- and it writes a length
pub decimal_length_text : (number : ℕ) → number ≤ 16777216 → IsLengthText (decimal number)
decimal_length_text number most =
    let small : number < 2 ^ 64 = omega (arith, most) in
    record {
      some = (decimal_is_IsNumeral number small).0.0;
      few = length-decimal-le 19 number (omega arith) (omega (arith, most)) small;
      digits = decimal_digits number small;
    }

pub decimal_says : (number : ℕ) → number < 2 ^ 64 → digits_value 10 (decimal number) ≡ number
decimal_says number small = (decimal_is_IsNumeral number small).1
