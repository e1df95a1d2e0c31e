-- The fields of a head by their names, without letter case (RFC 9110, section 5).
use Rattle.std.specs.Prelude.{ℕ, ◌≤◌, Bool, ◌&&◌, ◌||◌, not, List, [], ◌∷◌, length, map, filter, codes, bytes_eq, Option, Some, None}
use Rattle.std.specs.List.{list_any}
use Rattle.std.specs.Char.{to_ascii_lowercase, is_ascii_digit}
use Rattle.std.specs.Str.Parse.{digits_value}
use Rattle.httparse.specs.Grammar.{AllPass}

-- a field: its name, and its value without the blanks and tabs around it
abbrev pub FieldText : Type 0
FieldText = List ℕ × List ℕ

-- two names are equal but for the case of ASCII letters
abbrev pub is_same_name : List ℕ → List ℕ → Bool
is_same_name a b = bytes_eq (map to_ascii_lowercase a) (map to_ascii_lowercase b)

-- the values of the fields of a name, in their order
abbrev pub values_of : List ℕ → List FieldText → List (List ℕ)
values_of name fields = map (λ f. f.1) (filter (λ f. is_same_name f.0 name) fields)

-- there is no value, or only one, which has P
abbrev pub AtMostOne : List (List ℕ) → (List ℕ → Type 0) → Type 0
AtMostOne [] P = Unit {0}
AtMostOne (value ∷ []) P = P value
AtMostOne (value ∷ another ∷ more) P = ⊥

-- the first value, if there is one
abbrev pub first_value : List (List ℕ) → Option (List ℕ)
first_value [] = None
first_value (value ∷ more) = Some value

-- the names that are looked at
abbrev pub content_length : List ℕ
content_length = codes "content-length"

abbrev pub authorization : List ℕ
authorization = codes "authorization"

-- a length is written in 1 to 19 digits
pub record IsLengthText (value : List ℕ) : Type 0 where
  pub some : 1 ≤ length value
  pub few : length value ≤ 19
  pub digits : AllPass is_ascii_digit value

-- the length that the first of these values says, and 0 where there is none
abbrev pub length_said : List (List ℕ) → ℕ
length_said [] = 0
length_said (value ∷ more) = digits_value 10 value

-- the length that the fields say
abbrev pub said_length : List FieldText → ℕ
said_length fields = length_said (values_of content_length fields)

-- the field codes the body: any transfer coding, or a content coding other than `identity`
abbrev pub is_coding : FieldText → Bool
is_coding f =
    is_same_name f.0 (codes "transfer-encoding")
    || is_same_name f.0 (codes "content-encoding") && not (bytes_eq f.1 (codes "identity"))

-- a field codes the body
abbrev pub is_coded : List FieldText → Bool
is_coded fields = list_any is_coding fields
