-- The query of a request: parts between ampersands, each a name and a value at its first equals sign. Nothing is decoded,
-- and names that are not asked for are not looked at.
use Rattle.std.specs.Prelude.{◌≡◌, ℕ, ◌^◌, ◌-◌, ◌==◌, ◌&&◌, nat_le, nat_lt, if◌then◌else◌, Bool, bytes_eq, List, [], ◌∷◌, length, map, filter, codes, decimal, Option, Some, None, Result, Ok, Err, ⊤}
use Rattle.std.specs.List.{before_first, after_first, position_or_len, slice_split}
use Rattle.std.specs.Str.Parse.{digits_value}
use Rattle.oe_pages.specs.declared.query.PageAsked.{PageAsked}
use Rattle.oe_pages.specs.declared.query.QueryFail.{QueryFail}
use Rattle.oe_pages.specs.declared.query.QueryFail.TheVariants.{Invalid, OutOfMemory}

-- ---- steps, of which the first that refuses decides

infixl 10 ◌>>=◌
abbrev pub ◌>>=◌ : {A B : Type 0} → Result A QueryFail → (A → Result B QueryFail) → Result B QueryFail
(Ok x) >>= next = next x
(Err fail) >>= next = Err fail

-- what a failure says of a step: that it is invalid, or nothing where it is out of memory
abbrev pub Fails : {Y : Type 0} → QueryFail → Result Y QueryFail → Type 0
Fails OutOfMemory step = ⊤
Fails Invalid step = step ≡ Err Invalid

-- what a call answered, seen by view, is what the step gives, unless it is out of memory
abbrev pub Gives : {X Y : Type 0} → (X → Y) → Result X QueryFail → Result Y QueryFail → Type 0
Gives view (Ok x) step = step ≡ Ok (view x)
Gives view (Err e) step = Fails e step

-- ---- the parts of a query

abbrev pub is_ampersand : ℕ → Bool
is_ampersand byte = byte == 38

abbrev pub is_equals : ℕ → Bool
is_equals byte = byte == 61

-- the parts of a query, one more than it has ampersands
abbrev pub parts_of : List ℕ → List (List ℕ)
parts_of query = slice_split is_ampersand query

-- the name of a part, and its value, where it has an equals sign
abbrev pub name_of : List ℕ → List ℕ
name_of part = before_first is_equals part

abbrev pub value_in : List ℕ → Option (List ℕ)
value_in part =
    if nat_lt (position_or_len is_equals part) (length part) then Some (after_first is_equals part) else None

abbrev pub has_name : List ℕ → List ℕ → Bool
has_name name part = bytes_eq (name_of part) name

-- the values of a name in these parts, none where a part has none
abbrev pub values_of : List ℕ → List (List ℕ) → List (Option (List ℕ))
values_of name parts = map value_in (filter (has_name name) parts)

-- the one value of a name, or that it is not there: what occurs twice or without a value is invalid
abbrev pub one_value : List (Option (List ℕ)) → Result (Option (List ℕ)) QueryFail
one_value [] = Ok None
one_value (None ∷ values) = Err Invalid
one_value (Some value ∷ []) = Ok (Some value)
one_value (Some value ∷ second ∷ values) = Err Invalid

-- a value that was found, as the values of its name
abbrev pub found_before : Option (List ℕ) → List (Option (List ℕ))
found_before None = []
found_before (Some value) = Some value ∷ []

-- ---- numbers

-- the text spells this number in decimal without leading zeros, and it is one of these bounds or between them
abbrev pub spells : ℕ → ℕ → List ℕ → ℕ → Bool
spells least most text number = bytes_eq text (decimal number) && nat_le least number && nat_le number most

-- the number that a text spells so, whose digits write it
abbrev pub number_in : ℕ → ℕ → List ℕ → Result ℕ QueryFail
number_in least most text =
    if spells least most text (digits_value 10 text) then Ok (digits_value 10 text) else Err Invalid

-- the same, and 0 where none is said
abbrev pub number_or_zero : ℕ → ℕ → Option (List ℕ) → Result ℕ QueryFail
number_or_zero least most None = Ok 0
number_or_zero least most (Some text) = number_in least most text

-- ---- a page of a list

-- a page of 1 to 1000 items
abbrev pub most_limit : ℕ
most_limit = 1000

-- the greatest number of 64 bits
abbrev pub most_offset : ℕ
most_offset = 2 ^ 64 - 1

-- the page of a limit, whose offset is 0 where none is said
abbrev pub asked_with : Option (List ℕ) → List (List ℕ) → Result (Option PageAsked) QueryFail
asked_with None parts = Ok None
asked_with (Some text) parts =
    number_in 1 most_limit text >>= λ limit.
    one_value (values_of (codes "offset") parts) >>= λ digits.
    number_or_zero 0 most_offset digits >>= λ offset.
    Ok (Some (record { limit = limit; offset = offset }))

-- the page that a query asks for: none where it says no limit, and then its offset is not looked at
abbrev pub page_asked : List ℕ → Result (Option PageAsked) QueryFail
page_asked query =
    one_value (values_of (codes "limit") (parts_of query)) >>= λ text.
    asked_with text (parts_of query)
