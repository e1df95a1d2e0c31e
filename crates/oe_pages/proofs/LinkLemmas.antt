-- What the query of a link asks for.
use Rattle.std.proofs.Common.{◌≡◌, ℕ, zero, suc, ◌<◌, ◌≤◌, ◌^◌, true, false, List, [], ◌∷◌, ◌++◌, length, codes, decimal, Option, Some, Result, Ok, refl, ap, ◌∙◌, arith, All}
use Rattle.std.specs.Prelude.{⊤, nat_lt}
use Rattle.std.specs.List.{position_or_len, slice_split}
use Rattle.std.specs.Char.{digit_value}
use Rattle.std.specs.Str.Parse.{AllDigits}
use Rattle.std.proofs.lemmas.Bool.Decides.{nat_tests}
use Rattle.std.proofs.lemmas.Fmt.{decimal_is_IsNumeral}
use Rattle.std.proofs.lemmas.List.{append_assoc, length-append}
use Rattle.std.proofs.lemmas.List.Elements.{All-append}
use Rattle.std.proofs.lemmas.List.Splits.{slice_split_at, slice_split_none}
use Rattle.oe_jobs.specs.Texts.{SpellsNumber}
use Rattle.oe_pages.specs.Laws.{LinksLead}
use Rattle.oe_pages.specs.Pages.{page_query}
use Rattle.oe_pages.specs.Queries.{◌>>=◌, asked_with, is_ampersand, is_equals, most_limit, most_offset, number_in, one_value, page_asked, parts_of, value_in, values_of}
use Rattle.oe_pages.specs.declared.query.PageAsked.{PageAsked}
use Rattle.oe_pages.specs.declared.query.QueryFail.{QueryFail}
use Rattle.oe_pages.proofs.QueryLemmas.{spelled}

-- ---- its parts

not_ampersand : (c : ℕ) → digit_value c < 10 → is_ampersand c ≡ false
not_ampersand c small = grind (arith, nat_tests)

no_ampersands : (digits : List ℕ) → AllDigits 10 digits → All (λ x. is_ampersand x ≡ false) digits
no_ampersands [] all k d lt = absurd (omega (arith, lt))
no_ampersands (c ∷ digits) all zero d lt = not_ampersand c all.0
no_ampersands (c ∷ digits) all (suc k) d lt = no_ampersands digits all.1 k d (omega (arith, lt))

in_decimal : (n : ℕ) → n < 2 ^ 64 → All (λ x. is_ampersand x ≡ false) (decimal n)
in_decimal n small = no_ampersands (decimal n) (decimal_is_IsNumeral n small).0.1

-- bytes without an ampersand
abbrev ArePlain : List ℕ → Type 0
ArePlain [] = ⊤
ArePlain (c ∷ bytes) = (is_ampersand c ≡ false) × ArePlain bytes

all_plain : (bytes : List ℕ) → ArePlain bytes → All (λ x. is_ampersand x ≡ false) bytes
all_plain [] all k d lt = absurd (omega (arith, lt))
all_plain (c ∷ bytes) all zero d lt = all.0
all_plain (c ∷ bytes) all (suc k) d lt = all_plain bytes all.1 k d (omega (arith, lt))

in_part : (name : List ℕ) (n : ℕ) → ArePlain name → n < 2 ^ 64 → All (λ x. is_ampersand x ≡ false) (name ++ decimal n)
in_part name n all small =
    All-append (λ x. is_ampersand x ≡ false) name (decimal n) (all_plain name all) (in_decimal n small)

two_parts : (limit offset : ℕ) → limit < 2 ^ 64 → offset < 2 ^ 64
    → parts_of (page_query limit offset) ≡ (codes "limit=" ++ decimal limit) ∷ (codes "offset=" ++ decimal offset) ∷ []
two_parts limit offset small fits =
    ap (slice_split is_ampersand)
    (append_assoc (codes "limit=" ++ decimal limit) (codes "&offset=") (decimal offset))
    ∙ slice_split_at is_ampersand (codes "limit=" ++ decimal limit) 38 (codes "offset=" ++ decimal offset)
    (in_part (codes "limit=") limit (refl, (refl, (refl, (refl, (refl, (refl, tt)))))) small) refl
    ∙ ap (λ parts. (codes "limit=" ++ decimal limit) ∷ parts)
    (slice_split_none is_ampersand (codes "offset=" ++ decimal offset)
    (in_part (codes "offset=") offset (refl, (refl, (refl, (refl, (refl, (refl, (refl, tt))))))) fits))

-- ---- their values

limit_value : (value : List ℕ) → value_in (codes "limit=" ++ value) ≡ Some value
limit_value value =
    let at : position_or_len is_equals (codes "limit=" ++ value) ≡ 5 = refl in
    let long = length-append (codes "limit=") value in
    let inside : nat_lt (position_or_len is_equals (codes "limit=" ++ value)) (length (codes "limit=" ++ value)) ≡ true =
    grind (arith, nat_tests, at, long) in
    rw inside refl

offset_value : (value : List ℕ) → value_in (codes "offset=" ++ value) ≡ Some value
offset_value value =
    let at : position_or_len is_equals (codes "offset=" ++ value) ≡ 6 = refl in
    let long = length-append (codes "offset=") value in
    let inside : nat_lt (position_or_len is_equals (codes "offset=" ++ value)) (length (codes "offset=" ++ value)) ≡ true =
    grind (arith, nat_tests, at, long) in
    rw inside refl

abbrev asked_of : List (List ℕ) → Result (Option PageAsked) QueryFail
asked_of parts = one_value (values_of (codes "limit") parts) >>= λ text. asked_with text parts

abbrev both : List ℕ → List ℕ → List (List ℕ)
both limit offset = (codes "limit=" ++ limit) ∷ (codes "offset=" ++ offset) ∷ []

limits : (limit offset : List ℕ) → values_of (codes "limit") (both limit offset) ≡ Some limit ∷ []
limits limit offset = ap (λ value. value ∷ []) (limit_value limit)

offsets : (limit offset : List ℕ) → values_of (codes "offset") (both limit offset) ≡ Some offset ∷ []
offsets limit offset = ap (λ value. value ∷ []) (offset_value offset)

asked_both : (limit offset : ℕ) (first second : List ℕ) → number_in 1 most_limit first ≡ Ok limit
    → number_in 0 most_offset second ≡ Ok offset
    → asked_of (both first second) ≡ Ok (Some (record { limit = limit; offset = offset }))
asked_both limit offset first second is_limit is_offset =
    rw (limits first second, is_limit, offsets first second, is_offset) refl

spells_decimal : (n : ℕ) → n < 2 ^ 64 → SpellsNumber (decimal n) n
spells_decimal n small = record { spelled = refl; in_range = small }

pub links_lead : LinksLead
links_lead limit offset above below fits =
    let small : limit < 2 ^ 64 = omega (arith, below) in
    let short : offset < 2 ^ 64 = omega (arith, fits) in
    ap asked_of (two_parts limit offset small short)
    ∙ asked_both limit offset (decimal limit) (decimal offset)
    (spelled 1 most_limit (decimal limit) limit (spells_decimal limit small) above below)
    (spelled 0 most_offset (decimal offset) offset (spells_decimal offset short) (omega arith) fits)
