-- The fields of the replies that are written, and what is found in them.
use Rattle.std.proofs.Common.{◌≡◌, ℕ, ◌<◌, ◌≤◌, ◌^◌, Bool, true, false, ◌&&◌, List, [], ◌∷◌, ◌++◌, length, codes, decimal, refl, ap, ◌∙◌, arith, All, Option, Some, None, IfSome}
use Rattle.std.proofs.lemmas.List.{length-append}
use Rattle.std.proofs.lemmas.List.Elements.{All-append, All-cons}
use Rattle.std.proofs.lemmas.List.Sums.{AllPass-from_list_all}
use Rattle.httparse.specs.Grammar.{AllPass, Field, IsField, IsToken, crlf, is_token_byte, is_value_byte, print_section}
use Rattle.oe_http.specs.Again.{is_visible}
use Rattle.oe_http.specs.Fields.{content_length, values_of}
use Rattle.oe_http.specs.Replies.{has_body, has_length}
use Rattle.oe_http.proofs.HeadLines.{last_reply_lines, lines_if, lines_of_field, named_reply_lines}
use Rattle.oe_http.proofs.Lines.{ended, of_lines}
use Rattle.oe_http.proofs.Visible.{all_value, decimal_trimmed, decimal_value}
use Rattle.oe_http.proofs.WrittenFields.{connection_is_field, field_of, is_field, is_name, length_name, no_fields, section_of, texts}

-- the fields that a reply may have
abbrev pub fields_if : Bool → Field → List Field
fields_if true field = field ∷ []
fields_if false field = []

abbrev pub fields_of_value : List ℕ → Option (List ℕ) → List Field
fields_of_value name None = []
fields_of_value name (Some value) = field_of name value ∷ []

abbrev pub type_field : Field
type_field = field_of (codes "Content-Type") (codes "application/json")

abbrev pub length_field : ℕ → Field
length_field number = field_of (codes "Content-Length") (decimal number)

abbrev pub last_fields : ℕ → ℕ → List Field
last_fields status number = fields_if (has_length status) (length_field number) ++ (field_of (codes "Connection") (codes "close") ∷ [])

abbrev pub identified_fields : ℕ → Option (List ℕ) → ℕ → List Field
identified_fields status identifier number = fields_of_value (codes "OpenEO-Identifier") identifier ++ last_fields status number

abbrev pub named_fields : ℕ → Option (List ℕ) → Option (List ℕ) → ℕ → List Field
named_fields status location identifier number = fields_of_value (codes "Location") location ++ identified_fields status identifier number

abbrev pub fields_of_reply : ℕ → Option (List ℕ) → Option (List ℕ) → Bool → ℕ → List Field
fields_of_reply status location identifier json number =
    fields_if (json && has_body status) type_field ++ named_fields status location identifier number

-- their lines
type_section : (applies : Bool) (fields : List Field) (lines : List (List ℕ)) → print_section fields crlf ≡ of_lines lines → print_section (fields_if applies type_field ++ fields) crlf ≡ of_lines (lines_if applies (codes "Content-Type: application/json") ++ lines)
type_section true fields lines is =
    section_of (codes "Content-Type") (codes "application/json") fields ∙ ap (ended (codes "Content-Type: application/json")) is
type_section false fields lines is = is

location_section : (value : Option (List ℕ)) (fields : List Field) (lines : List (List ℕ)) → print_section fields crlf ≡ of_lines lines → print_section (fields_of_value (codes "Location") value ++ fields) crlf ≡ of_lines (lines_of_field (codes "Location: ") value ++ lines)
location_section None fields lines is = is
location_section (Some value) fields lines is =
    section_of (codes "Location") value fields ∙ ap (ended (codes "Location: " ++ value)) is

identifier_section : (value : Option (List ℕ)) (fields : List Field) (lines : List (List ℕ)) → print_section fields crlf ≡ of_lines lines → print_section (fields_of_value (codes "OpenEO-Identifier") value ++ fields) crlf ≡ of_lines (lines_of_field (codes "OpenEO-Identifier: ") value ++ lines)
identifier_section None fields lines is = is
identifier_section (Some value) fields lines is =
    section_of (codes "OpenEO-Identifier") value fields ∙ ap (ended (codes "OpenEO-Identifier: " ++ value)) is

length_section : (applies : Bool) (number : ℕ) (fields : List Field) (lines : List (List ℕ)) → print_section fields crlf ≡ of_lines lines → print_section (fields_if applies (length_field number) ++ fields) crlf ≡ of_lines (lines_if applies (codes "Content-Length: " ++ decimal number) ++ lines)
length_section true number fields lines is =
    section_of (codes "Content-Length") (decimal number) fields ∙ ap (ended (codes "Content-Length: " ++ decimal number)) is
length_section false number fields lines is = is

pub reply_section : (status : ℕ) (location identifier : Option (List ℕ)) (json : Bool) (number : ℕ) → print_section (fields_of_reply status location identifier json number) crlf ≡ of_lines (lines_if (json && has_body status) (codes "Content-Type: application/json") ++ named_reply_lines status location identifier number)
reply_section status location identifier json number =
    let close = section_of (codes "Connection") (codes "close") [] in
    let last = length_section (has_length status) number (field_of (codes "Connection") (codes "close") ∷ []) (codes "Connection: close" ∷ []) close in
    let identified = identifier_section identifier (last_fields status number) (last_reply_lines status number) last in
    let named = location_section location (identified_fields status identifier number)
    (lines_of_field (codes "OpenEO-Identifier: ") identifier ++ last_reply_lines status number) identified in
    type_section (json && has_body status) (named_fields status location identifier number) (named_reply_lines status location identifier number) named

-- each is a field
type_name : IsToken (codes "Content-Type")
unfolding is_token_byte
type_name = is_name (codes "Content-Type") (omega arith) refl

location_name : IsToken (codes "Location")
unfolding is_token_byte
location_name = is_name (codes "Location") (omega arith) refl

identifier_name : IsToken (codes "OpenEO-Identifier")
unfolding is_token_byte
identifier_name = is_name (codes "OpenEO-Identifier") (omega arith) refl

fields_if_are : (applies : Bool) (field : Field) → IsField field → All IsField (fields_if applies field)
fields_if_are true field is = All-cons IsField field [] is no_fields
fields_if_are false field is = no_fields

fields_of_value_are : (name : List ℕ) (value : Option (List ℕ)) → IsToken name → IfSome value (AllPass is_visible) → All IsField (fields_of_value name value)
fields_of_value_are name None token visible = no_fields
fields_of_value_are name (Some value) token visible =
    All-cons IsField (field_of name value) [] (is_field name value token (all_value value visible)) no_fields

type_is_field : IsField type_field
type_is_field = is_field (codes "Content-Type") (codes "application/json") type_name (AllPass-from_list_all is_value_byte (codes "application/json") refl)

pub reply_are_fields : (status : ℕ) (location identifier : Option (List ℕ)) (json : Bool) (number : ℕ) → IfSome location (AllPass is_visible) → IfSome identifier (AllPass is_visible) → number < 2 ^ 64 → All IsField (fields_of_reply status location identifier json number)
reply_are_fields status location identifier json number location_visible identifier_visible small =
    let close : All IsField (field_of (codes "Connection") (codes "close") ∷ []) =
    All-cons IsField (field_of (codes "Connection") (codes "close")) [] connection_is_field no_fields in
    let digits = is_field (codes "Content-Length") (decimal number) length_name (decimal_value number small) in
    All-append IsField (fields_if (json && has_body status) type_field) (named_fields status location identifier number)
    (fields_if_are (json && has_body status) type_field type_is_field)
    (All-append IsField (fields_of_value (codes "Location") location) (identified_fields status identifier number)
    (fields_of_value_are (codes "Location") location location_name location_visible)
    (All-append IsField (fields_of_value (codes "OpenEO-Identifier") identifier) (last_fields status number)
    (fields_of_value_are (codes "OpenEO-Identifier") identifier identifier_name identifier_visible)
    (All-append IsField (fields_if (has_length status) (length_field number)) (field_of (codes "Connection") (codes "close") ∷ [])
    (fields_if_are (has_length status) (length_field number) digits) close)))

-- the length is found behind the other fields
behind_type : (applies : Bool) (fields : List Field) → values_of content_length (texts (fields_if applies type_field ++ fields)) ≡ values_of content_length (texts fields)
behind_type true fields = refl
behind_type false fields = refl

behind_location : (value : Option (List ℕ)) (fields : List Field) → values_of content_length (texts (fields_of_value (codes "Location") value ++ fields)) ≡ values_of content_length (texts fields)
behind_location None fields = refl
behind_location (Some value) fields = refl

behind_identifier : (value : Option (List ℕ)) (fields : List Field) → values_of content_length (texts (fields_of_value (codes "OpenEO-Identifier") value ++ fields)) ≡ values_of content_length (texts fields)
behind_identifier None fields = refl
behind_identifier (Some value) fields = refl

abbrev pub values_if : Bool → List ℕ → List (List ℕ)
values_if true value = value ∷ []
values_if false value = []

last_values : (applies : Bool) (number : ℕ) → number < 2 ^ 64 → values_of content_length (texts (fields_if applies (length_field number) ++ (field_of (codes "Connection") (codes "close") ∷ []))) ≡ values_if applies (decimal number)
last_values true number small = ap (λ value. value ∷ []) (decimal_trimmed number small)
last_values false number small = refl

pub reply_lengths : (status : ℕ) (location identifier : Option (List ℕ)) (json : Bool) (number : ℕ) → number < 2 ^ 64 → values_of content_length (texts (fields_of_reply status location identifier json number)) ≡ values_if (has_length status) (decimal number)
reply_lengths status location identifier json number small =
    behind_type (json && has_body status) (named_fields status location identifier number)
    ∙ behind_location location (identified_fields status identifier number)
    ∙ behind_identifier identifier (last_fields status number)
    ∙ last_values (has_length status) number small

few_if : (applies : Bool) (field : Field) → length (fields_if applies field) ≤ 1
few_if true field = omega arith
few_if false field = omega arith

few_of_value : (name : List ℕ) (value : Option (List ℕ)) → length (fields_of_value name value) ≤ 1
few_of_value name None = omega arith
few_of_value name (Some value) = omega arith

pub few_reply_fields : (status : ℕ) (location identifier : Option (List ℕ)) (json : Bool) (number : ℕ) → length (fields_of_reply status location identifier json number) ≤ 64
few_reply_fields status location identifier json number = omega (
  arith,
  few_if (json && has_body status) type_field,
  few_of_value (codes "Location") location,
  few_of_value (codes "OpenEO-Identifier") identifier,
  few_if (has_length status) (length_field number),
  length-append (fields_if (json && has_body status) type_field) (named_fields status location identifier number),
  length-append (fields_of_value (codes "Location") location) (identified_fields status identifier number),
  length-append (fields_of_value (codes "OpenEO-Identifier") identifier) (last_fields status number),
  length-append (fields_if (has_length status) (length_field number)) (field_of (codes "Connection") (codes "close") ∷ []),
)
