-- The fields of the heads that are written, and what is found in them.
use Rattle.std.proofs.Common.{◌≡◌, ℕ, ◌<◌, ◌≤◌, ◌^◌, IsTrue, true, false, List, [], ◌∷◌, ◌++◌, length, map, codes, decimal, refl, sym, ap, ◌∙◌, arith, subst, All, Option, Some, None, IfSome, IsUtf8}
use Rattle.std.proofs.lemmas.List.{append_assoc}
use Rattle.std.proofs.lemmas.List.Elements.{All-append, All-cons}
use Rattle.std.proofs.lemmas.List.Sums.{AllPass-from_list_all}
use Rattle.std.specs.List.{list_all}
use Rattle.httparse.specs.Ascii.{colon}
use Rattle.httparse.specs.Grammar.{AllPass, Field, IsField, IsToken, crlf, is_token_byte, is_value_byte, print_section, trim_ows}
use Rattle.httparse.specs.Spans.{name_and_value}
use Rattle.oe_http.proofs.HeadLines.{authorization_lines, closing_lines}
use Rattle.oe_http.specs.Again.{IsCredentials, is_visible}
use Rattle.oe_http.specs.Fields.{AtMostOne, FieldText, IsLengthText, authorization, content_length, first_value, is_coded, said_length, length_said, values_of}
use Rattle.oe_http.specs.Plain.{PlainRequest}
use Rattle.oe_http.proofs.Lines.{ended, of_lines}
use Rattle.oe_http.proofs.Visible.{all_value, credentials_utf8, credentials_value, decimal_length_text, decimal_says, decimal_trimmed, decimal_value}

-- a field of a name, and of a value behind a blank
abbrev pub field_of : List ℕ → List ℕ → Field
field_of name value = record { name = name; raw = 32 ∷ value; end = crlf }

-- its line, and then others
pub section_of : (name value : List ℕ) (fields : List Field) → print_section (field_of name value ∷ fields) crlf ≡ ended (name ++ (colon ∷ 32 ∷ value)) (print_section fields crlf)
section_of name value fields = grind (arith, append_assoc)

-- a value behind a blank
pub behind_blank : (value : List ℕ) → AllPass is_value_byte value → AllPass is_value_byte (32 ∷ value)
behind_blank value pass = All-cons (λ b. IsTrue (is_value_byte b)) 32 value refl pass

-- the fields of a written request
abbrev pub authorization_fields : Option (List ℕ) → List Field
authorization_fields None = []
authorization_fields (Some value) = field_of (codes "Authorization") value ∷ []

abbrev pub closing_fields : ℕ → List Field
closing_fields number = field_of (codes "Content-Length") (decimal number) ∷ field_of (codes "Connection") (codes "close") ∷ []

abbrev pub request_fields : PlainRequest → List ℕ → List Field
request_fields r host = field_of (codes "Host") host ∷ (authorization_fields r.authorization ++ closing_fields (length r.body))

-- their lines
closing_section : (number : ℕ) → print_section (closing_fields number) crlf ≡ of_lines (closing_lines number)
closing_section number =
    section_of (codes "Content-Length") (decimal number) (field_of (codes "Connection") (codes "close") ∷ [])
    ∙ ap (ended (codes "Content-Length: " ++ decimal number)) (section_of (codes "Connection") (codes "close") [])

section_behind_host : (value : Option (List ℕ)) (number : ℕ) → print_section (authorization_fields value ++ closing_fields number) crlf ≡ of_lines (authorization_lines value ++ closing_lines number)
section_behind_host None number = closing_section number
section_behind_host (Some value) number =
    section_of (codes "Authorization") value (closing_fields number) ∙ ap (ended (codes "Authorization: " ++ value)) (closing_section number)

pub request_section : (r : PlainRequest) (host : List ℕ) → print_section (request_fields r host) crlf ≡ of_lines ((codes "Host: " ++ host) ∷ (authorization_lines r.authorization ++ closing_lines (length r.body)))
request_section r host =
    section_of (codes "Host") host (authorization_fields r.authorization ++ closing_fields (length r.body))
    ∙ ap (ended (codes "Host: " ++ host)) (section_behind_host r.authorization (length r.body))

-- a constant name
pub is_name : (name : List ℕ) → 0 < length name → list_all is_token_byte name ≡ true → IsToken name
is_name name some all = (some, AllPass-from_list_all is_token_byte name all)

pub is_field : (name value : List ℕ) → IsToken name → AllPass is_value_byte value → IsField (field_of name value)
is_field name value token pass = record { name = token; raw = behind_blank value pass }

host_name : IsToken (codes "Host")
unfolding is_token_byte
host_name = is_name (codes "Host") (omega arith) refl

authorization_name : IsToken (codes "Authorization")
unfolding is_token_byte
authorization_name = is_name (codes "Authorization") (omega arith) refl

pub length_name : IsToken (codes "Content-Length")
unfolding is_token_byte
length_name = is_name (codes "Content-Length") (omega arith) refl

connection_name : IsToken (codes "Connection")
unfolding is_token_byte
connection_name = is_name (codes "Connection") (omega arith) refl

close_value : AllPass is_value_byte (codes "close")
close_value = AllPass-from_list_all is_value_byte (codes "close") refl

pub no_fields : All IsField []
no_fields k d lt = absurd (omega (arith, lt))

pub connection_is_field : IsField (field_of (codes "Connection") (codes "close"))
connection_is_field = is_field (codes "Connection") (codes "close") connection_name close_value

closing_are_fields : (number : ℕ) → number < 2 ^ 64 → All IsField (closing_fields number)
closing_are_fields number small =
    All-cons IsField (field_of (codes "Content-Length") (decimal number)) (field_of (codes "Connection") (codes "close") ∷ [])
    (is_field (codes "Content-Length") (decimal number) length_name (decimal_value number small))
    (All-cons IsField (field_of (codes "Connection") (codes "close")) [] connection_is_field no_fields)

authorization_are_fields : (value : Option (List ℕ)) → IfSome value IsCredentials → All IsField (authorization_fields value)
authorization_are_fields None may = no_fields
authorization_are_fields (Some value) may =
    All-cons IsField (field_of (codes "Authorization") value) []
    (is_field (codes "Authorization") value authorization_name (credentials_value value may.bytes)) no_fields

pub request_are_fields : (r : PlainRequest) (host : List ℕ) → AllPass is_visible host → IfSome r.authorization IsCredentials → length r.body < 2 ^ 64 → All IsField (request_fields r host)
request_are_fields r host visible may small =
    All-cons IsField (field_of (codes "Host") host) (authorization_fields r.authorization ++ closing_fields (length r.body))
    (is_field (codes "Host") host host_name (all_value host visible))
    (All-append IsField (authorization_fields r.authorization) (closing_fields (length r.body))
    (authorization_are_fields r.authorization may) (closing_are_fields (length r.body) small))

-- the names and values of the fields
abbrev pub texts : List Field → List FieldText
texts fields = map name_and_value fields

lengths_behind : (value : Option (List ℕ)) (number : ℕ) → values_of content_length (texts (authorization_fields value ++ closing_fields number)) ≡ trim_ows (32 ∷ decimal number) ∷ []
lengths_behind None number = refl
lengths_behind (Some value) number = refl

-- the only length is that of the body
pub lengths : (r : PlainRequest) (host : List ℕ) → length r.body < 2 ^ 64 → values_of content_length (texts (request_fields r host)) ≡ decimal (length r.body) ∷ []
lengths r host small =
    lengths_behind r.authorization (length r.body) ∙ ap (λ value. value ∷ []) (decimal_trimmed (length r.body) small)

pub one_length : (r : PlainRequest) (host : List ℕ) → length r.body ≤ 16777216 → AtMostOne (values_of content_length (texts (request_fields r host))) IsLengthText
one_length r host most =
    let P : List (List ℕ) → Type 0 = λ values. AtMostOne values IsLengthText in
    subst P (sym (lengths r host (omega (arith, most)))) (decimal_length_text (length r.body) most)

pub says_length : (r : PlainRequest) (host : List ℕ) → length r.body < 2 ^ 64 → said_length (texts (request_fields r host)) ≡ length r.body
says_length r host small = ap length_said (lengths r host small) ∙ decimal_says (length r.body) small

-- the authorization is the only one
trimmed_behind : (value : List ℕ) → trim_ows (32 ∷ value) ≡ trim_ows value
unfolding trim_ows
trimmed_behind value = refl

abbrev pub as_values : Option (List ℕ) → List (List ℕ)
as_values None = []
as_values (Some value) = value ∷ []

authorizations_behind : (value : Option (List ℕ)) (number : ℕ) → IfSome value IsCredentials → values_of authorization (texts (authorization_fields value ++ closing_fields number)) ≡ as_values value
authorizations_behind None number may = refl
authorizations_behind (Some value) number may = ap (λ v. v ∷ []) (trimmed_behind value ∙ may.trimmed)

pub authorizations : (r : PlainRequest) (host : List ℕ) → IfSome r.authorization IsCredentials → values_of authorization (texts (request_fields r host)) ≡ as_values r.authorization
authorizations r host may = authorizations_behind r.authorization (length r.body) may

utf8_values : (value : Option (List ℕ)) → IfSome value IsCredentials → AtMostOne (as_values value) IsUtf8
utf8_values None may = tt
utf8_values (Some value) may = credentials_utf8 value may.bytes

pub one_authorization : (r : PlainRequest) (host : List ℕ) → IfSome r.authorization IsCredentials → AtMostOne (values_of authorization (texts (request_fields r host))) IsUtf8
one_authorization r host may =
    let P : List (List ℕ) → Type 0 = λ values. AtMostOne values IsUtf8 in
    subst P (sym (authorizations r host may)) (utf8_values r.authorization may)

first_as_values : (value : Option (List ℕ)) → first_value (as_values value) ≡ value
first_as_values None = refl
first_as_values (Some value) = refl

pub says_authorization : (r : PlainRequest) (host : List ℕ) → IfSome r.authorization IsCredentials → first_value (values_of authorization (texts (request_fields r host))) ≡ r.authorization
says_authorization r host may = ap first_value (authorizations r host may) ∙ first_as_values r.authorization

-- and nothing codes the body
coded_behind : (value : Option (List ℕ)) (number : ℕ) → is_coded (texts (authorization_fields value ++ closing_fields number)) ≡ false
coded_behind None number = refl
coded_behind (Some value) number = refl

pub not_coded : (r : PlainRequest) (host : List ℕ) → is_coded (texts (request_fields r host)) ≡ false
not_coded r host = coded_behind r.authorization (length r.body)

few_behind : (value : Option (List ℕ)) (number : ℕ) → length (authorization_fields value ++ closing_fields number) ≤ 3
few_behind None number = omega arith
few_behind (Some value) number = omega arith

pub few_fields : (r : PlainRequest) (host : List ℕ) → length (request_fields r host) ≤ 64
few_fields r host = omega (arith, few_behind r.authorization (length r.body))
