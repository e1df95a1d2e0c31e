-- The heads that are written, as lines.
use Rattle.std.proofs.Common.{◌≡◌, ℕ, ◌<◌, ◌==◌, if◌then◌else◌, arith, IfSome, List, [], ◌∷◌, ◌++◌, length, codes, decimal, Bool, true, false, ◌&&◌, unwrap_or, sym, ◌∙◌, ap, refl, Option, Some, None}
use Rattle.std.specs.List.{list_all}
use Rattle.std.proofs.lemmas.List.{append_assoc}
use Rattle.std.proofs.lemmas.List.Sums.{AllPass-from_list_all}
use Rattle.httparse.specs.Grammar.{is_value_byte}
use Rattle.http.specs.StatusCode.{reason_phrase}
use Rattle.oe_http.specs.Plain.{PlainRequest}
use Rattle.oe_http.specs.Replies.{code_line, end_lines, field_line, field_lines, further_lines, has_body, has_length, length_line, line_end, reply_head, type_line}
use Rattle.oe_http.specs.Written.{host_line, last_lines, lines_behind, mark_before, request_head, target_line}
use Rattle.oe_http.proofs.Lines.{AreLines, HasNoReturn, IsLine, ended, line_append, no_return_append, no_return_value, of_lines}

-- a field's line
ended_field : (name value rest : List ℕ) → (name ++ (value ++ line_end)) ++ rest ≡ ended (name ++ value) rest
ended_field name value rest =
    ap (λ text. text ++ rest) (sym (append_assoc name value line_end)) ∙ append_assoc (name ++ value) line_end rest

-- the first line of a request, without its end
abbrev pub first_line : List ℕ → List ℕ → List ℕ → List ℕ
first_line method path query =
    (method ++ (codes " " ++ path)) ++ (mark_before query ++ (query ++ codes " HTTP/1.1"))

ended_first : (method path query rest : List ℕ) → target_line method path query ++ rest ≡ ended (first_line method path query) rest
ended_first method path query rest =
    let start : List ℕ = method ++ (codes " " ++ path) in
    let mark : List ℕ = mark_before query in
    let version : List ℕ = codes " HTTP/1.1" in
    let one : target_line method path query ≡ start ++ (mark ++ ((query ++ version) ++ line_end)) =
    ap (λ text. start ++ (mark ++ text)) (sym (append_assoc query version line_end)) in
    let two : target_line method path query ≡ start ++ ((mark ++ (query ++ version)) ++ line_end) =
    one ∙ ap (λ text. start ++ text) (sym (append_assoc mark (query ++ version) line_end)) in
    let three : target_line method path query ≡ first_line method path query ++ line_end =
    two ∙ sym (append_assoc start (mark ++ (query ++ version)) line_end) in
    ap (λ text. text ++ rest) three ∙ append_assoc (first_line method path query) line_end rest

-- the lines behind the host's
abbrev pub authorization_lines : Option (List ℕ) → List (List ℕ)
authorization_lines None = []
authorization_lines (Some value) = (codes "Authorization: " ++ value) ∷ []

abbrev pub closing_lines : ℕ → List (List ℕ)
closing_lines number = (codes "Content-Length: " ++ decimal number) ∷ codes "Connection: close" ∷ []

closing : (number : ℕ) → last_lines number ≡ of_lines (closing_lines number)
closing number = sym (append_assoc (codes "Content-Length: ") (decimal number) (codes "\r\nConnection: close\r\n\r\n"))

behind_host : (authorization : Option (List ℕ)) (number : ℕ) → field_line (codes "Authorization: ") authorization ++ last_lines number ≡ of_lines (authorization_lines authorization ++ closing_lines number)
behind_host None number = closing number
behind_host (Some value) number =
    ended_field (codes "Authorization: ") value (last_lines number) ∙ ap (ended (codes "Authorization: " ++ value)) (closing number)

-- the lines of a request
abbrev pub request_lines : PlainRequest → List ℕ → List (List ℕ)
request_lines r host =
    first_line r.method r.path r.query ∷ (codes "Host: " ++ host) ∷ (authorization_lines r.authorization ++ closing_lines (length r.body))

pub head_of_request_lines : (r : PlainRequest) (host : List ℕ) → request_head r host ≡ of_lines (request_lines r host)
head_of_request_lines r host =
    ended_first r.method r.path r.query (host_line host ++ lines_behind r)
    ∙ ap (ended (first_line r.method r.path r.query))
    (ended_field (codes "Host: ") host (lines_behind r)
    ∙ ap (ended (codes "Host: " ++ host)) (behind_host r.authorization (length r.body)))

-- the first line of a reply, without its end
abbrev pub code_text : List ℕ → List ℕ → List ℕ
code_text digits phrase = (codes "HTTP/1.1 " ++ digits) ++ (codes " " ++ phrase)

ended_code : (digits phrase rest : List ℕ) → code_line digits phrase ++ rest ≡ ended (code_text digits phrase) rest
ended_code digits phrase rest =
    let start : List ℕ = codes "HTTP/1.1 " ++ digits in
    let one : code_line digits phrase ≡ code_text digits phrase ++ line_end = sym (append_assoc start (codes " " ++ phrase) line_end) in
    ap (λ text. text ++ rest) one ∙ append_assoc (code_text digits phrase) line_end rest

-- the lines that a reply may have
abbrev pub lines_if : Bool → List ℕ → List (List ℕ)
lines_if true line = line ∷ []
lines_if false line = []

abbrev pub lines_of_field : List ℕ → Option (List ℕ) → List (List ℕ)
lines_of_field name None = []
lines_of_field name (Some value) = (name ++ value) ∷ []

behind_type : (applies : Bool) (lines : List (List ℕ)) → type_line applies ++ of_lines lines ≡ of_lines (lines_if applies (codes "Content-Type: application/json") ++ lines)
behind_type true lines = refl
behind_type false lines = refl

behind_field : (name : List ℕ) (value : Option (List ℕ)) (lines : List (List ℕ)) → field_line name value ++ of_lines lines ≡ of_lines (lines_of_field name value ++ lines)
behind_field name None lines = refl
behind_field name (Some value) lines = ended_field name value (of_lines lines)

behind_length : (applies : Bool) (number : ℕ) (lines : List (List ℕ)) → length_line applies number ++ of_lines lines ≡ of_lines (lines_if applies (codes "Content-Length: " ++ decimal number) ++ lines)
behind_length true number lines = ended_field (codes "Content-Length: ") (decimal number) (of_lines lines)
behind_length false number lines = refl

-- the lines of a reply
abbrev pub last_reply_lines : ℕ → ℕ → List (List ℕ)
last_reply_lines status number =
    lines_if (has_length status) (codes "Content-Length: " ++ decimal number) ++ (codes "Connection: close" ∷ [])

abbrev pub named_reply_lines : ℕ → Option (List ℕ) → Option (List ℕ) → ℕ → List (List ℕ)
named_reply_lines status location identifier number =
    lines_of_field (codes "Location: ") location
    ++ (lines_of_field (codes "OpenEO-Identifier: ") identifier ++ last_reply_lines status number)

abbrev pub reply_lines : ℕ → Option (List ℕ) → Option (List ℕ) → Bool → ℕ → List (List ℕ)
reply_lines status location identifier json number =
    code_text (decimal status) (unwrap_or (reason_phrase status) [])
    ∷ (lines_if (json && has_body status) (codes "Content-Type: application/json") ++ named_reply_lines status location identifier number)

named : (status : ℕ) (location identifier : Option (List ℕ)) (number : ℕ) → further_lines status location identifier number ≡ of_lines (named_reply_lines status location identifier number)
named status location identifier number =
    append_assoc (field_line (codes "Location: ") location) (field_line (codes "OpenEO-Identifier: ") identifier) (end_lines status number)
    ∙ ap (λ text. field_line (codes "Location: ") location ++ (field_line (codes "OpenEO-Identifier: ") identifier ++ text))
    (behind_length (has_length status) number (codes "Connection: close" ∷ []))
    ∙ ap (λ text. field_line (codes "Location: ") location ++ text)
    (behind_field (codes "OpenEO-Identifier: ") identifier (last_reply_lines status number))
    ∙ behind_field (codes "Location: ") location (lines_of_field (codes "OpenEO-Identifier: ") identifier ++ last_reply_lines status number)

pub head_of_reply_lines : (status : ℕ) (location identifier : Option (List ℕ)) (json : Bool) (number : ℕ) → reply_head status location identifier json number ≡ of_lines (reply_lines status location identifier json number)
head_of_reply_lines status location identifier json number =
    let text : List ℕ = code_text (decimal status) (unwrap_or (reason_phrase status) []) in
    ended_code (decimal status) (unwrap_or (reason_phrase status) []) (field_lines status location identifier json number)
    ∙ ap (λ rest. ended text (type_line (json && has_body status) ++ rest)) (named status location identifier number)
    ∙ ap (ended text) (behind_type (json && has_body status) (named_reply_lines status location identifier number))

-- a text of constant bytes
pub constant : (bytes : List ℕ) → list_all is_value_byte bytes ≡ true → HasNoReturn bytes
constant bytes all = no_return_value bytes (AllPass-from_list_all is_value_byte bytes all)

pub constant_line : (bytes : List ℕ) → 0 < length bytes → list_all is_value_byte bytes ≡ true → IsLine bytes
constant_line bytes some all = record { some = some; none = constant bytes all }

no_return_mark : (empty : Bool) → HasNoReturn (if empty then [] else codes "?")
no_return_mark true = constant [] refl
no_return_mark false = constant (codes "?") refl

-- the first line of a request
pub first_is_line : (method path query : List ℕ) → IsLine method → HasNoReturn path → HasNoReturn query → IsLine (first_line method path query)
first_is_line method path query is_line path_none query_none =
    let start : IsLine (method ++ (codes " " ++ path)) =
    line_append method (codes " " ++ path) is_line (no_return_append (codes " ") path (constant (codes " ") refl) path_none) in
    let version : HasNoReturn (codes " HTTP/1.1") = constant (codes " HTTP/1.1") refl in
    line_append (method ++ (codes " " ++ path)) (mark_before query ++ (query ++ codes " HTTP/1.1")) start
    (no_return_append (mark_before query) (query ++ codes " HTTP/1.1") (no_return_mark (length query == 0))
    (no_return_append query (codes " HTTP/1.1") query_none version))

-- the other lines
authorization_are_lines : (authorization : Option (List ℕ)) → IfSome authorization HasNoReturn → AreLines (authorization_lines authorization)
authorization_are_lines None none = tt
authorization_are_lines (Some value) none =
    (line_append (codes "Authorization: ") value (constant_line (codes "Authorization: ") (omega arith) refl) none, tt)

closing_are_lines : (number : ℕ) → HasNoReturn (decimal number) → AreLines (closing_lines number)
closing_are_lines number none = (
  line_append (codes "Content-Length: ") (decimal number) (constant_line (codes "Content-Length: ") (omega arith) refl) none,
  (constant_line (codes "Connection: close") (omega arith) refl, tt),
)

pub are_append : (a b : List (List ℕ)) → AreLines a → AreLines b → AreLines (a ++ b)
are_append [] b none more = more
are_append (line ∷ lines) b are more = (are.0, are_append lines b are.1 more)

-- all lines of a written request
pub request_are_lines : (r : PlainRequest) (host : List ℕ) → IsLine r.method → HasNoReturn r.path → HasNoReturn r.query → HasNoReturn host → IfSome r.authorization HasNoReturn → HasNoReturn (decimal (length r.body)) → AreLines (request_lines r host)
request_are_lines r host method path query host_none authorization number = (
  first_is_line r.method r.path r.query method path query,
  (
    line_append (codes "Host: ") host (constant_line (codes "Host: ") (omega arith) refl) host_none,
    are_append (authorization_lines r.authorization) (closing_lines (length r.body))
        (authorization_are_lines r.authorization authorization) (closing_are_lines (length r.body) number),
  ),
)
