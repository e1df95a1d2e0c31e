-- The head of a reply is found where it ends, and the reply is what stands at the front of its bytes.
use Rattle.std.proofs.Common.{◌≡◌, ℕ, zero, suc, ◌+◌, ◌<◌, ◌≤◌, ◌^◌, List, [], ◌∷◌, ◌++◌, length, take, codes, decimal, sym, ◌∙◌, ap, arith, subst, Option, Some, None, IfSome, Bool, true, false, ◌&&◌, refl, append-nil, unwrap_or, IsUtf8}
use Rattle.std.proofs.lemmas.Fmt.{decimal_is_IsNumeral, length-decimal-le}
use Rattle.std.proofs.lemmas.Int.Digits.{digits_value-lt}
use Rattle.std.proofs.lemmas.Bool.Decides.{nat_tests}
use Rattle.std.proofs.lemmas.List.{append_assoc, length-append, take_all}
use Rattle.std.proofs.Math.Seq.{drop-append_seam, take-append_seam}
use Rattle.http.specs.StatusCode.{reason_phrase}
use Rattle.httparse.specs.Grammar.{AllPass, IsResponseHead, ReadsResponse, ResponseHead, crlf, print_end, print_response, print_section, print_version, status_code}
use Rattle.oe_http.specs.Again.{IsWritableReply, is_visible}
use Rattle.oe_http.specs.Bodies.{body_of}
use Rattle.oe_http.specs.Fields.{content_length, length_said, said_length, values_of}
use Rattle.oe_http.specs.Front.{IsHeadEnd, line_ends}
use Rattle.oe_http.specs.Replies.{PlainResponse, has_body, has_length, reply_bytes, reply_head, sent_body, text_if}
use Rattle.oe_http.specs.Requests.{HasHead}
use Rattle.oe_http.specs.Responses.{IsResponseOf, IsValidReply, SaysOneLength, reply_fields, response_of}
use Rattle.oe_http.proofs.Fronts.{head_of_read}
use Rattle.oe_http.proofs.HeadLines.{are_append, code_text, constant, constant_line, head_of_reply_lines, last_reply_lines, lines_if, lines_of_field, named_reply_lines}
use Rattle.oe_http.proofs.Lines.{AreLines, HasNoReturn, IsLine, ended, head_end_of_lines, line_append, line_ends_of_lines, no_return_append, no_return_value}
use Rattle.oe_http.proofs.Phrases.{is_phrase, phrase_status}
use Rattle.oe_http.proofs.ReplyFields.{few_reply_fields, fields_of_reply, reply_are_fields, reply_lengths, reply_section, values_if}
use Rattle.oe_http.proofs.Visible.{all_value, decimal_digits, decimal_length_text, decimal_says, decimal_value}

-- a reply's phrase, and the number of bytes that it sends
abbrev pub phrase_of : PlainResponse → List ℕ
phrase_of r = unwrap_or (reason_phrase r.status) []

abbrev pub sent_length : PlainResponse → ℕ
sent_length r = length (sent_body r)

abbrev pub head_of_reply : PlainResponse → List ℕ
head_of_reply r = reply_head r.status r.location r.identifier r.json (sent_length r)

-- three digits
below_hundred : (k n : ℕ) → k < 3 → n < 10 ^ k → n < 100
below_hundred zero n few small = omega (arith, small)
below_hundred (suc zero) n few small = omega (arith, small)
below_hundred (suc (suc zero)) n few small = omega (arith, small)
below_hundred (suc (suc (suc k))) n few small = absurd (omega (arith, few))

three_digits : (n : ℕ) → 100 ≤ n → n < 1000 → length (decimal n) ≡ 3
three_digits n low high =
    let small : n < 2 ^ 64 = omega (arith, high) in
    let numeral = decimal_is_IsNumeral n small in
    let most : length (decimal n) ≤ 3 = length-decimal-le 3 n (omega arith) (omega (arith, high)) small in
    let P : ℕ → Type 0 = λ m. m < 10 ^ length (decimal n) in
    let under : n < 10 ^ length (decimal n) = subst P numeral.1 (digits_value-lt 10 (decimal n) numeral.0.1) in
    let least : ¬ (length (decimal n) < 3) = λ few. let low_again = below_hundred (length (decimal n)) n few under in absurd (omega (arith, low, low_again)) in
    grind (arith, least, most)

-- the lines of a reply
visible_none : (bytes : List ℕ) → AllPass is_visible bytes → HasNoReturn bytes
visible_none bytes pass = no_return_value bytes (all_value bytes pass)

lines_if_are : (applies : Bool) (line : List ℕ) → IsLine line → AreLines (lines_if applies line)
lines_if_are true line is = (is, tt)
lines_if_are false line is = tt

field_lines_are : (name : List ℕ) (value : Option (List ℕ)) → IsLine name → IfSome value (AllPass is_visible) → AreLines (lines_of_field name value)
field_lines_are name None line pass = tt
field_lines_are name (Some value) line pass = (line_append name value line (visible_none value pass), tt)

code_is_line : (status : ℕ) → status < 2 ^ 64 → IsLine (code_text (decimal status) (unwrap_or (reason_phrase status) []))
code_is_line status small =
    let digits : HasNoReturn (decimal status) = no_return_value (decimal status) (decimal_value status small) in
    let phrase : HasNoReturn (unwrap_or (reason_phrase status) []) = no_return_value (unwrap_or (reason_phrase status) []) (is_phrase status).bytes in
    line_append (codes "HTTP/1.1 " ++ decimal status) (codes " " ++ unwrap_or (reason_phrase status) [])
    (line_append (codes "HTTP/1.1 ") (decimal status) (constant_line (codes "HTTP/1.1 ") (omega arith) refl) digits)
    (no_return_append (codes " ") (unwrap_or (reason_phrase status) []) (constant (codes " ") refl) phrase)

abbrev pub lines_behind_code : PlainResponse → List (List ℕ)
lines_behind_code r =
    lines_if (r.json && has_body r.status) (codes "Content-Type: application/json") ++ named_reply_lines r.status r.location r.identifier (sent_length r)

behind_are_lines : (r : PlainResponse) → IsWritableReply r → AreLines (lines_behind_code r)
behind_are_lines r may =
    let small : sent_length r < 2 ^ 64 = omega (arith, may.body) in
    let digits : HasNoReturn (decimal (sent_length r)) = no_return_value (decimal (sent_length r)) (decimal_value (sent_length r) small) in
    let size = line_append (codes "Content-Length: ") (decimal (sent_length r)) (constant_line (codes "Content-Length: ") (omega arith) refl) digits in
    are_append (lines_if (r.json && has_body r.status) (codes "Content-Type: application/json")) (named_reply_lines r.status r.location r.identifier (sent_length r))
    (lines_if_are (r.json && has_body r.status) (codes "Content-Type: application/json") (constant_line (codes "Content-Type: application/json") (omega arith) refl))
    (are_append (lines_of_field (codes "Location: ") r.location) (lines_of_field (codes "OpenEO-Identifier: ") r.identifier ++ last_reply_lines r.status (sent_length r))
    (field_lines_are (codes "Location: ") r.location (constant_line (codes "Location: ") (omega arith) refl) may.location)
    (are_append (lines_of_field (codes "OpenEO-Identifier: ") r.identifier) (last_reply_lines r.status (sent_length r))
    (field_lines_are (codes "OpenEO-Identifier: ") r.identifier (constant_line (codes "OpenEO-Identifier: ") (omega arith) refl) may.identifier)
    (are_append (lines_if (has_length r.status) (codes "Content-Length: " ++ decimal (sent_length r))) (codes "Connection: close" ∷ [])
    (lines_if_are (has_length r.status) (codes "Content-Length: " ++ decimal (sent_length r)) size)
    (constant_line (codes "Connection: close") (omega arith) refl, tt))))

few_if : (applies : Bool) (line : List ℕ) → length (lines_if applies line) ≤ 1
few_if true line = omega arith
few_if false line = omega arith

few_of_field : (name : List ℕ) (value : Option (List ℕ)) → length (lines_of_field name value) ≤ 1
few_of_field name None = omega arith
few_of_field name (Some value) = omega arith

few_behind : (r : PlainResponse) → length (lines_behind_code r) ≤ 5
few_behind r = omega (
  arith,
  few_if (r.json && has_body r.status) (codes "Content-Type: application/json"),
  few_of_field (codes "Location: ") r.location,
  few_of_field (codes "OpenEO-Identifier: ") r.identifier,
  few_if (has_length r.status) (codes "Content-Length: " ++ decimal (sent_length r)),
  length-append (lines_if (r.json && has_body r.status) (codes "Content-Type: application/json")) (named_reply_lines r.status r.location r.identifier (sent_length r)),
  length-append (lines_of_field (codes "Location: ") r.location) (lines_of_field (codes "OpenEO-Identifier: ") r.identifier ++ last_reply_lines r.status (sent_length r)),
  length-append (lines_of_field (codes "OpenEO-Identifier: ") r.identifier) (last_reply_lines r.status (sent_length r)),
  length-append (lines_if (has_length r.status) (codes "Content-Length: " ++ decimal (sent_length r))) (codes "Connection: close" ∷ []),
)

has_reply_head : (r : PlainResponse) (rest : List ℕ) → IsWritableReply r → HasHead (head_of_reply r ++ rest) (head_of_reply r)
has_reply_head r rest may =
    let status = phrase_status r.status may.phrase in
    let head : List ℕ = head_of_reply r in
    let first : List ℕ = code_text (decimal r.status) (phrase_of r) in
    let lines = head_of_reply_lines r.status r.location r.identifier r.json (sent_length r) in
    let are : AreLines (first ∷ lines_behind_code r) = (code_is_line r.status (omega (arith, status.1)), behind_are_lines r may) in
    let P : List ℕ → Type 0 = λ text. IsHeadEnd text (length text) in
    let ends : P head = subst P (sym lines) (head_end_of_lines first (lines_behind_code r) are) in
    let all : head ≡ take (length head) head = sym (take_all (length head) head (omega arith)) in
    let count : line_ends head ≡ length (first ∷ lines_behind_code r) + 1 =
    ap line_ends lines ∙ line_ends_of_lines (first ∷ lines_behind_code r) are in
    record {
      head_of = head_of_read head rest head (length head) may.head ends all;
      few = omega (arith, count, few_behind r);
    }

-- the parts of the head
abbrev pub reply_parts : PlainResponse → ResponseHead
reply_parts r =
    record { blank = []; minor = 1; digits = decimal r.status; reason = Some (phrase_of r); line_end = crlf; fields = fields_of_reply r.status r.location r.identifier r.json (sent_length r); last = crlf }

start_line : (digits phrase rest : List ℕ) → print_version 1 ++ 32 ∷ digits ++ (32 ∷ phrase) ++ print_end crlf ++ rest ≡ ended (code_text digits phrase) rest
start_line digits phrase rest = grind (arith, append_assoc)

printed : (r : PlainResponse) → head_of_reply r ≡ print_response (reply_parts r)
unfolding print_response
printed r =
    head_of_reply_lines r.status r.location r.identifier r.json (sent_length r)
    ∙ ap (ended (code_text (decimal r.status) (phrase_of r))) (sym (reply_section r.status r.location r.identifier r.json (sent_length r)))
    ∙ sym (start_line (decimal r.status) (phrase_of r) (print_section (fields_of_reply r.status r.location r.identifier r.json (sent_length r)) crlf))

is_response_head : (r : PlainResponse) → IsWritableReply r → IsResponseHead (reply_parts r)
is_response_head r may =
    let status = phrase_status r.status may.phrase in
    record {
      minor = omega arith;
      digits = (three_digits r.status status.0 status.1, decimal_digits r.status (omega (arith, status.1)));
      reason = (is_phrase r.status).bytes;
      fields = reply_are_fields r.status r.location r.identifier r.json (sent_length r) may.location may.identifier (omega (arith, may.body));
    }

reads_head : (r : PlainResponse) → IsWritableReply r → ReadsResponse (head_of_reply r) (reply_parts r) []
reads_head r may = (is_response_head r may, printed r ∙ sym (append-nil (print_response (reply_parts r))))

-- its status and its length
says_status : (r : PlainResponse) → IsWritableReply r → status_code (reply_parts r) ≡ r.status
says_status r may = decimal_says r.status (omega (arith, (phrase_status r.status may.phrase).1))

is_no_content : (status : ℕ) → has_length status ≡ false → status ≡ 204
is_no_content status none = grind (arith, nat_tests)

one_value : (status number : ℕ) (applies : Bool) → has_length status ≡ applies → number ≤ 16777216 → SaysOneLength status (values_if applies (decimal number))
one_value status number true is most = decimal_length_text number most
one_value status number false is most = is_no_content status is

one_length : (r : PlainResponse) → IsWritableReply r → SaysOneLength (status_code (reply_parts r)) (values_of content_length (reply_fields (reply_parts r)))
one_length r may =
    let values = reply_lengths r.status r.location r.identifier r.json (sent_length r) (omega (arith, may.body)) in
    let P : ℕ → Type 0 = λ status. SaysOneLength status (values_of content_length (reply_fields (reply_parts r))) in
    let Q : List (List ℕ) → Type 0 = λ found. SaysOneLength r.status found in
    subst P (sym (says_status r may)) (subst Q (sym values) (one_value r.status (sent_length r) (has_length r.status) refl may.body))

sends_nothing : (status : ℕ) (body : List ℕ) → has_length status ≡ false → text_if (has_body status) body ≡ []
sends_nothing status body none =
    let is : status ≡ 204 = is_no_content status none in ap (λ n. text_if (has_body n) body) is

said_value : (status : ℕ) (body : List ℕ) (applies : Bool) → has_length status ≡ applies → length (text_if (has_body status) body) < 2 ^ 64 → length_said (values_if applies (decimal (length (text_if (has_body status) body)))) ≡ length (text_if (has_body status) body)
said_value status body true is small = decimal_says (length (text_if (has_body status) body)) small
said_value status body false is small = sym (ap length (sends_nothing status body is))

says_length : (r : PlainResponse) → IsWritableReply r → said_length (reply_fields (reply_parts r)) ≡ sent_length r
says_length r may =
    ap length_said (reply_lengths r.status r.location r.identifier r.json (sent_length r) (omega (arith, may.body)))
    ∙ said_value r.status r.body (has_length r.status) refl (omega (arith, may.body))

is_valid : (r : PlainResponse) → IsWritableReply r → IsValidReply (head_of_reply r) (reply_parts r)
is_valid r may = record {
  whole = record { reads = reads_head r may; few = few_reply_fields r.status r.location r.identifier r.json (sent_length r) };
  status = omega (arith, says_status r may, (phrase_status r.status may.phrase).0);
  one_length = one_length r may;
}

-- what a client reads of it
abbrev pub seen_of : PlainResponse → PlainResponse
seen_of r = record { status = r.status; location = None; identifier = None; json = false; body = sent_body r }

body_behind : (head body rest : List ℕ) → body_of (head ++ (body ++ rest)) head (length body) ≡ body
body_behind head body rest =
    ap (take (length body)) (drop-append_seam head (body ++ rest)) ∙ take-append_seam body rest

pub written_is_response : (r : PlainResponse) (rest : List ℕ) → IsWritableReply r → IsResponseOf (reply_bytes r ++ rest) (seen_of r)
written_is_response r rest may =
    let head : List ℕ = head_of_reply r in
    let all : List ℕ = head ++ (sent_body r ++ rest) in
    let P : List ℕ → Type 0 = λ bytes. IsResponseOf bytes (seen_of r) in
    let number = says_length r may in
    let size = length-append head (sent_body r ++ rest) in
    let body : body_of all head (said_length (reply_fields (reply_parts r))) ≡ sent_body r =
    ap (body_of all head) number ∙ body_behind head (sent_body r) rest in
    subst P (sym (append_assoc head (sent_body r) rest)) (record {
      head = head;
      parts = reply_parts r;
      has_head = has_reply_head r (sent_body r ++ rest) may;
      valid = is_valid r may;
      within = omega (arith, number, may.body);
      whole = omega (arith, number, size, length-append (sent_body r) rest);
      text = subst IsUtf8 (sym body) may.text;
      is = sym (ap (λ b. response_of (reply_parts r) b) body ∙ ap (λ s. record { status = s; location = None; identifier = None; json = false; body = sent_body r }) (says_status r may));
    })
