-- The head of a written request is found where it ends, and has few line ends.
use Rattle.std.proofs.Common.{◌≡◌, ℕ, ◌+◌, ◌<◌, ◌≤◌, ◌^◌, List, [], ◌∷◌, ◌++◌, length, take, get_or, codes, decimal, sym, ◌∙◌, ap, arith, subst, Option, Some, None, IfSome, Bool, true, false, IsTrue, ◌==◌, if◌then◌else◌, refl, append-nil}
use Rattle.std.specs.Str.Parse.{AllDigits}
use Rattle.std.specs.Char.{digit_value}
use Rattle.std.proofs.lemmas.Fmt.{decimal_is_IsNumeral}
use Rattle.std.proofs.lemmas.List.{append_assoc, length-append, take_all}
use Rattle.std.proofs.Math.Seq.{drop-append_seam, take-append_seam}
use Rattle.std.proofs.lemmas.List.Elements.{All-append}
use Rattle.std.proofs.lemmas.List.Sums.{AllPass-from_list_all}
use Rattle.httparse.specs.Grammar.{AllPass, IsRequestHead, ReadsRequest, RequestHead, crlf, is_token_byte, print_end, print_request, print_version, print_section}
use Rattle.oe_http.specs.Again.{IsCredentials, IsWritable, is_visible}
use Rattle.oe_http.specs.Bodies.{body_of}
use Rattle.oe_http.specs.Fields.{said_length}
use Rattle.oe_http.specs.Front.{IsHeadEnd, carriage_return, line_ends}
use Rattle.oe_http.specs.Heads.{IsPlainHead, fields_of, slash}
use Rattle.oe_http.specs.Plain.{PlainRequest}
use Rattle.oe_http.specs.Requests.{HasHead, IsRequestOf, request_of}
use Rattle.oe_http.specs.Written.{mark_before, request_bytes, request_head}
use Rattle.oe_http.proofs.Fronts.{head_of_read}
use Rattle.oe_http.proofs.HeadLines.{authorization_lines, closing_lines, first_line, head_of_request_lines, request_are_lines, request_lines}
use Rattle.oe_http.proofs.Lines.{AreLines, HasNoReturn, ended, head_end_of_lines, line_ends_of_lines, no_return_append, no_return_value}
use Rattle.oe_http.proofs.Targets.{path_of_target, query_of_target, target_of}
use Rattle.oe_http.proofs.Visible.{all_uri, all_value, all_visible, credentials_value, no_mark, visible_utf8}
use Rattle.oe_http.proofs.WrittenFields.{few_fields, not_coded, one_authorization, one_length, request_are_fields, request_fields, request_section, says_authorization, says_length}

-- digits are no CR
single : (byte : ℕ) → ¬ (byte ≡ carriage_return) → HasNoReturn (byte ∷ [])
single byte other i lt is =
    let zero : i ≡ 0 = omega (arith, lt) in
    let P : ℕ → Type 0 = λ k. get_or (byte ∷ []) k 0 ≡ carriage_return in other (subst P zero is)

digits_no_return : (digits : List ℕ) → AllDigits 10 digits → HasNoReturn digits
digits_no_return [] all = λ i lt is. absurd (omega (arith, lt))
digits_no_return (digit ∷ digits) all =
    let other : ¬ (digit ≡ carriage_return) = λ same.
    let P : ℕ → Type 0 = λ d. digit_value d < 10 in
    let wrong : P carriage_return = subst P same all.0 in absurd (omega (arith, wrong)) in
    no_return_append (digit ∷ []) digits (single digit other) (digits_no_return digits all.1)

decimal_no_return : (number : ℕ) → number < 2 ^ 64 → HasNoReturn (decimal number)
decimal_no_return number small = digits_no_return (decimal number) (decimal_is_IsNumeral number small).0.1

-- a token has no CR
no_return_token : (bytes : List ℕ) → AllPass is_token_byte bytes → HasNoReturn bytes
unfolding is_token_byte
no_return_token bytes pass i lt is =
    let P : ℕ → Type 0 = λ b. IsTrue (is_token_byte b) in
    let wrong : P carriage_return = subst P is (pass i 0 lt) in cc wrong

no_return_visible : (bytes : List ℕ) → AllPass is_visible bytes → HasNoReturn bytes
no_return_visible bytes pass = no_return_value bytes (all_value bytes pass)

no_return_credentials : (value : Option (List ℕ)) → IfSome value IsCredentials → IfSome value HasNoReturn
no_return_credentials None may = tt
no_return_credentials (Some value) may = no_return_value value (credentials_value value may.bytes)

are_lines : (r : PlainRequest) (host : List ℕ) → IsWritable r host → AreLines (request_lines r host)
are_lines r host may =
    request_are_lines r host (record { some = may.method.0; none = no_return_token r.method may.method.1 })
    (no_return_visible r.path (all_visible r.path may.path)) (no_return_visible r.query may.query)
    (no_return_visible host may.host_text) (no_return_credentials r.authorization may.authorization)
    (decimal_no_return (length r.body) (omega (arith, may.body)))

few_lines : (r : PlainRequest) (host : List ℕ) (authorization : Option (List ℕ)) → length (authorization_lines authorization ++ closing_lines (length r.body)) ≤ 3
few_lines r host None = omega arith
few_lines r host (Some value) = omega arith

-- so it is the head of the bytes
pub has_written_head : (r : PlainRequest) (host rest : List ℕ) → IsWritable r host → HasHead (request_head r host ++ rest) (request_head r host)
has_written_head r host rest may =
    let lines = head_of_request_lines r host in
    let behind : List (List ℕ) = (codes "Host: " ++ host) ∷ (authorization_lines r.authorization ++ closing_lines (length r.body)) in
    let P : List ℕ → Type 0 = λ head. IsHeadEnd head (length head) in
    let ends : P (request_head r host) = subst P (sym lines) (head_end_of_lines (first_line r.method r.path r.query) behind (are_lines r host may)) in
    let all : request_head r host ≡ take (length (request_head r host)) (request_head r host) =
    sym (take_all (length (request_head r host)) (request_head r host) (omega arith)) in
    let count : line_ends (request_head r host) ≡ length (request_lines r host) + 1 =
    ap line_ends lines ∙ line_ends_of_lines (request_lines r host) (are_lines r host may) in
    let few : length (authorization_lines r.authorization ++ closing_lines (length r.body)) ≤ 3 = few_lines r host r.authorization in
    record {
      head_of = head_of_read (request_head r host) rest (request_head r host) (length (request_head r host)) may.head ends all;
      few = omega (arith, count, few);
    }

-- the parts of the head
abbrev pub request_parts : PlainRequest → List ℕ → RequestHead
request_parts r host =
    record { blank = []; method = r.method; target = target_of r.path r.query; minor = 1; line_end = crlf; fields = request_fields r host; last = crlf }

start_line : (method path mark query rest : List ℕ) → method ++ 32 ∷ (path ++ (mark ++ query)) ++ 32 ∷ print_version 1 ++ print_end crlf ++ rest ≡ ended ((method ++ (codes " " ++ path)) ++ (mark ++ (query ++ codes " HTTP/1.1"))) rest
start_line method path mark query rest = grind (arith, append_assoc)

printed : (r : PlainRequest) (host : List ℕ) → request_head r host ≡ print_request (request_parts r host)
unfolding print_request
printed r host =
    head_of_request_lines r host
    ∙ ap (ended (first_line r.method r.path r.query)) (sym (request_section r host))
    ∙ sym (start_line r.method r.path (mark_before r.query) r.query (print_section (request_fields r host) crlf))

mark_visible : (empty : Bool) → AllPass is_visible (if empty then [] else codes "?")
mark_visible true = AllPass-from_list_all is_visible [] refl
mark_visible false = AllPass-from_list_all is_visible (codes "?") refl

target_visible : (r : PlainRequest) (host : List ℕ) → IsWritable r host → AllPass is_visible (target_of r.path r.query)
target_visible r host may =
    All-append (λ b. IsTrue (is_visible b)) r.path (mark_before r.query ++ r.query) (all_visible r.path may.path)
    (All-append (λ b. IsTrue (is_visible b)) (mark_before r.query) r.query (mark_visible (length r.query == 0)) may.query)

slash_first : (path rest : List ℕ) → get_or path 0 0 ≡ slash → (0 < length (path ++ rest)) × (get_or (path ++ rest) 0 0 ≡ slash)
slash_first [] rest first = absurd (cc first)
slash_first (b ∷ path) rest first = (omega arith, first)

is_request_head : (r : PlainRequest) (host : List ℕ) → IsWritable r host → IsRequestHead (request_parts r host)
is_request_head r host may = record {
  method = may.method;
  target = ((slash_first r.path (mark_before r.query ++ r.query) may.slash).0, all_uri (target_of r.path r.query) (target_visible r host may));
  target_text = visible_utf8 (target_of r.path r.query) (target_visible r host may);
  minor = omega arith;
  fields = request_are_fields r host may.host_text may.authorization (omega (arith, may.body));
}

reads_head : (r : PlainRequest) (host : List ℕ) → IsWritable r host → ReadsRequest (request_head r host) (request_parts r host) []
reads_head r host may = (is_request_head r host may, printed r host ∙ sym (append-nil (print_request (request_parts r host))))

is_plain : (r : PlainRequest) (host : List ℕ) → IsWritable r host → IsPlainHead (request_head r host) (request_parts r host)
is_plain r host may = record {
  valid = record {
    whole = record { reads = reads_head r host may; few = few_fields r host };
    target = (slash_first r.path (mark_before r.query ++ r.query) may.slash).1;
    one_length = one_length r host (omega (arith, may.body));
    one_authorization = one_authorization r host may.authorization;
  };
  not_coded = not_coded r host;
}

-- the body behind the head
body_behind : (head body rest : List ℕ) → body_of (head ++ (body ++ rest)) head (length body) ≡ body
body_behind head body rest =
    ap (take (length body)) (drop-append_seam head (body ++ rest)) ∙ take-append_seam body rest

same_parts : (r : PlainRequest) (host rest : List ℕ) → IsWritable r host → r ≡ request_of (request_parts r host) (body_of (request_head r host ++ (r.body ++ rest)) (request_head r host) (said_length (fields_of (request_parts r host))))
same_parts r host rest may =
    let none = no_mark r.path may.path in
    let number = says_length r host (omega (arith, may.body)) in
    let body : body_of (request_head r host ++ (r.body ++ rest)) (request_head r host) (said_length (fields_of (request_parts r host))) ≡ r.body =
    ap (body_of (request_head r host ++ (r.body ++ rest)) (request_head r host)) number ∙ body_behind (request_head r host) r.body rest in
    let path = path_of_target r.path r.query none in
    let query = query_of_target r.path r.query none in
    let value = says_authorization r host may.authorization in
    sym (rw (body, path, query, value) refl)

-- a written request is the request at the front of its bytes
pub written_is_request : (r : PlainRequest) (host rest : List ℕ) → IsWritable r host → IsRequestOf (request_bytes r host ++ rest) r
written_is_request r host rest may =
    let P : List ℕ → Type 0 = λ bytes. IsRequestOf bytes r in
    let number = says_length r host (omega (arith, may.body)) in
    let size = length-append (request_head r host) (r.body ++ rest) in
    subst P (sym (append_assoc (request_head r host) r.body rest)) (record {
      head = request_head r host;
      parts = request_parts r host;
      has_head = has_written_head r host (r.body ++ rest) may;
      plain = is_plain r host may;
      within = omega (arith, number, may.body);
      whole = omega (arith, number, size, length-append r.body rest);
      is = same_parts r host rest may;
    })
