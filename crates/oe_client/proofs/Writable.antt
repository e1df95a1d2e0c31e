-- The request of a verb is one that is read again, where the parts of the call have their forms.
use Rattle.std.proofs.Common.{◌≡◌, ℕ, ◌+◌, ◌^◌, ◌<◌, ◌≤◌, ◌==◌, ◌&&◌, Bool, true, false, zero, suc, List, [], ◌∷◌, ◌++◌, length, reverse, Option, Some, None, Result, Ok, Err, IfOk, codes, decimal, nat_le, refl, sym, ap, subst, ◌∙◌, true≢false, arith}
use Rattle.std.specs.Prelude.{IfSome, slice_index, take, drop, unwrap_or, if◌then◌else◌, ◌||◌}
use Rattle.std.specs.List.{list_all, position_or_len}
use Rattle.std.specs.Char.{digit_value}
use Rattle.std.specs.Option.{option_map, option_map_or}
use Rattle.std.specs.Str.Parse.{AllDigits}
use Rattle.std.proofs.lemmas.Bool.{and_from, and_parts, cond-false, cond-true, eqb-true, leb-true, ltb-true}
use Rattle.std.proofs.lemmas.Bool.Decides.{nat_tests}
use Rattle.std.proofs.lemmas.Fmt.{decimal_is_IsNumeral, length-decimal-le}
use Rattle.std.proofs.lemmas.List.{append_assoc, append-nil, length-append, length-reverse, length-drop, length-take, reverse-append, reverse-reverse}
use Rattle.std.proofs.lemmas.List.Folds.{list_all-append}
use Rattle.std.proofs.lemmas.List.Sums.{AllPass-from_list_all}
use Rattle.httparse.specs.Grammar as grammar
use Rattle.httparse.specs.Grammar.{AllPass, is_ows, skip_ows, trim_ows}
use Rattle.oe_dims.specs.Names.{same_name}
use Rattle.oe_http.specs.Again.{IsCredentials, IsWritable, blank, is_path_byte, is_visible}
use Rattle.oe_http.specs.Heads.{slash}
use Rattle.oe_http.specs.Plain.{PlainRequest}
use Rattle.oe_http.specs.Replies.{field_line, line_end}
use Rattle.oe_http.specs.Requests.{most_body}
use Rattle.oe_http.specs.Written.{host_line, last_lines, mark_before, query_part, target_line}
use Rattle.oe_client.specs.Arguments.{IsArgumentOf, id_part, is_argument, is_argument_byte, rest_part}
use Rattle.oe_client.specs.Commands.{AreCallParts, credentials, is_token, page_request, path_with, plain_command, query_with, request_of}
use Rattle.oe_pages.specs.Pages.{page_query}
use Rattle.oe_client.specs.Pages.{page_limit}
use Rattle.oe_client.specs.Verbs.{Verb, first_named, method_name, verbs}
use Rattle.oe_client.specs.declared.command.ClientCommand.{ClientCommand}
use Rattle.oe_client.specs.declared.verbs.Argument.{Argument}
use Rattle.oe_client.specs.declared.verbs.Argument.TheVariants.{Missing, Id, JobAndAsset, JobAndOffset, ListName}

-- ---- the table

abbrev begins_with_slash : List ℕ → Bool
begins_with_slash [] = false
begins_with_slash (b ∷ bs) = b == 47

-- what each verb of the table has
abbrev is_plain : Verb → Bool
is_plain v =
    (grammar.is_token (method_name v.method) && nat_le (length (method_name v.method)) 6)
    && ((begins_with_slash v.before && (list_all is_path_byte v.before && nat_le (length v.before) 16))
    && (list_all is_path_byte v.behind && nat_le (length v.behind) 9))

verbs_plain : list_all is_plain verbs ≡ true
unfolding grammar.is_token_byte
verbs_plain = refl

-- what each of some verbs has, the one that is found among them has
found_plain : (word : List ℕ) (vs : List Verb) (v : Verb) → first_named word vs ≡ Some v → list_all is_plain vs ≡ true
    → is_plain v ≡ true
found_plain word [] v found all = absurd cc
found_plain word (w ∷ vs) v found all =
    let parts = and_parts (is_plain w) (list_all is_plain vs) all in
    by_test (λ later. found_plain word vs v later parts.1) parts.0 (same_name w.word word) refl
  where
    by_test : (first_named word vs ≡ Some v → is_plain v ≡ true) → is_plain w ≡ true → (test : Bool)
        → same_name w.word word ≡ test → is_plain v ≡ true
    by_test rest plain true named =
        let same : Some w ≡ Some v = sym (cond-true _ _ _ named) ∙ found in
        let is : w ≡ v = cc in
        subst (λ u. is_plain u ≡ true) is plain
    by_test rest plain false other = rest (sym (cond-false _ _ _ other) ∙ found)

record IsPlain (v : Verb) : Type 0 where
  method : grammar.is_token (method_name v.method) ≡ true
  method_short : length (method_name v.method) ≤ 6
  begins : begins_with_slash v.before ≡ true
  before : list_all is_path_byte v.before ≡ true
  before_short : length v.before ≤ 16
  behind : list_all is_path_byte v.behind ≡ true
  behind_short : length v.behind ≤ 9

plain_parts : (v : Verb) → is_plain v ≡ true → IsPlain v
plain_parts v h =
    let first = and_parts _ _ h in
    let second = and_parts _ _ first.1 in
    let method = and_parts _ _ first.0 in
    let begins = and_parts _ _ second.0 in
    let before = and_parts _ _ begins.1 in
    let behind = and_parts _ _ second.1 in
    record {
      method = method.0;
      method_short = leb-true _ _ method.1;
      begins = begins.0;
      before = before.0;
      before_short = leb-true _ _ before.1;
      behind = behind.0;
      behind_short = leb-true _ _ behind.1;
    }

-- ---- lists of bytes

-- a test of each byte, of both parts and of a part
all_both : (p : ℕ → Bool) (xs ys : List ℕ) → list_all p xs ≡ true → list_all p ys ≡ true → list_all p (xs ++ ys) ≡ true
all_both p xs ys h k = list_all-append p xs ys ∙ and_from (list_all p xs) (list_all p ys) h k

all_weaker : (p q : ℕ → Bool) → ((b : ℕ) → p b ≡ true → q b ≡ true) → (xs : List ℕ) → list_all p xs ≡ true
    → list_all q xs ≡ true
all_weaker p q weaker [] h = refl
all_weaker p q weaker (b ∷ xs) h =
    let parts = and_parts (p b) (list_all p xs) h in
    and_from (q b) (list_all q xs) (weaker b parts.0) (all_weaker p q weaker xs parts.1)

all_taken : (p : ℕ → Bool) (n : ℕ) (xs : List ℕ) → list_all p xs ≡ true → list_all p (take n xs) ≡ true
all_taken p zero [] h = refl
all_taken p zero (b ∷ xs) h = refl
all_taken p (suc n) [] h = refl
all_taken p (suc n) (b ∷ xs) h =
    let parts = and_parts (p b) (list_all p xs) h in
    and_from (p b) (list_all p (take n xs)) parts.0 (all_taken p n xs parts.1)

all_dropped : (p : ℕ → Bool) (n : ℕ) (xs : List ℕ) → list_all p xs ≡ true → list_all p (drop n xs) ≡ true
all_dropped p zero [] h = refl
all_dropped p zero (b ∷ xs) h = h
all_dropped p (suc n) [] h = refl
all_dropped p (suc n) (b ∷ xs) h = all_dropped p n xs (and_parts (p b) (list_all p xs) h).1

argument_path : (b : ℕ) → is_argument_byte b ≡ true → is_path_byte b ≡ true
argument_path b is = grind (arith, nat_tests)

path_visible : (b : ℕ) → is_path_byte b ≡ true → is_visible b ≡ true
path_visible b is = grind (arith, nat_tests)

visible_credential : (b : ℕ) → is_visible b ≡ true → (b == blank || is_visible b) ≡ true
visible_credential b is = grind (arith, nat_tests)

-- ---- an argument, and the path and the query that it makes

record IsPart (text : List ℕ) (most : ℕ) : Type 0 where
  bytes : list_all is_path_byte text ≡ true
  short : length text ≤ most

whole_part : (text : List ℕ) → is_argument text ≡ true → IsPart text 200
whole_part text h =
    let parts = and_parts _ _ h in
    record {
      bytes = all_weaker is_argument_byte is_path_byte argument_path text parts.1;
      short = leb-true _ _ (and_parts _ _ parts.0).1;
    }

id_of : (text : List ℕ) → is_argument text ≡ true → IsPart (id_part text) 200
id_of text h =
    let whole = whole_part text h in
    let n = position_or_len (λ b. b == 47) text in
    record {
      bytes = all_taken is_path_byte n text whole.bytes;
      short = omega (arith, length-take n text, whole.short);
    }

rest_of : (text : List ℕ) → is_argument text ≡ true → IsPart (rest_part text) 200
rest_of text h =
    let whole = whole_part text h in
    let n = position_or_len (λ b. b == 47) text in
    record {
      bytes = all_dropped is_path_byte (n + 1) text whole.bytes;
      short = omega (arith, length-drop (n + 1) text, whole.short);
    }

no_part : IsPart [] 200
no_part = record { bytes = refl; short = omega arith }

-- the path of an argument begins as the verb's does, and what follows is in form
record IsPath (before path : List ℕ) : Type 0 where
  rest : List ℕ
  follows : path ≡ before ++ rest
  bytes : list_all is_path_byte rest ≡ true
  short : length rest ≤ 409

path_in_form : (kind : Argument) (before : List ℕ) (argument : Option (List ℕ)) (behind : List ℕ) → IsPart behind 9
    → IsArgumentOf kind argument → IsPath before (path_with kind before (unwrap_or argument []) behind)
path_in_form Missing before None behind b is =
    record { rest = []; follows = sym (append-nil before); bytes = refl; short = omega arith }
path_in_form Missing before (Some text) behind b is = absurd is
path_in_form Id before None behind b is = absurd is
path_in_form Id before (Some text) behind b is =
    let whole = whole_part text is in
    record {
      rest = text ++ behind;
      follows = append_assoc before text behind;
      bytes = all_both is_path_byte text behind whole.bytes b.bytes;
      short = omega (arith, length-append text behind, whole.short, b.short);
    }
path_in_form JobAndAsset before None behind b is = absurd is
path_in_form JobAndAsset before (Some text) behind b is =
    let id = id_of text is.0 in
    let name = rest_of text is.0 in
    record {
      rest = id_part text ++ (behind ++ rest_part text);
      follows = append_assoc (before ++ id_part text) behind (rest_part text)
          ∙ append_assoc before (id_part text) (behind ++ rest_part text);
      bytes = all_both is_path_byte (id_part text) (behind ++ rest_part text) id.bytes
          (all_both is_path_byte behind (rest_part text) b.bytes name.bytes);
      short = omega (
        arith,
        length-append (id_part text) (behind ++ rest_part text),
        length-append behind (rest_part text),
        id.short,
        b.short,
        name.short,
      );
    }
path_in_form JobAndOffset before None behind b is = absurd is
path_in_form JobAndOffset before (Some text) behind b is =
    let id = id_of text is.0 in
    record {
      rest = id_part text ++ behind;
      follows = append_assoc before (id_part text) behind;
      bytes = all_both is_path_byte (id_part text) behind id.bytes b.bytes;
      short = omega (arith, length-append (id_part text) behind, id.short, b.short);
    }
path_in_form ListName before None behind b is = absurd is
path_in_form ListName before (Some text) behind b is =
    let whole = whole_part text is.0 in
    record {
      rest = text ++ behind;
      follows = append_assoc before text behind;
      bytes = all_both is_path_byte text behind whole.bytes b.bytes;
      short = omega (arith, length-append text behind, whole.short, b.short);
    }

-- the query for a page
digit_in_path : (b : ℕ) → digit_value b < 10 → is_path_byte b ≡ true
digit_in_path b is = grind (arith, nat_tests)

digits_in_path : (digits : List ℕ) → AllDigits 10 digits → list_all is_path_byte digits ≡ true
digits_in_path [] all = refl
digits_in_path (d ∷ digits) all =
    and_from (is_path_byte d) (list_all is_path_byte digits) (digit_in_path d all.0) (digits_in_path digits all.1)

page_in_form : (offset : ℕ) → offset < 2 ^ 64 → IsPart (page_query page_limit offset) 207
page_in_form offset below =
    let front : List ℕ = codes "limit=" ++ decimal 100 ++ codes "&offset=" in
    let hundred : List ℕ = codes "limit=" ++ decimal 100 in
    let small : 100 < 2 ^ 64 = omega arith in
    let limited : length hundred ≡ 6 + length (decimal 100) = length-append (codes "limit=") (decimal 100) in
    let behind : length front ≡ length hundred + 8 = length-append hundred (codes "&offset=") in
    let whole : length (front ++ decimal offset) ≡ length front + length (decimal offset) =
    length-append front (decimal offset) in
    let few : length (decimal 100) ≤ 20 = length-decimal-le 20 100 (omega arith) (omega arith) small in
    let digits : length (decimal offset) ≤ 20 = length-decimal-le 20 offset (omega arith) (omega (arith, below)) below in
    record {
      bytes = all_both is_path_byte front (decimal offset)
          (all_both is_path_byte hundred (codes "&offset=")
          (all_both is_path_byte (codes "limit=") (decimal 100) refl
          (digits_in_path (decimal 100) (decimal_is_IsNumeral 100 small).0.1)) refl)
          (digits_in_path (decimal offset) (decimal_is_IsNumeral offset below).0.1);
      short = omega (arith, limited, behind, whole, few, digits);
    }

query_in_form : (kind : Argument) (argument : Option (List ℕ)) → IsArgumentOf kind argument
    → IsPart (query_with kind (unwrap_or argument [])) 207
query_in_form Missing argument is = record { bytes = refl; short = omega arith }
query_in_form Id argument is = record { bytes = refl; short = omega arith }
query_in_form JobAndAsset argument is = record { bytes = refl; short = omega arith }
query_in_form JobAndOffset None is = absurd is
query_in_form JobAndOffset (Some text) is =
    let number = rest_of text is.0 in
    let named : length (codes "offset=" ++ rest_part text) ≡ 7 + length (rest_part text) =
    length-append (codes "offset=") (rest_part text) in
    record {
      bytes = all_both is_path_byte (codes "offset=") (rest_part text) refl number.bytes;
      short = omega (arith, named, number.short);
    }
query_in_form ListName argument is = page_in_form 0 (omega arith)

-- a text behind one that begins with a slash
slash_first : (before rest : List ℕ) → begins_with_slash before ≡ true → slice_index (before ++ rest) 0 ≡ slash
slash_first [] rest h = absurd (true≢false (sym h))
slash_first (b ∷ before) rest h = eqb-true b 47 h

-- ---- a token

no_blank : (b : ℕ) → is_visible b ≡ true → is_ows b ≡ false
no_blank b is = grind (arith, nat_tests)

-- nothing is skipped before a visible byte
skip_none : (bytes more : List ℕ) → 0 < length bytes → list_all is_visible bytes ≡ true
    → skip_ows (bytes ++ more) ≡ bytes ++ more
skip_none [] more some h = absurd (omega (arith, some))
skip_none (b ∷ bytes) more some h = cond-false _ _ _ (no_blank b (and_parts _ _ h).0)

all_reversed : (p : ℕ → Bool) (xs : List ℕ) → list_all p xs ≡ true → list_all p (reverse xs) ≡ true
all_reversed p [] h = refl
all_reversed p (b ∷ xs) h =
    let parts = and_parts (p b) (list_all p xs) h in
    subst (λ ys. list_all p ys ≡ true) (sym (reverse-append (b ∷ []) xs))
    (all_both p (reverse xs) (b ∷ []) (all_reversed p xs parts.1) (and_from (p b) true parts.0 refl))

trimmed : (token : List ℕ) → 0 < length token → list_all is_visible token ≡ true
    → trim_ows (credentials token) ≡ credentials token
unfolding trim_ows
trimmed token some h =
    let back : reverse (credentials token) ≡ reverse token ++ reverse (codes "Bearer basic//") =
    reverse-append (codes "Bearer basic//") token in
    let kept : skip_ows (reverse (credentials token)) ≡ reverse (credentials token) =
    ap skip_ows back
    ∙ skip_none (reverse token) (reverse (codes "Bearer basic//")) (omega (arith, some, length-reverse token))
    (all_reversed is_visible token h)
    ∙ sym back in
    ap reverse kept ∙ reverse-reverse (credentials token)

record IsToken (token : List ℕ) : Type 0 where
  some : 1 ≤ length token
  few : length token ≤ 128
  bytes : list_all is_visible token ≡ true

token_parts : (token : List ℕ) → is_token token ≡ true → IsToken token
token_parts token h =
    let parts = and_parts _ _ h in
    let lengths = and_parts _ _ parts.0 in
    record { some = leb-true _ _ lengths.0; few = leb-true _ _ lengths.1; bytes = parts.1 }

credentials_in_form : (token : Option (List ℕ)) → option_map_or is_token token true ≡ true
    → IfSome (option_map credentials token) IsCredentials
credentials_in_form None h = tt
credentials_in_form (Some token) h =
    let t = token_parts token h in
    record {
      bytes = AllPass-from_list_all (λ b. b == blank || is_visible b) (credentials token)
          (all_both (λ b. b == blank || is_visible b) (codes "Bearer basic//") token refl
          (all_weaker is_visible (λ b. b == blank || is_visible b) visible_credential token t.bytes));
      trimmed = trimmed token (omega (arith, t.some)) t.bytes;
    }

-- the line of the token is short
field_short : (token : Option (List ℕ)) → option_map_or is_token token true ≡ true
    → length (field_line (codes "Authorization: ") (option_map credentials token)) ≤ 159
field_short None h = omega arith
field_short (Some token) h =
    let t = token_parts token h in
    let named : length (codes "Authorization: " ++ (credentials token ++ line_end))
    ≡ 15 + length (credentials token ++ line_end) =
    length-append (codes "Authorization: ") (credentials token ++ line_end) in
    let ended : length (credentials token ++ line_end) ≡ length (credentials token) + 2 =
    length-append (credentials token) line_end in
    let bearer : length (credentials token) ≡ 14 + length token = length-append (codes "Bearer basic//") token in
    omega (arith, named, ended, bearer, t.few)

-- ---- the request

body_short : (sends : Bool) (input : List ℕ) → length input ≤ most_body → length (if sends then input else []) ≤ most_body
body_short true input short = short
body_short false input short = omega arith

mark_of : (none : Bool) → length (if none then [] else codes "?") ≤ 1
mark_of true = omega arith
mark_of false = omega arith

mark_short : (query : List ℕ) → length (mark_before query) ≤ 1
mark_short query = mark_of (length query == 0)

-- so many bytes are short for a head
head_short : (method path query host field : List ℕ) (number : ℕ)
    → length method ≤ 6 → length path ≤ 425 → length query ≤ 207 → length host ≤ 259 → length field ≤ 159
    → number ≤ 1048576
    → length (target_line method path query ++ (host_line host ++ (field ++ last_lines number))) ≤ 16384
head_short method path query host field number m p q h f n =
    let digits : length (decimal number) ≤ 19 =
    length-decimal-le 19 number (omega arith) (omega (arith, n)) (omega (arith, n)) in
    let mark : length (mark_before query) ≤ 1 = mark_short query in
    let spaced : length (codes " " ++ path) ≡ 1 + length path = length-append (codes " ") path in
    let named : length (method ++ (codes " " ++ path)) ≡ length method + length (codes " " ++ path) =
    length-append method (codes " " ++ path) in
    let version : length (query ++ codes " HTTP/1.1\r\n") ≡ length query + 11 =
    length-append query (codes " HTTP/1.1\r\n") in
    let asked : length (query_part query) ≡ length (mark_before query) + length (query ++ codes " HTTP/1.1\r\n") =
    length-append (mark_before query) (query ++ codes " HTTP/1.1\r\n") in
    let target : length (target_line method path query)
    ≡ length (method ++ (codes " " ++ path)) + length (query_part query) =
    length-append (method ++ (codes " " ++ path)) (query_part query) in
    let hosted : length (host_line host) ≡ 6 + length (host ++ line_end) =
    length-append (codes "Host: ") (host ++ line_end) in
    let host_ended : length (host ++ line_end) ≡ length host + 2 = length-append host line_end in
    let last : length (last_lines number)
    ≡ 16 + length (decimal number ++ codes "\r\nConnection: close\r\n\r\n") =
    length-append (codes "Content-Length: ") (decimal number ++ codes "\r\nConnection: close\r\n\r\n") in
    let number_ended : length (decimal number ++ codes "\r\nConnection: close\r\n\r\n") ≡ length (decimal number) + 23 =
    length-append (decimal number) (codes "\r\nConnection: close\r\n\r\n") in
    let behind : length (field ++ last_lines number) ≡ length field + length (last_lines number) =
    length-append field (last_lines number) in
    let lines : length (host_line host ++ (field ++ last_lines number))
    ≡ length (host_line host) + length (field ++ last_lines number) =
    length-append (host_line host) (field ++ last_lines number) in
    let all : length (target_line method path query ++ (host_line host ++ (field ++ last_lines number)))
    ≡ length (target_line method path query) + length (host_line host ++ (field ++ last_lines number)) =
    length-append (target_line method path query) (host_line host ++ (field ++ last_lines number)) in
    omega (
      arith,
      digits,
      mark,
      named,
      version,
      asked,
      target,
      hosted,
      host_ended,
      last,
      number_ended,
      behind,
      lines,
      all,
      m,
      p,
      q,
      h,
      f,
    )

-- with a query in form
writable_asking : (v : Verb) (argument token : Option (List ℕ)) (host input query : List ℕ)
    → AreCallParts v argument token host input → IsPart query 207
    → IsWritable (record (request_of v argument token input) { query = query }) host
writable_asking v argument token host input query_text parts query =
    let plain = plain_parts v (found_plain parts.word verbs v parts.named verbs_plain) in
    let path = path_in_form v.argument v.before argument v.behind
    (record { bytes = plain.behind; short = plain.behind_short }) parts.argument_valid in
    let held = and_parts _ _ parts.host_valid in
    let whole = path_with v.argument v.before (unwrap_or argument []) v.behind in
    let bytes : list_all is_path_byte whole ≡ true =
    subst (λ p. list_all is_path_byte p ≡ true) (sym path.follows)
    (all_both is_path_byte v.before path.rest plain.before path.bytes) in
    let short : length whole ≤ 425 =
    omega (arith, ap length path.follows, length-append v.before path.rest, plain.before_short, path.short) in
    let method = and_parts _ _ plain.method in
    let body = body_short v.sends_input input parts.short in
    record {
      method = (ltb-true _ _ method.0, AllPass-from_list_all grammar.is_token_byte (method_name v.method) method.1);
      slash = subst (λ p. slice_index p 0 ≡ slash) (sym path.follows) (slash_first v.before path.rest plain.begins);
      path = AllPass-from_list_all is_path_byte whole bytes;
      query = AllPass-from_list_all is_visible query_text
          (all_weaker is_path_byte is_visible path_visible query_text query.bytes);
      host_text = AllPass-from_list_all is_visible host held.1;
      authorization = credentials_in_form token parts.token_valid;
      head = head_short (method_name v.method) whole query_text host
          (field_line (codes "Authorization: ") (option_map credentials token))
          (length (if v.sends_input then input else []))
          plain.method_short short query.short (leb-true _ _ held.0) (field_short token parts.token_valid) body;
      body = body;
    }

writable : (v : Verb) (argument token : Option (List ℕ)) (host input : List ℕ)
    → AreCallParts v argument token host input → IsWritable (request_of v argument token input) host
writable v argument token host input parts =
    writable_asking v argument token host input (query_with v.argument (unwrap_or argument [])) parts
    (query_in_form v.argument argument parts.argument_valid)

-- of the command for a page that was made
pub page_writable : {E : Type 0} (result : Result ClientCommand E) (v : Verb) (argument token : Option (List ℕ))
    (host : List ℕ) (offset : ℕ) → offset < 2 ^ 64
    → IfOk result (λ c. (plain_command c).request ≡ page_request v argument token offset) → IfOk result (λ c. c.host ≡ host)
    → IfOk result
    (λ c. AreCallParts v argument token host [] → IsWritable (plain_command c).request c.host)
page_writable (Ok c) v argument token host offset below request host_is = λ parts.
    let P : PlainRequest → Type 0 = λ r. IsWritable r c.host in
    let Q : List ℕ → Type 0 = λ h. IsWritable (page_request v argument token offset) h in
    subst P (sym request) (subst Q (sym host_is)
    (writable_asking v argument token host [] (page_query page_limit offset) parts (page_in_form offset below)))
page_writable (Err e) v argument token host offset below request host_is = tt

-- of a command that was made
pub command_writable : {E : Type 0} (result : Result ClientCommand E) (v : Verb) (argument token : Option (List ℕ))
    (host input : List ℕ)
    → IfOk result (λ c. (plain_command c).request ≡ request_of v argument token input) → IfOk result (λ c. c.host ≡ host)
    → IfOk result
    (λ c. AreCallParts v argument token host input → IsWritable (plain_command c).request c.host)
command_writable (Ok c) v argument token host input request host_is = λ parts.
    let P : PlainRequest → Type 0 = λ r. IsWritable r c.host in
    let Q : List ℕ → Type 0 = λ h. IsWritable (request_of v argument token input) h in
    subst P (sym request) (subst Q (sym host_is) (writable v argument token host input parts))
command_writable (Err e) v argument token host input request host_is = tt
