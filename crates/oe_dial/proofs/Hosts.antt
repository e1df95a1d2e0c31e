-- The parts of a call have their forms, so that its request is one that is read again.
use Rattle.std.proofs.Common.{◌≡◌, ℕ, ◌+◌, ◌<◌, ◌≤◌, ◌^◌, ◌&&◌, Bool, true, false, List, [], ◌∷◌, ◌++◌, length, Result, Ok, Err, IfOk, codes, decimal, nat_le, refl, sym, subst, ◌∙◌, arith}
use Rattle.std.specs.List.{list_all}
use Rattle.std.specs.Option.{option_map_or}
use Rattle.std.specs.Char.{digit_value}
use Rattle.std.specs.Str.Parse.{AllDigits}
use Rattle.std.proofs.lemmas.Bool.{and_from, and_parts, cond-false, cond-true, le-leb, leb-true}
use Rattle.std.proofs.lemmas.Bool.Decides.{nat_tests}
use Rattle.std.proofs.lemmas.Fmt.{decimal_is_IsNumeral, length-decimal-le}
use Rattle.std.proofs.lemmas.List.{append_assoc, length-append}
use Rattle.std.proofs.lemmas.List.Folds.{list_all-append}
use Rattle.oe_client.specs.Commands.{AreCallParts, is_host, is_token, plain_command}
use Rattle.oe_client.specs.declared.command.ClientCommand.{ClientCommand}
use Rattle.oe_dims.specs.Names.{same_name}
use Rattle.oe_http.specs.Again.{IsWritable, is_visible}
use Rattle.oe_http.specs.Plain.{PlainRequest}
use Rattle.oe_http.specs.Requests.{most_body}
use Rattle.oe_dial.specs.Ends.{IsCommandFor}
use Rattle.oe_dial.specs.Words.{PlainCall, SpellsCall, host_text, is_host_byte, is_host_name, token_of}

-- a command is one for a call where each of its parts is
pub command_for : {E : Type 0} (call : PlainCall) (request : PlainRequest) (result : Result ClientCommand E) → IfOk result (λ c. (plain_command c).request ≡ request)
    → IfOk result (λ c. c.host ≡ host_text call.host call.port) → IfOk result (λ c. IsWritable (plain_command c).request c.host) → IfOk result (IsCommandFor call request)
command_for call request (Ok command) request_is host_is writable = record { request_is = request_is; host_is = host_is; writable = writable }
command_for call request (Err error) request_is host_is writable = tt

host_byte_visible : (b : ℕ) → is_host_byte b ≡ true → is_visible b ≡ true
host_byte_visible b is = grind (arith, nat_tests)

digit_visible : (b : ℕ) → digit_value b < 10 → is_visible b ≡ true
digit_visible b is = grind (arith, nat_tests)

host_visible : (bytes : List ℕ) → list_all is_host_byte bytes ≡ true → list_all is_visible bytes ≡ true
host_visible [] h = refl
host_visible (b ∷ bytes) h =
    let parts = and_parts (is_host_byte b) (list_all is_host_byte bytes) h in
    and_from (is_visible b) (list_all is_visible bytes) (host_byte_visible b parts.0) (host_visible bytes parts.1)

digits_visible : (digits : List ℕ) → AllDigits 10 digits → list_all is_visible digits ≡ true
digits_visible [] all = refl
digits_visible (c ∷ digits) all =
    and_from (is_visible c) (list_all is_visible digits) (digit_visible c all.0) (digits_visible digits all.1)

-- a host with its port is one that a request may be written to
host_in_form : (host : List ℕ) (port : ℕ) → is_host_name host ≡ true → port ≤ 65535 → is_host (host_text host port) ≡ true
host_in_form host port named most =
    let port_text : List ℕ = codes ":" ++ decimal port in
    let parts = and_parts (nat_le 1 (length host) && nat_le (length host) 253) (list_all is_host_byte host) named in
    let few : length host ≤ 253 =
    leb-true (length host) 253 (and_parts (nat_le 1 (length host)) (nat_le (length host) 253) parts.0).1 in
    let small : port < 2 ^ 64 = omega (arith, most) in
    let digits : length (decimal port) ≤ 5 = length-decimal-le 5 port (omega arith) (omega (arith, most)) small in
    let behind : length port_text ≡ 1 + length (decimal port) = length-append (codes ":") (decimal port) in
    let whole : length (host ++ port_text) ≡ length host + length port_text = length-append host port_text in
    let short : length (host ++ port_text) ≤ 259 = omega (arith, few, digits, behind, whole) in
    let port_visible : list_all is_visible port_text ≡ true =
    list_all-append is_visible (codes ":") (decimal port)
    ∙ and_from (list_all is_visible (codes ":")) (list_all is_visible (decimal port)) refl
    (digits_visible (decimal port) (decimal_is_IsNumeral port small).0.1) in
    let visible : list_all is_visible (host ++ port_text) ≡ true =
    list_all-append is_visible host port_text
    ∙ and_from (list_all is_visible host) (list_all is_visible port_text) (host_visible host parts.1) port_visible in
    let text_is : host_text host port ≡ host ++ port_text = append_assoc host (codes ":") (decimal port) in
    subst (λ (text : List ℕ). is_host text ≡ true) (sym text_is)
    (and_from (nat_le (length (host ++ port_text)) 259) (list_all is_visible (host ++ port_text))
    (le-leb (length (host ++ port_text)) 259 short) visible)

-- the token of a word has its form, where there is one
token_in_form : (word : List ℕ) → is_token word ≡ true → option_map_or is_token (token_of word) true ≡ true
token_in_form word valid = by_test (same_name word (codes "-")) refl
  where
    by_test : (test : Bool) → same_name word (codes "-") ≡ test → option_map_or is_token (token_of word) true ≡ true
    by_test true is = subst (λ t. option_map_or is_token t true ≡ true) (sym (cond-true _ _ _ is)) refl
    by_test false is = subst (λ t. option_map_or is_token t true ≡ true) (sym (cond-false _ _ _ is)) valid

-- the parts of a call whose words were read
pub call_parts : (call : PlainCall) (input : List ℕ) → ((words : List (List ℕ)) × SpellsCall words call)
    → length input ≤ most_body
    → AreCallParts call.verb call.argument call.token (host_text call.host call.port) input
call_parts call input spelled short =
    let s = spelled.1 in
    record {
      word = s.verb_word;
      named = s.verb_is;
      argument_valid = s.argument_valid;
      token_valid = subst (λ t. option_map_or is_token t true ≡ true) (sym s.token_is) (token_in_form s.token_word s.token_valid);
      host_valid = host_in_form call.host call.port s.host_valid s.port_valid.below;
      short = short;
    }

-- of a command that was made of them
pub command_in_form : {E : Type 0} (result : Result ClientCommand E) (call : PlainCall) (host input : List ℕ)
    → ((words : List (List ℕ)) × SpellsCall words call) → length input ≤ most_body
    → host ≡ host_text call.host call.port
    → IfOk result (λ c. AreCallParts call.verb call.argument call.token host input
    → IsWritable (plain_command c).request c.host)
    → IfOk result (λ c. IsWritable (plain_command c).request c.host)
command_in_form (Ok c) call host input spelled short host_is writable =
    writable (subst (λ h. AreCallParts call.verb call.argument call.token h input) (sym host_is)
    (call_parts call input spelled short))
command_in_form (Err e) call host input spelled short host_is writable = tt
