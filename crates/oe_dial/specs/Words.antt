-- The words `client HOST PORT TOKEN VERB [ARG]`, and the call that they spell.
use Rattle.std.specs.Prelude.{◌≡◌, ℕ, ◌≤◌, ◌==◌, ◌&&◌, ◌||◌, nat_le, Bool, true, List, [], ◌∷◌, ◌++◌, length, Option, Some, None, codes, decimal, if◌then◌else◌}
use Rattle.std.specs.List.{list_all}
use Rattle.std.specs.Option.{option_map}
use Rattle.oe_dims.specs.Names.{is_byte_in, same_name}
use Rattle.oe_client.specs.Arguments.{IsArgumentOf}
use Rattle.oe_client.specs.Commands.{is_token}
use Rattle.oe_client.specs.Verbs.{Verb, verb_named, verb_of}
use Rattle.oe_dial.specs.declared.words.ClientCall.{ClientCall}

-- a letter, a digit, `.`, `-` or `:`
abbrev pub is_host_byte : ℕ → Bool
is_host_byte b =
    is_byte_in 65 90 b || is_byte_in 97 122 b || is_byte_in 48 57 b || (b == 46) || (b == 45) || (b == 58)

-- the name or the address of a host: 1 to 253 such bytes
abbrev pub is_host_name : List ℕ → Bool
is_host_name word = nat_le 1 (length word) && nat_le (length word) 253 && list_all is_host_byte word

-- a number from 1 to 65535, in decimal without leading zeros
pub record IsPort (word : List ℕ) (port : ℕ) : Type 0 where
  pub above : 1 ≤ port
  pub below : port ≤ 65535
  pub spelled : word ≡ decimal port

-- the token that a word says: `-` says none
abbrev pub token_of : List ℕ → Option (List ℕ)
token_of word = if same_name word (codes "-") then None else Some word

-- the words behind a verb: its argument, where there is one
abbrev pub argument_words : Option (List ℕ) → List (List ℕ)
argument_words None = []
argument_words (Some argument) = argument ∷ []

-- a call: of which host and port, with which token, by which verb, with which argument
pub record PlainCall : Type 0 where
  pub host : List ℕ
  pub port : ℕ
  pub token : Option (List ℕ)
  pub verb : Verb
  pub argument : Option (List ℕ)

abbrev pub plain_call : ClientCall → PlainCall
plain_call c = record {
  host = c.host.now;
  port = c.port;
  token = option_map (λ t. t.now) c.token;
  verb = verb_of c.verb.now;
  argument = option_map (λ t. t.now) c.argument;
}

-- the words spell this call
pub record SpellsCall (words : List (List ℕ)) (call : PlainCall) : Type 0 where
  pub port_word : List ℕ
  pub token_word : List ℕ
  pub verb_word : List ℕ
  pub words_are : words ≡ codes "client" ∷ call.host ∷ port_word ∷ token_word ∷ verb_word ∷ argument_words call.argument
  pub host_valid : is_host_name call.host ≡ true
  pub port_valid : IsPort port_word call.port
  pub token_valid : is_token token_word ≡ true
  pub token_is : call.token ≡ token_of token_word
  pub verb_is : verb_named verb_word ≡ Some call.verb
  pub argument_valid : IsArgumentOf call.verb.argument call.argument

-- the host that the request is written to: the words HOST and PORT with a colon between them
abbrev pub host_text : List ℕ → ℕ → List ℕ
host_text host port = host ++ codes ":" ++ decimal port
