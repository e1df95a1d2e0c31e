-- The request of a verb.
use Rattle.std.specs.Prelude.{◌≡◌, ℕ, ◌≤◌, ◌&&◌, nat_le, Bool, true, List, [], ◌++◌, length, Option, Some, codes, unwrap_or, if◌then◌else◌}
use Rattle.std.specs.List.{list_all}
use Rattle.std.specs.Option.{option_map, option_map_or}
use Rattle.oe_client.specs.Arguments.{IsArgumentOf, id_part, rest_part}
use Rattle.oe_client.specs.Verbs.{Verb, method_name, verb_named}
use Rattle.oe_client.specs.declared.command.ClientCommand.{ClientCommand}
use Rattle.oe_client.specs.declared.verbs.Argument.{Argument}
use Rattle.oe_client.specs.declared.verbs.Argument.TheVariants.{Missing, Id, JobAndAsset, JobAndOffset, ListName}
use Rattle.oe_http.specs.Again.{is_visible}
use Rattle.oe_http.specs.Plain.{PlainRequest, plain_request}
use Rattle.oe_http.specs.Requests.{most_body}
use Rattle.oe_pages.specs.Pages.{page_query}
use Rattle.oe_client.specs.Pages.{page_limit}

-- what contracts compare of a call: the request, and the host that it is written to
pub record PlainCommand : Type 0 where
  pub request : PlainRequest
  pub host : List ℕ

abbrev pub plain_command : ClientCommand → PlainCommand
plain_command c = record { request = plain_request c.request; host = c.host }

-- the path of a verb with an argument, by what stands before it and behind its id
abbrev pub path_with : Argument → List ℕ → List ℕ → List ℕ → List ℕ
path_with Missing before argument behind = before
path_with Id before argument behind = before ++ argument ++ behind
path_with JobAndAsset before argument behind = before ++ id_part argument ++ behind ++ rest_part argument
path_with JobAndOffset before argument behind = before ++ id_part argument ++ behind
path_with ListName before argument behind = before ++ argument ++ behind

-- the query: with an id and a number, that the log entries up to the number are left out; of a list, that for its first
-- page
abbrev pub query_with : Argument → List ℕ → List ℕ
query_with Missing argument = []
query_with Id argument = []
query_with JobAndAsset argument = []
query_with JobAndOffset argument = codes "offset=" ++ rest_part argument
query_with ListName argument = page_query page_limit 0

-- the value of the field `Authorization` for a token
abbrev pub credentials : List ℕ → List ℕ
credentials token = codes "Bearer basic//" ++ token

-- the request of a verb, for a token where there is one; the input is its body where the verb sends it
abbrev pub request_of : Verb → Option (List ℕ) → Option (List ℕ) → List ℕ → PlainRequest
request_of v argument token input = record {
  method = method_name v.method;
  path = path_with v.argument v.before (unwrap_or argument []) v.behind;
  query = query_with v.argument (unwrap_or argument []);
  authorization = option_map credentials token;
  body = if v.sends_input then input else [];
}

-- the request for the page at an offset
abbrev pub page_request : Verb → Option (List ℕ) → Option (List ℕ) → ℕ → PlainRequest
page_request v argument token offset = record (request_of v argument token []) { query = page_query page_limit offset }

-- a token: 1 to 128 visible bytes of ASCII
abbrev pub is_token : List ℕ → Bool
is_token text = nat_le 1 (length text) && nat_le (length text) 128 && list_all is_visible text

-- a host with its port: at most 259 visible bytes of ASCII
abbrev pub is_host : List ℕ → Bool
is_host text = nat_le (length text) 259 && list_all is_visible text

-- the parts of a call have their forms: the verb is one of the table, its argument is one that it takes, and token, host
-- and input are valid
pub record AreCallParts (v : Verb) (argument token : Option (List ℕ)) (host input : List ℕ) : Type 0 where
  pub word : List ℕ
  pub named : verb_named word ≡ Some v
  pub argument_valid : IsArgumentOf v.argument argument
  pub token_valid : option_map_or is_token token true ≡ true
  pub host_valid : is_host host ≡ true
  pub short : length input ≤ most_body
