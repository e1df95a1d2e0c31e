-- What is written and read again: a request, and a reply of the service.
use Rattle.std.specs.Prelude.{◌≡◌, ℕ, ◌≤◌, ◌==◌, Bool, ◌&&◌, ◌||◌, not, nat_lt, List, ◌++◌, length, slice_index, IfSome, IsSome, Result, IfOk, IfErr, IsUtf8}
use Rattle.http.specs.StatusCode.{reason_phrase}
use Rattle.httparse.specs.Grammar.{AllPass, IsToken, trim_ows}
use Rattle.oe_http.specs.Front.{most_head}
use Rattle.oe_http.specs.Heads.{slash}
use Rattle.oe_http.specs.Plain.{PlainRequest, plain_request}
use Rattle.oe_http.specs.Replies.{PlainResponse, reply_bytes, reply_head, sent_body}
use Rattle.oe_http.specs.ReplyParts.{IsOfReplyBytes}
use Rattle.oe_http.specs.Requests.{IsOfBytes, most_body, question_mark}
use Rattle.oe_http.specs.Responses.{most_response_body}
use Rattle.oe_http.specs.Written.{request_bytes, request_head}
use Rattle.oe_http.specs.declared.reply.ResponseRefusal.{ResponseRefusal}
use Rattle.oe_http.specs.declared.request.Request.{Request}
use Rattle.oe_http.specs.declared.request.RequestRefusal.{RequestRefusal}
use Rattle.oe_http.specs.declared.response.Response.{Response}

abbrev pub blank : ℕ
blank = 32

-- a visible byte of ASCII, from 0x21 to 0x7E
abbrev pub is_visible : ℕ → Bool
is_visible b = nat_lt 32 b && nat_lt b 127

-- a visible byte other than the question mark
abbrev pub is_path_byte : ℕ → Bool
is_path_byte b = is_visible b && not (b == question_mark)

-- a value of visible bytes and blanks, with no blank at either end
pub record IsCredentials (value : List ℕ) : Type 0 where
  pub bytes : AllPass (λ b. b == blank || is_visible b) value
  pub trimmed : trim_ows value ≡ value

-- A request that is read again where it is written to a host: the method is a token, the path begins with a slash,
-- path, query and host are of visible bytes, the path has no question mark, and head and body are within their limits.
pub record IsWritable (r : PlainRequest) (host : List ℕ) : Type 0 where
  pub method : IsToken r.method
  pub slash : slice_index r.path 0 ≡ slash
  pub path : AllPass is_path_byte r.path
  pub query : AllPass is_visible r.query
  pub host_text : AllPass is_visible host
  pub authorization : IfSome r.authorization IsCredentials
  pub head : length (request_head r host) ≤ most_head
  pub body : length r.body ≤ most_body

-- reading gives this request, or a refusal that does not speak of the bytes
abbrev pub GivesRequest : PlainRequest → Result Request RequestRefusal → Type 0
GivesRequest r result =
    IfOk result (λ request. plain_request request ≡ r) × IfErr result (λ refusal. ¬ (IsOfBytes refusal))

-- where the bytes begin with a written request, reading them gives it
abbrev pub ReadsWritten : List ℕ → Result Request RequestRefusal → Type 0
ReadsWritten bytes result =
    (r : PlainRequest) (host rest : List ℕ)
    → IsWritable r host → bytes ≡ request_bytes r host ++ rest → GivesRequest r result

-- A reply that is read again: its status has a standard phrase, location and identifier are of visible bytes, and the
-- head and the body that it sends are within their limits, the body in UTF-8.
pub record IsWritableReply (r : PlainResponse) : Type 0 where
  pub phrase : IsSome (reason_phrase r.status)
  pub location : IfSome r.location (AllPass is_visible)
  pub identifier : IfSome r.identifier (AllPass is_visible)
  pub head : length (reply_head r.status r.location r.identifier r.json (length (sent_body r))) ≤ most_head
  pub body : length (sent_body r) ≤ most_response_body
  pub text : IsUtf8 (sent_body r)

-- the response has the status of the reply, and the body that it sends
pub record IsReplyAgain (r : PlainResponse) (response : Response) : Type 0 where
  pub status : response.status ≡ r.status
  pub body : response.body.items ≡ sent_body r

-- reading gives the status and the body of this reply, or a refusal that does not speak of the bytes
abbrev pub GivesReply : PlainResponse → Result Response ResponseRefusal → Type 0
GivesReply r result = IfOk result (IsReplyAgain r) × IfErr result (λ refusal. ¬ (IsOfReplyBytes refusal))

-- where the bytes begin with a reply, reading them gives it
abbrev pub ReadsReply : List ℕ → Result Response ResponseRefusal → Type 0
ReadsReply bytes result =
    (r : PlainResponse) (rest : List ℕ) → IsWritableReply r → bytes ≡ reply_bytes r ++ rest → GivesReply r result
