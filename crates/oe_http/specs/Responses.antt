-- The response that stands at the front of some bytes, as a client reads it, and the refusals. The bytes are all that a
-- link gives up to its end.
use Rattle.std.specs.Prelude.{◌≡◌, false, ℕ, ◌+◌, ◌<◌, ◌≤◌, ◌⊎◌, List, [], ◌∷◌, length, map, None, IsUtf8}
use Rattle.httparse.specs.Grammar.{ResponseHead, ReadsResponse, status_code}
use Rattle.httparse.specs.Spans.{name_and_value}
use Rattle.oe_http.specs.Bodies.{body_of}
use Rattle.oe_http.specs.Fields.{FieldText, values_of, IsLengthText, content_length, said_length}
use Rattle.oe_http.specs.Front.{IsHeadless, most_head}
use Rattle.oe_http.specs.Heads.{most_fields}
use Rattle.oe_http.specs.Replies.{PlainResponse}
use Rattle.oe_http.specs.Requests.{HasHead, HasLongHead}
use Rattle.oe_http.specs.declared.reply.ResponseRefusal.{ResponseRefusal}
use Rattle.oe_http.specs.declared.reply.ResponseRefusal.TheVariants.{Malformed, TooLong, Truncated, LinkFailed, OutOfMemory}

-- the most bytes that the body of a response has
abbrev pub most_response_body : ℕ
most_response_body = 16777216

-- the bytes are as a whole a response head with at most 64 fields
pub record IsWholeReply (head : List ℕ) (h : ResponseHead) : Type 0 where
  pub reads : ReadsResponse head h []
  pub few : length h.fields ≤ most_fields

-- the fields of a head
abbrev pub reply_fields : ResponseHead → List FieldText
reply_fields h = map name_and_value h.fields

-- these values of a length are one, which is 1 to 19 digits; with status 204 there may be none
abbrev pub SaysOneLength : ℕ → List (List ℕ) → Type 0
SaysOneLength status [] = status ≡ 204
SaysOneLength status (value ∷ []) = IsLengthText value
SaysOneLength status (value ∷ another ∷ more) = ⊥

-- a valid head: whole, with a status from 100 on, and one length, which a 204 may leave out
pub record IsValidReply (head : List ℕ) (h : ResponseHead) : Type 0 where
  pub whole : IsWholeReply head h
  pub status : 100 ≤ status_code h
  pub one_length : SaysOneLength (status_code h) (values_of content_length (reply_fields h))

-- what a head and a body say to a client: other fields are not looked at
abbrev pub response_of : ResponseHead → List ℕ → PlainResponse
response_of h body = record { status = status_code h; location = None; identifier = None; json = false; body = body }

-- the response that stands at the front of the bytes
pub record IsResponseOf (bytes : List ℕ) (response : PlainResponse) : Type 0 where
  pub head : List ℕ
  pub parts : ResponseHead
  pub has_head : HasHead bytes head
  pub valid : IsValidReply head parts
  pub within : said_length (reply_fields parts) ≤ most_response_body
  pub whole : length head + said_length (reply_fields parts) ≤ length bytes
  pub text : IsUtf8 (body_of bytes head (said_length (reply_fields parts)))
  pub is : response ≡ response_of parts (body_of bytes head (said_length (reply_fields parts)))

-- the form of each response that is read: a status of three digits that is not below 100, and a body of at most 16777216
-- bytes, which are a text
pub record HasResponseForm (response : PlainResponse) : Type 0 where
  pub least : 100 ≤ response.status
  pub most : response.status ≤ 999
  pub body : length response.body ≤ most_response_body
  pub text : IsUtf8 response.body

-- the head is not valid
pub record HasMalformedReply (bytes : List ℕ) : Type 0 where
  pub head : List ℕ
  pub has_head : HasHead bytes head
  pub malformed : (h : ResponseHead) → ¬ (IsValidReply head h)

-- the body is over 16777216 bytes
pub record HasLongReply (bytes : List ℕ) : Type 0 where
  pub head : List ℕ
  pub parts : ResponseHead
  pub has_head : HasHead bytes head
  pub valid : IsValidReply head parts
  pub many : most_response_body < said_length (reply_fields parts)

-- the bytes end before the body does
pub record HasPartOfReply (bytes : List ℕ) : Type 0 where
  pub head : List ℕ
  pub parts : ResponseHead
  pub has_head : HasHead bytes head
  pub valid : IsValidReply head parts
  pub within : said_length (reply_fields parts) ≤ most_response_body
  pub part : length bytes < length head + said_length (reply_fields parts)

-- the body is whole and not UTF-8
pub record HasBinaryReply (bytes : List ℕ) : Type 0 where
  pub head : List ℕ
  pub parts : ResponseHead
  pub has_head : HasHead bytes head
  pub valid : IsValidReply head parts
  pub within : said_length (reply_fields parts) ≤ most_response_body
  pub whole : length head + said_length (reply_fields parts) ≤ length bytes
  pub binary : ¬ (IsUtf8 (body_of bytes head (said_length (reply_fields parts))))

-- The refusals of a response; no two of them stand at once.
abbrev pub RefusesResponse : List ℕ → ResponseRefusal → Type 0
RefusesResponse bytes TooLong = (IsHeadless bytes × (most_head ≤ length bytes)) ⊎ HasLongHead bytes ⊎ HasLongReply bytes
RefusesResponse bytes Malformed = HasMalformedReply bytes ⊎ HasBinaryReply bytes
RefusesResponse bytes Truncated = (IsHeadless bytes × (length bytes < most_head)) ⊎ HasPartOfReply bytes
RefusesResponse bytes LinkFailed = ⊥
RefusesResponse bytes OutOfMemory = ⊥
