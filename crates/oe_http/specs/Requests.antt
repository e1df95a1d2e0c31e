-- The request that stands at the front of some bytes, and the refusals. The bytes are all that a link gives up to its
-- end: no definition knows in which pieces.
use Rattle.std.specs.Prelude.{◌≡◌, true, ℕ, ◌+◌, ◌<◌, ◌≤◌, ◌⊎◌, ◌==◌, List, length}
use Rattle.std.specs.List.{before_first, after_first}
use Rattle.httparse.specs.Grammar.{RequestHead}
use Rattle.oe_http.specs.Bodies.{body_of}
use Rattle.oe_http.specs.Fields.{values_of, first_value, authorization, said_length, is_coded}
use Rattle.oe_http.specs.Front.{IsHeadOf, IsHeadless, line_ends, most_line_ends, most_head}
use Rattle.oe_http.specs.Heads.{IsValidHead, IsMalformed, IsPlainHead, fields_of}
use Rattle.oe_http.specs.Plain.{PlainRequest}
use Rattle.oe_http.specs.declared.request.RequestRefusal.{RequestRefusal}
use Rattle.oe_http.specs.declared.request.RequestRefusal.TheVariants.{Malformed, HeadTooLong, BodyTooLong, CodingUnsupported, Truncated, LinkFailed, OutOfMemory}

-- the most bytes that the body of a request has
abbrev pub most_body : ℕ
most_body = 1048576

abbrev pub question_mark : ℕ
question_mark = 63

-- the bytes have a head with at most 66 line ends
pub record HasHead (bytes head : List ℕ) : Type 0 where
  pub head_of : IsHeadOf bytes head
  pub few : line_ends head ≤ most_line_ends

-- what a head and a body say: the query is what follows the first question mark of the target
abbrev pub request_of : RequestHead → List ℕ → PlainRequest
request_of h body =
    record {
      method = h.method;
      path = before_first (λ b. b == question_mark) h.target;
      query = after_first (λ b. b == question_mark) h.target;
      authorization = first_value (values_of authorization (fields_of h));
      body = body;
    }

-- the request that stands at the front of the bytes
pub record IsRequestOf (bytes : List ℕ) (request : PlainRequest) : Type 0 where
  pub head : List ℕ
  pub parts : RequestHead
  pub has_head : HasHead bytes head
  pub plain : IsPlainHead head parts
  pub within : said_length (fields_of parts) ≤ most_body
  pub whole : length head + said_length (fields_of parts) ≤ length bytes
  pub is : request ≡ request_of parts (body_of bytes head (said_length (fields_of parts)))

-- the head has over 66 line ends
pub record HasLongHead (bytes : List ℕ) : Type 0 where
  pub head : List ℕ
  pub head_of : IsHeadOf bytes head
  pub many : most_line_ends < line_ends head

-- the head is not valid
pub record HasMalformedHead (bytes : List ℕ) : Type 0 where
  pub head : List ℕ
  pub has_head : HasHead bytes head
  pub malformed : IsMalformed head

-- the body is coded
pub record HasCodedBody (bytes : List ℕ) : Type 0 where
  pub head : List ℕ
  pub parts : RequestHead
  pub has_head : HasHead bytes head
  pub valid : IsValidHead head parts
  pub coded : is_coded (fields_of parts) ≡ true

-- the body is over 1048576 bytes
pub record HasLongBody (bytes : List ℕ) : Type 0 where
  pub head : List ℕ
  pub parts : RequestHead
  pub has_head : HasHead bytes head
  pub plain : IsPlainHead head parts
  pub many : most_body < said_length (fields_of parts)

-- the bytes end before the body does
pub record HasPartOfBody (bytes : List ℕ) : Type 0 where
  pub head : List ℕ
  pub parts : RequestHead
  pub has_head : HasHead bytes head
  pub plain : IsPlainHead head parts
  pub within : said_length (fields_of parts) ≤ most_body
  pub part : length bytes < length head + said_length (fields_of parts)

-- The refusals of a request, each where it stands and none before it does.
abbrev pub Refuses : List ℕ → RequestRefusal → Type 0
Refuses bytes HeadTooLong = (IsHeadless bytes × (most_head ≤ length bytes)) ⊎ HasLongHead bytes
Refuses bytes Malformed = HasMalformedHead bytes
Refuses bytes CodingUnsupported = HasCodedBody bytes
Refuses bytes BodyTooLong = HasLongBody bytes
Refuses bytes Truncated = (IsHeadless bytes × (length bytes < most_head)) ⊎ HasPartOfBody bytes
Refuses bytes LinkFailed = ⊥
Refuses bytes OutOfMemory = ⊥

-- the refusal speaks of the bytes alone
abbrev pub IsOfBytes : RequestRefusal → Type 0
IsOfBytes LinkFailed = ⊥
IsOfBytes OutOfMemory = ⊥
IsOfBytes Malformed = Unit {0}
IsOfBytes HeadTooLong = Unit {0}
IsOfBytes BodyTooLong = Unit {0}
IsOfBytes CodingUnsupported = Unit {0}
IsOfBytes Truncated = Unit {0}
