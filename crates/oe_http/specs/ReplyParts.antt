-- What is found in the bytes of the head of a response.
use Rattle.std.specs.Prelude.{◌≡◌, ℕ, ◌<◌, ◌≤◌, ◌⊎◌, List}
use Rattle.httparse.specs.Grammar.{ResponseHead, status_code}
use Rattle.httparse.specs.declared.spans.HeaderSpan.{HeaderSpan}
use Rattle.oe_http.specs.Fields.{said_length}
use Rattle.oe_http.specs.Front.{line_ends, most_line_ends, most_head}
use Rattle.oe_http.specs.Parts.{texts_of}
use Rattle.oe_http.specs.Responses.{IsWholeReply, IsValidReply, reply_fields, most_response_body}
use Rattle.oe_http.specs.declared.reply.ReplyParts.{ReplyParts}
use Rattle.oe_http.specs.declared.reply.ResponseRefusal.{ResponseRefusal}
use Rattle.oe_http.specs.declared.reply.ResponseRefusal.TheVariants as refusal
use Rattle.oe_outside.specs.declared.input.ReadRefusal.{ReadRefusal}
use Rattle.oe_outside.specs.declared.input.ReadRefusal.TheVariants as read

-- the head is whole, and has this status and fields
pub record HasReplySpans (head : List ℕ) (code : ℕ) (spans : List HeaderSpan) : Type 0 where
  pub parts : ResponseHead
  pub whole : IsWholeReply head parts
  pub status : code ≡ status_code parts
  pub fields : texts_of head spans ≡ reply_fields parts

-- the head is valid, says a body within the limit, and these are its parts
pub record HasReplyParts (head : List ℕ) (found : ReplyParts) : Type 0 where
  pub parts : ResponseHead
  pub valid : IsValidReply head parts
  pub status : found.status ≡ status_code parts
  pub three_digits : found.status ≤ 999
  pub length : found.length ≡ said_length (reply_fields parts)
  pub most : found.length ≤ most_response_body

-- a valid head that says too long a body
pub record SaysLongReply (head : List ℕ) : Type 0 where
  pub parts : ResponseHead
  pub valid : IsValidReply head parts
  pub many : most_response_body < said_length (reply_fields parts)

-- no head is valid
abbrev pub IsMalformedReply : List ℕ → Type 0
IsMalformedReply head = (h : ResponseHead) → ¬ (IsValidReply head h)

-- the refusals of a head of at most 66 line ends
abbrev pub RefusesReplyFields : List ℕ → ResponseRefusal → Type 0
RefusesReplyFields head refusal.Malformed = IsMalformedReply head
RefusesReplyFields head refusal.TooLong = SaysLongReply head
RefusesReplyFields head refusal.Truncated = ⊥
RefusesReplyFields head refusal.LinkFailed = ⊥
RefusesReplyFields head refusal.OutOfMemory = ⊥

-- the refusals by the head alone
abbrev pub RefusesReplyHead : List ℕ → ResponseRefusal → Type 0
RefusesReplyHead head refusal.Malformed = (line_ends head ≤ most_line_ends) × IsMalformedReply head
RefusesReplyHead head refusal.TooLong =
    (most_line_ends < line_ends head) ⊎ ((line_ends head ≤ most_line_ends) × SaysLongReply head)
RefusesReplyHead head refusal.Truncated = ⊥
RefusesReplyHead head refusal.LinkFailed = ⊥
RefusesReplyHead head refusal.OutOfMemory = ⊥

-- the refusals of bytes without a head, of which so many were read
abbrev pub RefusesReplyHeadless : ℕ → ResponseRefusal → Type 0
RefusesReplyHeadless count refusal.Truncated = count < most_head
RefusesReplyHeadless count refusal.TooLong = most_head ≤ count
RefusesReplyHeadless count refusal.Malformed = ⊥
RefusesReplyHeadless count refusal.LinkFailed = ⊥
RefusesReplyHeadless count refusal.OutOfMemory = ⊥

-- the refusals of a read as those of a response
abbrev pub reply_refusal : ReadRefusal → ResponseRefusal
reply_refusal read.Failed = refusal.LinkFailed
reply_refusal read.OutOfMemory = refusal.OutOfMemory

-- the refusal speaks of the bytes alone
abbrev pub IsOfReplyBytes : ResponseRefusal → Type 0
IsOfReplyBytes refusal.LinkFailed = ⊥
IsOfReplyBytes refusal.OutOfMemory = ⊥
IsOfReplyBytes refusal.Malformed = Unit {0}
IsOfReplyBytes refusal.TooLong = Unit {0}
IsOfReplyBytes refusal.Truncated = Unit {0}
