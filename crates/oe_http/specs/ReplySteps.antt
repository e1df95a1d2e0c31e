-- What the steps of reading a response give: its head, and the response or the refusal behind it.
use Rattle.std.specs.Prelude.{◌≡◌, ℕ, ◌<◌, ◌≤◌, ◌⊎◌, List, length, take, Option, Some, IfSome, IsUtf8}
use Rattle.oe_http.specs.Front.{line_ends, most_line_ends}
use Rattle.oe_http.specs.Reading.{ReadsFront}
use Rattle.oe_http.specs.Replies.{plain_response}
use Rattle.oe_http.specs.ReplyParts.{HasReplyParts, IsOfReplyBytes}
use Rattle.oe_http.specs.Responses.{IsResponseOf, RefusesResponse, response_of}
use Rattle.oe_http.specs.declared.reply.ReplyHead.{ReplyHead}
use Rattle.oe_http.specs.declared.response.Response.{Response}
use Rattle.oe_http.specs.declared.reply.ResponseRefusal.{ResponseRefusal}
use Rattle.oe_http.specs.declared.reply.ResponseRefusal.TheVariants.{Malformed, Truncated}

-- a refusal that speaks of the bytes stands in those that a link has left, where they are visible
abbrev pub IsReplyRefusedOf : Option (List ℕ) → ResponseRefusal → Type 0
IsReplyRefusedOf left refusal = IsOfReplyBytes refusal → IfSome left (λ bytes. RefusesResponse bytes refusal)

-- the head ends in these bytes, and these are its parts
pub record IsReplyHeadIn (bytes : List ℕ) (end : ℕ) (head : ReplyHead) : Type 0 where
  pub same_bytes : head.bytes.items ≡ bytes
  pub same_end : head.end ≡ end
  pub parts : HasReplyParts (take head.end head.bytes.items) head.parts
  pub few : line_ends (take head.end head.bytes.items) ≤ most_line_ends

-- the head was read at the front of what a link had left
pub record IsReplyHeadRead (before : Option (List ℕ)) (head : ReplyHead) (after : Option (List ℕ)) : Type 0 where
  pub front : ReadsFront before head.bytes.items (Some head.end) after
  pub within : head.end ≤ length head.bytes.items
  pub parts : HasReplyParts (take head.end head.bytes.items) head.parts
  pub few : line_ends (take head.end head.bytes.items) ≤ most_line_ends

-- the response is that of the head and of this body, which is as long as the head says, and a text
pub record IsReplyMadeOf (head : ReplyHead) (body : List ℕ) (response : Response) : Type 0 where
  pub whole : head.parts.length ≤ length body
  pub text : IsUtf8 body
  pub is : (found : HasReplyParts (take head.end head.bytes.items) head.parts)
      → plain_response response ≡ response_of found.parts body

-- the body is shorter than the head says, or no text
abbrev pub IsCutOrBinary : ReplyHead → List ℕ → ResponseRefusal → Type 0
IsCutOrBinary head body refusal =
    ((refusal ≡ Truncated) × (length body < head.parts.length))
    ⊎ ((refusal ≡ Malformed) × (head.parts.length ≤ length body) × ¬ (IsUtf8 body))

-- the response stands at the front of what a link had left before a head was read from it
abbrev pub IsResponseRead : ReplyHead → Response → Option (List ℕ) → Type 0
IsResponseRead head response left =
    (before : Option (List ℕ)) → IsReplyHeadRead before head left
    → IfSome before (λ bytes. IsResponseOf bytes (plain_response response))

-- the refusal stands there
abbrev pub IsReplyRefusedAfter : ReplyHead → ResponseRefusal → Option (List ℕ) → Type 0
IsReplyRefusedAfter head refusal left =
    (before : Option (List ℕ)) → IsReplyHeadRead before head left → IsReplyRefusedOf before refusal
