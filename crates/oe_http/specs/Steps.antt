-- What the steps of reading a request give: its head, and the request or the refusal behind it.
use Rattle.std.specs.Prelude.{◌≡◌, ℕ, ◌<◌, ◌≤◌, ◌⊎◌, List, length, take, Option, Some, IfSome}
use Rattle.oe_http.specs.Front.{line_ends, most_line_ends}
use Rattle.oe_http.specs.Parts.{HasParts}
use Rattle.oe_http.specs.Plain.{plain_request}
use Rattle.oe_http.specs.Reading.{ReadsFront}
use Rattle.oe_http.specs.Requests.{IsOfBytes, IsRequestOf, Refuses, request_of}
use Rattle.oe_http.specs.declared.request.HeadRead.{HeadRead}
use Rattle.oe_http.specs.declared.request.Request.{Request}
use Rattle.oe_http.specs.declared.request.RequestRefusal.{RequestRefusal}
use Rattle.oe_http.specs.declared.request.RequestRefusal.TheVariants.{OutOfMemory, Truncated}

-- a refusal that speaks of the bytes stands in those that a link has left, where they are visible
abbrev pub IsRefusedOf : Option (List ℕ) → RequestRefusal → Type 0
IsRefusedOf left refusal = IsOfBytes refusal → IfSome left (λ bytes. Refuses bytes refusal)

-- the head ends in these bytes, and these are its parts
pub record IsHeadIn (bytes : List ℕ) (end : ℕ) (head : HeadRead) : Type 0 where
  pub same_bytes : head.bytes.items ≡ bytes
  pub same_end : head.end ≡ end
  pub parts : HasParts (take head.end head.bytes.items) head.parts
  pub few : line_ends (take head.end head.bytes.items) ≤ most_line_ends

-- the head was read at the front of what a link had left
pub record IsHeadRead (before : Option (List ℕ)) (head : HeadRead) (after : Option (List ℕ)) : Type 0 where
  pub front : ReadsFront before head.bytes.items (Some head.end) after
  pub within : head.end ≤ length head.bytes.items
  pub parts : HasParts (take head.end head.bytes.items) head.parts
  pub few : line_ends (take head.end head.bytes.items) ≤ most_line_ends

-- the request is that of the head and of this body, which is as long as the head says
pub record IsMadeOf (head : HeadRead) (body : List ℕ) (request : Request) : Type 0 where
  pub whole : head.parts.length ≤ length body
  pub is : (found : HasParts (take head.end head.bytes.items) head.parts)
      → plain_request request ≡ request_of found.parts body

-- the body is shorter than the head says, or memory was refused
abbrev pub IsCutOrOutOfMemory : HeadRead → List ℕ → RequestRefusal → Type 0
IsCutOrOutOfMemory head body refusal =
    ((refusal ≡ Truncated) × (length body < head.parts.length)) ⊎ (refusal ≡ OutOfMemory)

-- the request stands at the front of what a link had left before a head was read from it
abbrev pub IsRequestRead : HeadRead → Request → Option (List ℕ) → Type 0
IsRequestRead head request left =
    (before : Option (List ℕ)) → IsHeadRead before head left
    → IfSome before (λ bytes. IsRequestOf bytes (plain_request request))

-- the refusal stands there
abbrev pub IsRefusedAfter : HeadRead → RequestRefusal → Option (List ℕ) → Type 0
IsRefusedAfter head refusal left = (before : Option (List ℕ)) → IsHeadRead before head left → IsRefusedOf before refusal
