-- What holds of every reply that is written in two parts: its head first, and its body behind it.
use Rattle.std.specs.Prelude.{◌≡◌, true, ℕ, List, ◌++◌, length, None}
use Rattle.oe_http.specs.Replies.{PlainResponse, has_body, reply_bytes, reply_head}

-- the reply of this status whose body is a JSON text
abbrev pub json_reply : ℕ → List ℕ → PlainResponse
json_reply status body = record { status = status; location = None; identifier = None; json = true; body = body }

-- the head for a body of so many bytes and the body behind it are the reply, where replies of the status have a body
abbrev pub HeadAndBodyAreReply : Type 0
HeadAndBodyAreReply =
    (status : ℕ) (body : List ℕ) → has_body status ≡ true
    → reply_head status None None true (length body) ++ body ≡ reply_bytes (json_reply status body)
