-- A head and the body behind it are the reply.
use Rattle.std.proofs.Common.{◌≡◌, true, ℕ, Bool, List, ◌++◌, length, None, refl, ap}
use Rattle.oe_http.specs.Laws.{HeadAndBodyAreReply}
use Rattle.oe_http.specs.Replies.{has_body, reply_head, text_if}

text_applies : (applies : Bool) (text : List ℕ) → applies ≡ true → text ≡ text_if applies text
text_applies applies text is = rw is refl

pub head_and_body : HeadAndBodyAreReply
head_and_body status body has =
    ap (λ sent. reply_head status None None true (length sent) ++ sent) (text_applies (has_body status) body has)
