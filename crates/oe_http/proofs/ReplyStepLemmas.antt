-- What the steps of reading a response give, put together.
use Rattle.std.proofs.Common.{ℕ, inl, inr, List, take, drop, refl, sym, subst, Option, Some, IfSome, Result, IfOk, IfErr}
use Rattle.std.proofs.lemmas.Result.{IfErr-weaker, IfOk-weaker}
use Rattle.oe_outside.specs.declared.input.ReadRefusal.{ReadRefusal}
use Rattle.oe_outside.specs.declared.input.ReadRefusal.TheVariants as read
use Rattle.oe_http.specs.Reading.{ReadsBody, ReadsFront}
use Rattle.oe_http.specs.Replies.{plain_response}
use Rattle.oe_http.specs.ReplyParts.{RefusesReplyHead, reply_refusal}
use Rattle.oe_http.specs.Responses.{IsResponseOf, RefusesResponse}
use Rattle.oe_http.specs.ReplySteps.{IsCutOrBinary, IsReplyHeadRead, IsReplyMadeOf, IsReplyRefusedAfter, IsReplyRefusedOf, IsResponseRead}
use Rattle.oe_http.specs.declared.reply.ReplyHead.{ReplyHead}
use Rattle.oe_http.specs.declared.response.Response.{Response}
use Rattle.oe_http.specs.declared.reply.ResponseRefusal.{ResponseRefusal}
use Rattle.oe_http.proofs.ReplyMessages.{refused_binary, refused_by_reply_head, refused_reply_body, response_read}

-- the refusal of a read speaks of no bytes
pub reply_of_link : (left : Option (List ℕ)) (refusal : ReadRefusal) → IsReplyRefusedOf left (reply_refusal refusal)
reply_of_link left read.Failed none = absurd none
reply_of_link left read.OutOfMemory none = absurd none

-- a refusal by the head that was found
pub reply_of_head : {before after : Option (List ℕ)} {bytes : List ℕ} {end : ℕ} → ReadsFront before bytes (Some end) after → (refusal : ResponseRefusal) → RefusesReplyHead (take end bytes) refusal → IsReplyRefusedOf before refusal
reply_of_head {before} {after} {bytes} {end} front refusal why _ = refused_by_reply_head before after bytes (take end bytes) end refusal front refl why

-- the response of a body that is whole and a text
pub reply_made : {after left : Option (List ℕ)} {body : List ℕ} (head : ReplyHead) (response : Response) → ReadsBody head.parts.length left (take head.parts.length (drop head.end head.bytes.items)) body after → IsReplyMadeOf head body response → IsResponseRead head response left
reply_made {after} {left} {body} head response got is before found =
    response_read before left after head.bytes.items (take head.end head.bytes.items) body head.end head.parts (plain_response response)
    found.front refl found.parts found.few got is.whole is.text (is.is found.parts)

-- the refusal of one that is not
pub reply_cut : {after left : Option (List ℕ)} {body : List ℕ} (head : ReplyHead) (refusal : ResponseRefusal) → ReadsBody head.parts.length left (take head.parts.length (drop head.end head.bytes.items)) body after → IsCutOrBinary head body refusal → IsReplyRefusedAfter head refusal left
reply_cut {after} {left} {body} head refusal got (inl short) before found _ =
    let P : ResponseRefusal → Type 0 = λ r. IfSome before (λ all. RefusesResponse all r) in
    subst P (sym short.0) (refused_reply_body before left after head.bytes.items (take head.end head.bytes.items) body head.end head.parts
    found.front refl found.parts found.few got short.1)
reply_cut {after} {left} {body} head refusal got (inr binary) before found _ =
    let P : ResponseRefusal → Type 0 = λ r. IfSome before (λ all. RefusesResponse all r) in
    subst P (sym binary.0) (refused_binary before left after head.bytes.items (take head.end head.bytes.items) body head.end head.parts
    found.front refl found.parts found.few got binary.1 binary.2)

-- and so those of the whole call
pub response_of_head : {before left : Option (List ℕ)} {head : ReplyHead} → IsReplyHeadRead before head left → (result : Result Response ResponseRefusal) → IfOk result (λ response. IsResponseRead head response left) → IfOk result (λ response. IfSome before (λ bytes. IsResponseOf bytes (plain_response response)))
response_of_head {before} found result is = IfOk-weaker result _ _ (λ response read. read before found) is

pub reply_refusal_of_head : {before left : Option (List ℕ)} {head : ReplyHead} → IsReplyHeadRead before head left → (result : Result Response ResponseRefusal) → IfErr result (λ refusal. IsReplyRefusedAfter head refusal left) → IfErr result (IsReplyRefusedOf before)
reply_refusal_of_head {before} found result is = IfErr-weaker result _ _ (λ refusal after. after before found) is
