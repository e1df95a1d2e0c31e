-- What reading gives where the bytes begin with what was written.
use Rattle.std.proofs.Common.{◌≡◌, ℕ, List, sym, ap, subst, Option, Some, None, IfSome, Result, Ok, Err, IfOk, IfErr}
use Rattle.oe_http.specs.Again.{ReadsWritten, ReadsReply}
use Rattle.oe_http.specs.Plain.{plain_request}
use Rattle.oe_http.specs.Replies.{plain_response}
use Rattle.oe_http.specs.Requests.{IsOfBytes, IsRequestOf, Refuses}
use Rattle.oe_http.specs.Steps.{IsRefusedOf}
use Rattle.oe_http.specs.declared.request.Request.{Request}
use Rattle.oe_http.specs.declared.request.RequestRefusal.{RequestRefusal}
use Rattle.oe_http.specs.ReplyParts.{IsOfReplyBytes}
use Rattle.oe_http.specs.ReplySteps.{IsReplyRefusedOf}
use Rattle.oe_http.specs.Responses.{IsResponseOf, RefusesResponse}
use Rattle.oe_http.specs.declared.reply.ResponseRefusal.{ResponseRefusal}
use Rattle.oe_http.specs.declared.response.Response.{Response}
use Rattle.oe_http.proofs.Exclusive.{not_refused, not_reply_refused, same_request, same_response}
use Rattle.oe_http.proofs.WrittenHeads.{written_is_request}
use Rattle.oe_http.proofs.WrittenReplies.{seen_of, written_is_response}

-- what a result says of the bytes
gives : (bytes : List ℕ) (result : Result Request RequestRefusal) → IfOk result (λ request. IsRequestOf bytes (plain_request request)) → IfErr result (λ refusal. IsOfBytes refusal → Refuses bytes refusal) → ReadsWritten bytes result
gives bytes (Ok request) ok err r host rest may is =
    let written : IsRequestOf bytes r = subst (λ b. IsRequestOf b r) (sym is) (written_is_request r host rest may) in
    (same_request bytes (plain_request request) r ok written, tt)
gives bytes (Err refusal) ok err r host rest may is =
    let written : IsRequestOf bytes r = subst (λ b. IsRequestOf b r) (sym is) (written_is_request r host rest may) in
    (tt, λ speaks. not_refused bytes r refusal written (err speaks))

pub again_refused : (left : Option (List ℕ)) (refusal : RequestRefusal) → IsRefusedOf left refusal → IfSome left (λ bytes. ReadsWritten bytes (Err refusal))
again_refused None refusal why = tt
again_refused (Some bytes) refusal why = gives bytes (Err refusal) tt why

pub again_read : (left : Option (List ℕ)) (result : Result Request RequestRefusal) → IfOk result (λ request. IfSome left (λ bytes. IsRequestOf bytes (plain_request request))) → IfErr result (IsRefusedOf left) → IfSome left (λ bytes. ReadsWritten bytes result)
again_read None result ok err = tt
again_read (Some bytes) result ok err = gives bytes result ok err

-- and of those of a reply
gives_reply : (bytes : List ℕ) (result : Result Response ResponseRefusal) → IfOk result (λ response. IsResponseOf bytes (plain_response response)) → IfErr result (λ refusal. IsOfReplyBytes refusal → RefusesResponse bytes refusal) → ReadsReply bytes result
gives_reply bytes (Ok response) ok err r rest may is =
    let written : IsResponseOf bytes (seen_of r) = subst (λ b. IsResponseOf b (seen_of r)) (sym is) (written_is_response r rest may) in
    let same : plain_response response ≡ seen_of r = same_response bytes (plain_response response) (seen_of r) ok written in
    (record { status = ap (λ p. p.status) same; body = ap (λ p. p.body) same }, tt)
gives_reply bytes (Err refusal) ok err r rest may is =
    let written : IsResponseOf bytes (seen_of r) = subst (λ b. IsResponseOf b (seen_of r)) (sym is) (written_is_response r rest may) in
    (tt, λ speaks. not_reply_refused bytes (seen_of r) refusal written (err speaks))

pub reply_again_refused : (left : Option (List ℕ)) (refusal : ResponseRefusal) → IsReplyRefusedOf left refusal → IfSome left (λ bytes. ReadsReply bytes (Err refusal))
reply_again_refused None refusal why = tt
reply_again_refused (Some bytes) refusal why = gives_reply bytes (Err refusal) tt why

pub reply_again_read : (left : Option (List ℕ)) (result : Result Response ResponseRefusal) → IfOk result (λ response. IfSome left (λ bytes. IsResponseOf bytes (plain_response response))) → IfErr result (IsReplyRefusedOf left) → IfSome left (λ bytes. ReadsReply bytes result)
reply_again_read None result ok err = tt
reply_again_read (Some bytes) result ok err = gives_reply bytes result ok err
