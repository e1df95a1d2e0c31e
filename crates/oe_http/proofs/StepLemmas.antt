-- What the steps of reading a request give, put together.
use Rattle.std.proofs.Common.{◌≡◌, ℕ, ◌-◌, ◌≤◌, inl, inr, List, length, take, drop, refl, sym, ap, subst, arith, Option, Some, IfSome, Result, Err, IfOk, IfErr}
use Rattle.std.proofs.lemmas.List.{length-drop, take_all}
use Rattle.std.proofs.lemmas.Result.{IfErr-weaker, IfOk-weaker}
use Rattle.oe_outside.specs.declared.input.ReadRefusal.{ReadRefusal}
use Rattle.oe_outside.specs.declared.input.ReadRefusal.TheVariants as read
use Rattle.oe_outside.specs.Faults.{NeverFalls, HasCauseOf}
use Rattle.oe_outside.proofs.Causes.{NeverFalls-trans, then-Rose}
use Rattle.oe_http.specs.Parts.{RefusesHead}
use Rattle.oe_http.specs.Plain.{plain_request}
use Rattle.oe_http.specs.Reading.{ReadsBody, ReadsFront}
use Rattle.oe_http.specs.Refused.{of_reading}
use Rattle.oe_http.specs.Requests.{IsOfBytes, IsRequestOf, Refuses}
use Rattle.oe_http.specs.Steps.{IsCutOrOutOfMemory, IsHeadRead, IsMadeOf, IsRefusedAfter, IsRefusedOf, IsRequestRead}
use Rattle.oe_http.specs.declared.request.HeadRead.{HeadRead}
use Rattle.oe_http.specs.declared.request.Request.{Request}
use Rattle.oe_http.specs.declared.request.RequestRefusal.{RequestRefusal}
use Rattle.oe_http.proofs.Messages.{refused_body, refused_by_head, request_read}

-- the refusal of a read speaks of no bytes
pub of_link : (left : Option (List ℕ)) (refusal : ReadRefusal) → IsRefusedOf left (of_reading refusal)
of_link left read.Failed none = absurd none
of_link left read.OutOfMemory none = absurd none

-- a refusal by the head that was found
pub of_head : {before after : Option (List ℕ)} {bytes : List ℕ} {end : ℕ} → ReadsFront before bytes (Some end) after → (refusal : RequestRefusal) → RefusesHead (take end bytes) refusal → IsRefusedOf before refusal
of_head {before} {after} {bytes} {end} front refusal why _ = refused_by_head before after bytes (take end bytes) end refusal front refl why

-- the request of a body that is whole
pub made : {after left : Option (List ℕ)} {body : List ℕ} (head : HeadRead) (request : Request) → ReadsBody head.parts.length left (take head.parts.length (drop head.end head.bytes.items)) body after → IsMadeOf head body request → IsRequestRead head request left
made {after} {left} {body} head request got is before found =
    request_read before left after head.bytes.items (take head.end head.bytes.items) body head.end head.parts (plain_request request)
    found.front refl found.parts found.few got is.whole (is.is found.parts)

-- the refusal of one that is not
pub cut : {after left : Option (List ℕ)} {body : List ℕ} (head : HeadRead) (refusal : RequestRefusal) → ReadsBody head.parts.length left (take head.parts.length (drop head.end head.bytes.items)) body after → IsCutOrOutOfMemory head body refusal → IsRefusedAfter head refusal left
cut {after} {left} {body} head refusal got (inl short) before found _ =
    let P : RequestRefusal → Type 0 = λ r. IfSome before (λ all. Refuses all r) in
    subst P (sym short.0) (refused_body before left after head.bytes.items (take head.end head.bytes.items) body head.end head.parts
    found.front refl found.parts found.few got short.1)
cut head refusal got (inr memory) before found of_bytes =
    absurd (let P : RequestRefusal → Type 0 = IsOfBytes in subst P memory of_bytes)

-- and so those of the whole call
pub request_of_head : {before left : Option (List ℕ)} {head : HeadRead} → IsHeadRead before head left → (result : Result Request RequestRefusal) → IfOk result (λ request. IsRequestRead head request left) → IfOk result (λ request. IfSome before (λ bytes. IsRequestOf bytes (plain_request request)))
request_of_head {before} found result is = IfOk-weaker result _ _ (λ request read. read before found) is

pub refusal_of_head : {before left : Option (List ℕ)} {head : HeadRead} → IsHeadRead before head left → (result : Result Request RequestRefusal) → IfErr result (λ refusal. IsRefusedAfter head refusal left) → IfErr result (IsRefusedOf before)
refusal_of_head {before} found result is = IfErr-weaker result _ _ (λ refusal after. after before found) is

-- the first bytes of all that stand behind a place
pub take_of_rest : (number end : ℕ) (bytes : List ℕ) → take number (take (length bytes - end) (drop end bytes)) ≡ take number (drop end bytes)
take_of_rest number end bytes =
    let all : length (drop end bytes) ≤ length bytes - end = omega (arith, length-drop end bytes) in
    ap (take number) (take_all (length bytes - end) (drop end bytes) all)

-- after some calls comes one that gives this error only with a cause
pub then-HasCauseOf : {T E : Type 0} {error : E} {a b c : ℕ} {result : Result T E} → NeverFalls a b → HasCauseOf error b c result → HasCauseOf error a c result
then-HasCauseOf earlier last = record {
  count = NeverFalls-trans earlier last.count;
  failed = λ err. then-Rose earlier (last.failed err);
}

-- an error is handed on as the answer of a call that gives something else
pub handed_on : {T U E : Type 0} {error refusal : E} {a b : ℕ} → HasCauseOf {T = T} error a b (Err refusal) → HasCauseOf {T = U} error a b (Err refusal)
handed_on {error = error} {refusal = refusal} cause = record {
  count = cause.count;
  failed = λ err. let same : refusal ≡ error = cc in cause.failed (ap Err same);
}
