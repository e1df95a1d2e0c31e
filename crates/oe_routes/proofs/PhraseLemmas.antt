-- Each status that is answered has a standard phrase.
use Rattle.std.proofs.Common.{◌≡◌, ℕ, List, Result, Ok, Err, IfOk, refl, sym, subst}
use Rattle.std.specs.Prelude.{IsSome}
use Rattle.http.specs.StatusCode.{reason_phrase}
use Rattle.oe_http.specs.Replies.{PlainResponse, plain_response}
use Rattle.oe_http.specs.declared.response.Response.{Response}
use Rattle.oe_jobs.specs.Plain.{PlainCommand, create, patch, delete, queue, cancel, store, forget}
use Rattle.oe_jobs.specs.declared.command.Outcome.{Outcome}
use Rattle.oe_jobs.specs.declared.command.Outcome.TheVariants as outcome
use Rattle.oe_replies.specs.Answers.{created_reply, empty_reply}
use Rattle.oe_replies.specs.Codes.{status_of}
use Rattle.oe_replies.specs.declared.code.ReplyCode.{ReplyCode}
use Rattle.oe_replies.specs.declared.code.ReplyCode.TheVariants as codes
use Rattle.oe_routes.specs.Actions.{HasPhrase}
use Rattle.oe_routes.specs.Answers.{done_reply, reply_to}

pub code_phrase : (code : ReplyCode) → IsSome (reason_phrase (status_of code))
code_phrase codes.HeadTooLong = refl
code_phrase codes.RequestMalformed = refl
code_phrase codes.CodingUnsupported = refl
code_phrase codes.BodyTooLong = refl
code_phrase codes.RequestTruncated = refl
code_phrase codes.NotFound = refl
code_phrase codes.MethodUnsupported = refl
code_phrase codes.AuthenticationRequired = refl
code_phrase codes.TokenInvalid = refl
code_phrase codes.ProcessIdInvalid = refl
code_phrase codes.BodyInvalid = refl
code_phrase codes.JobFieldInvalid = refl
code_phrase (codes.Graph c) = refl
code_phrase codes.NumberUnsupported = refl
code_phrase codes.ProcessTooLong = refl
code_phrase codes.QueryInvalid = refl
code_phrase codes.CollectionNotFound = refl
code_phrase codes.JobNotFound = refl
code_phrase codes.ProcessNotFound = refl
code_phrase codes.AssetNotFound = refl
code_phrase codes.JobNotStarted = refl
code_phrase codes.JobNotFinished = refl
code_phrase codes.JobLocked = refl
code_phrase codes.JobLimit = refl
code_phrase codes.AssetLimit = refl
code_phrase codes.ProcessLimit = refl
code_phrase codes.PredefinedProcessExists = refl
code_phrase codes.PlanTooLarge = refl
code_phrase codes.NumberOverflow = refl
code_phrase codes.ReadFault = refl
code_phrase codes.SourceDamaged = refl
code_phrase codes.SpoolFault = refl
code_phrase codes.SpoolDamaged = refl
code_phrase codes.StoreFault = refl
code_phrase codes.OutOfMemory = refl

pub reply_phrase : (r : Response) (p : PlainResponse) → IsSome (reason_phrase p.status) → plain_response r ≡ p → HasPhrase r
reply_phrase r p some is = subst (λ (q : PlainResponse). IsSome (reason_phrase q.status)) (sym is) some

-- the same of a call that may be out of memory
pub reply_phrases : {E : Type 0} (r : Result Response E) (p : PlainResponse) → IsSome (reason_phrase p.status)
    → IfOk r (λ (x : Response). plain_response x ≡ p) → IfOk r HasPhrase
reply_phrases (Ok x) p some is = reply_phrase x p some is
reply_phrases (Err e) p some is = tt

-- ---- the reply to a command

done_phrase : (command : PlainCommand) → IsSome (reason_phrase (done_reply command).status)
done_phrase (create title description process level) = refl
done_phrase (patch id title description process level) = refl
done_phrase (delete id) = refl
done_phrase (queue id) = refl
done_phrase (cancel id) = refl
done_phrase (store process) = refl
done_phrase (forget id) = refl

pub command_phrase : (base : List ℕ) (command : PlainCommand) (o : Outcome) (r : Response)
    → reply_to base command o ≡ Ok (plain_response r) → HasPhrase r
command_phrase base command (outcome.Created id) r is =
    let same : plain_response r ≡ created_reply base id = cc in reply_phrase r (created_reply base id) refl same
command_phrase base command outcome.Queued r is =
    let same : plain_response r ≡ empty_reply 202 = cc in reply_phrase r (empty_reply 202) refl same
command_phrase base command outcome.Done r is =
    let same : plain_response r ≡ done_reply command = cc in reply_phrase r (done_reply command) (done_phrase command) same
command_phrase base command (outcome.Refused fault) r is = absurd cc
