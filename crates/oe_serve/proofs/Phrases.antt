-- The status of each code has a phrase.
use Rattle.std.proofs.Common.{refl}
use Rattle.std.specs.Prelude.{IsSome}
use Rattle.http.specs.StatusCode.{reason_phrase}
use Rattle.oe_replies.specs.Codes.{status_of}
use Rattle.oe_replies.specs.declared.code.ReplyCode.{ReplyCode}
use Rattle.oe_replies.specs.declared.code.ReplyCode.TheVariants.{HeadTooLong, RequestMalformed, CodingUnsupported, BodyTooLong, RequestTruncated, NotFound, MethodUnsupported, AuthenticationRequired, TokenInvalid, ProcessIdInvalid, BodyInvalid, JobFieldInvalid, Graph, NumberUnsupported, ProcessTooLong, QueryInvalid, CollectionNotFound, JobNotFound, ProcessNotFound, AssetNotFound, JobNotStarted, JobNotFinished, JobLocked, JobLimit, AssetLimit, ProcessLimit, PredefinedProcessExists, PlanTooLarge, NumberOverflow, ReadFault, SourceDamaged, SpoolFault, SpoolDamaged, StoreFault, OutOfMemory}

pub code_has_phrase : (code : ReplyCode) → IsSome (reason_phrase (status_of code))
code_has_phrase HeadTooLong = refl
code_has_phrase RequestMalformed = refl
code_has_phrase CodingUnsupported = refl
code_has_phrase BodyTooLong = refl
code_has_phrase RequestTruncated = refl
code_has_phrase NotFound = refl
code_has_phrase MethodUnsupported = refl
code_has_phrase AuthenticationRequired = refl
code_has_phrase TokenInvalid = refl
code_has_phrase ProcessIdInvalid = refl
code_has_phrase BodyInvalid = refl
code_has_phrase JobFieldInvalid = refl
code_has_phrase (Graph code) = refl
code_has_phrase NumberUnsupported = refl
code_has_phrase ProcessTooLong = refl
code_has_phrase QueryInvalid = refl
code_has_phrase CollectionNotFound = refl
code_has_phrase JobNotFound = refl
code_has_phrase ProcessNotFound = refl
code_has_phrase AssetNotFound = refl
code_has_phrase JobNotStarted = refl
code_has_phrase JobNotFinished = refl
code_has_phrase JobLocked = refl
code_has_phrase JobLimit = refl
code_has_phrase AssetLimit = refl
code_has_phrase ProcessLimit = refl
code_has_phrase PredefinedProcessExists = refl
code_has_phrase PlanTooLarge = refl
code_has_phrase NumberOverflow = refl
code_has_phrase ReadFault = refl
code_has_phrase SourceDamaged = refl
code_has_phrase SpoolFault = refl
code_has_phrase SpoolDamaged = refl
code_has_phrase StoreFault = refl
code_has_phrase OutOfMemory = refl
