-- The bytes of each error body without a detail.
use Rattle.std.proofs.Common.{◌≡◌, true≢false, refl}
use Rattle.serde_json.proofs.OnLiterals.{serde_json_on_literals}
use Rattle.oe_replies.specs.Laws.{ErrorsArePlain}
use Rattle.oe_replies.specs.declared.code.ReplyCode.TheVariants.{HeadTooLong, RequestMalformed, CodingUnsupported, BodyTooLong, RequestTruncated, NotFound, MethodUnsupported, AuthenticationRequired, TokenInvalid, ProcessIdInvalid, BodyInvalid, JobFieldInvalid, Graph, NumberUnsupported, ProcessTooLong, QueryInvalid, CollectionNotFound, JobNotFound, ProcessNotFound, AssetNotFound, JobNotStarted, JobNotFinished, JobLocked, JobLimit, AssetLimit, ProcessLimit, PredefinedProcessExists, PlanTooLarge, NumberOverflow, ReadFault, SourceDamaged, SpoolFault, SpoolDamaged, StoreFault, OutOfMemory}

pub errors_are_plain : ErrorsArePlain
unfolding serde_json_on_literals
errors_are_plain HeadTooLong plain = refl
errors_are_plain RequestMalformed plain = refl
errors_are_plain CodingUnsupported plain = refl
errors_are_plain BodyTooLong plain = refl
errors_are_plain RequestTruncated plain = refl
errors_are_plain NotFound plain = refl
errors_are_plain MethodUnsupported plain = refl
errors_are_plain AuthenticationRequired plain = refl
errors_are_plain TokenInvalid plain = refl
errors_are_plain ProcessIdInvalid plain = refl
errors_are_plain BodyInvalid plain = refl
errors_are_plain JobFieldInvalid plain = refl
errors_are_plain (Graph code) plain = absurd (true≢false plain)
errors_are_plain NumberUnsupported plain = refl
errors_are_plain ProcessTooLong plain = refl
errors_are_plain QueryInvalid plain = refl
errors_are_plain CollectionNotFound plain = refl
errors_are_plain JobNotFound plain = refl
errors_are_plain ProcessNotFound plain = refl
errors_are_plain AssetNotFound plain = refl
errors_are_plain JobNotStarted plain = refl
errors_are_plain JobNotFinished plain = refl
errors_are_plain JobLocked plain = refl
errors_are_plain JobLimit plain = refl
errors_are_plain AssetLimit plain = refl
errors_are_plain ProcessLimit plain = refl
errors_are_plain PredefinedProcessExists plain = refl
errors_are_plain PlanTooLarge plain = absurd (true≢false plain)
errors_are_plain NumberOverflow plain = absurd (true≢false plain)
errors_are_plain ReadFault plain = refl
errors_are_plain SourceDamaged plain = absurd (true≢false plain)
errors_are_plain SpoolFault plain = refl
errors_are_plain SpoolDamaged plain = absurd (true≢false plain)
errors_are_plain StoreFault plain = refl
errors_are_plain OutOfMemory plain = refl
