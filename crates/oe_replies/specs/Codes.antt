-- The codes of refused requests, each with its HTTP status (openEO API, error handling; which codes there are beside
-- those of graphs is this profile's own).
use Rattle.std.specs.Prelude.{ℕ, Bool, true, false, List, codes}
use Rattle.oe_graph.specs.Codes as graphs
use Rattle.oe_replies.specs.declared.code.ReplyCode.{ReplyCode}
use Rattle.oe_replies.specs.declared.code.ReplyCode.TheVariants.{HeadTooLong, RequestMalformed, CodingUnsupported, BodyTooLong, RequestTruncated, NotFound, MethodUnsupported, AuthenticationRequired, TokenInvalid, ProcessIdInvalid, BodyInvalid, JobFieldInvalid, Graph, NumberUnsupported, ProcessTooLong, QueryInvalid, CollectionNotFound, JobNotFound, ProcessNotFound, AssetNotFound, JobNotStarted, JobNotFinished, JobLocked, JobLimit, AssetLimit, ProcessLimit, PredefinedProcessExists, PlanTooLarge, NumberOverflow, ReadFault, SourceDamaged, SpoolFault, SpoolDamaged, StoreFault, OutOfMemory}

-- a row: the status, and the code as it is spelled
pub record Row : Type 0 where
  pub status : ℕ
  pub name : List ℕ

abbrev row : ℕ → List ℕ → Row
row status name = record { status = status; name = name }

abbrev pub row_of : ReplyCode → Row
row_of HeadTooLong = row 431 (codes "HeadTooLong")
row_of RequestMalformed = row 400 (codes "RequestMalformed")
row_of CodingUnsupported = row 415 (codes "CodingUnsupported")
row_of BodyTooLong = row 413 (codes "BodyTooLong")
row_of RequestTruncated = row 400 (codes "RequestTruncated")
row_of NotFound = row 404 (codes "NotFound")
row_of MethodUnsupported = row 405 (codes "MethodUnsupported")
row_of AuthenticationRequired = row 401 (codes "AuthenticationRequired")
row_of TokenInvalid = row 403 (codes "TokenInvalid")
row_of ProcessIdInvalid = row 400 (codes "ProcessIdInvalid")
row_of BodyInvalid = row 400 (codes "BodyInvalid")
row_of JobFieldInvalid = row 400 (codes "JobFieldInvalid")
row_of (Graph code) = row 400 (graphs.name_of code)
row_of NumberUnsupported = row 400 (codes "NumberUnsupported")
row_of ProcessTooLong = row 400 (codes "ProcessTooLong")
row_of QueryInvalid = row 400 (codes "QueryInvalid")
row_of CollectionNotFound = row 404 (codes "CollectionNotFound")
row_of JobNotFound = row 404 (codes "JobNotFound")
row_of ProcessNotFound = row 404 (codes "ProcessNotFound")
row_of AssetNotFound = row 404 (codes "AssetNotFound")
row_of JobNotStarted = row 400 (codes "JobNotStarted")
row_of JobNotFinished = row 400 (codes "JobNotFinished")
row_of JobLocked = row 400 (codes "JobLocked")
row_of JobLimit = row 400 (codes "JobLimit")
row_of AssetLimit = row 400 (codes "AssetLimit")
row_of ProcessLimit = row 400 (codes "ProcessLimit")
row_of PredefinedProcessExists = row 400 (codes "PredefinedProcessExists")
row_of PlanTooLarge = row 400 (codes "PlanTooLarge")
row_of NumberOverflow = row 400 (codes "NumberOverflow")
row_of ReadFault = row 500 (codes "ReadFault")
row_of SourceDamaged = row 500 (codes "SourceDamaged")
row_of SpoolFault = row 500 (codes "SpoolFault")
row_of SpoolDamaged = row 500 (codes "SpoolDamaged")
row_of StoreFault = row 500 (codes "StoreFault")
row_of OutOfMemory = row 503 (codes "OutOfMemory")

abbrev pub status_of : ReplyCode → ℕ
status_of code = (row_of code).status

abbrev pub name_of : ReplyCode → List ℕ
name_of code = (row_of code).name

-- the message has a detail behind these codes: the node of a graph's fault, the number of a plan or of a cell, or the
-- collection and the number of what is damaged
abbrev pub has_detail : ReplyCode → Bool
has_detail HeadTooLong = false
has_detail RequestMalformed = false
has_detail CodingUnsupported = false
has_detail BodyTooLong = false
has_detail RequestTruncated = false
has_detail NotFound = false
has_detail MethodUnsupported = false
has_detail AuthenticationRequired = false
has_detail TokenInvalid = false
has_detail ProcessIdInvalid = false
has_detail BodyInvalid = false
has_detail JobFieldInvalid = false
has_detail (Graph code) = true
has_detail NumberUnsupported = false
has_detail ProcessTooLong = false
has_detail QueryInvalid = false
has_detail CollectionNotFound = false
has_detail JobNotFound = false
has_detail ProcessNotFound = false
has_detail AssetNotFound = false
has_detail JobNotStarted = false
has_detail JobNotFinished = false
has_detail JobLocked = false
has_detail JobLimit = false
has_detail AssetLimit = false
has_detail ProcessLimit = false
has_detail PredefinedProcessExists = false
has_detail PlanTooLarge = true
has_detail NumberOverflow = true
has_detail ReadFault = false
has_detail SourceDamaged = true
has_detail SpoolFault = false
has_detail SpoolDamaged = true
has_detail StoreFault = false
has_detail OutOfMemory = false
