-- The codes of requests that could not be read, and of commands that the job book refuses.
use Rattle.std.specs.Prelude.{Option, Some, None}
use Rattle.oe_http.specs.declared.request.RequestRefusal.{RequestRefusal}
use Rattle.oe_http.specs.declared.request.RequestRefusal.TheVariants as requests
use Rattle.oe_jobs.specs.declared.command.JobFault.{JobFault}
use Rattle.oe_jobs.specs.declared.command.JobFault.TheVariants as faults
use Rattle.oe_replies.specs.declared.code.ReplyCode.{ReplyCode}
use Rattle.oe_replies.specs.declared.code.ReplyCode.TheVariants as code

-- nothing can be answered over a link that failed
abbrev pub code_of_refusal : RequestRefusal → Option ReplyCode
code_of_refusal requests.Malformed = Some code.RequestMalformed
code_of_refusal requests.HeadTooLong = Some code.HeadTooLong
code_of_refusal requests.BodyTooLong = Some code.BodyTooLong
code_of_refusal requests.CodingUnsupported = Some code.CodingUnsupported
code_of_refusal requests.Truncated = Some code.RequestTruncated
code_of_refusal requests.LinkFailed = None
code_of_refusal requests.OutOfMemory = Some code.OutOfMemory

abbrev pub code_of_fault : JobFault → ReplyCode
code_of_fault faults.JobNotFound = code.JobNotFound
code_of_fault faults.JobLocked = code.JobLocked
code_of_fault faults.JobLimit = code.JobLimit
code_of_fault faults.ProcessNotFound = code.ProcessNotFound
code_of_fault faults.ProcessLimit = code.ProcessLimit
code_of_fault faults.PredefinedProcessExists = code.PredefinedProcessExists
