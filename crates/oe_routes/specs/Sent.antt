-- What the bodies of requests bring as a graph: to be stored, to be run at once, to be validated. A step that refuses
-- decides before the next one is looked at.
use Rattle.std.specs.Prelude.{ℕ, nat_lt, if◌then◌else◌, Bool, List, length, bytes_eq, codes, Option, Some, None, unwrap_or, Result, Ok, Err, ⊤}
use Rattle.serde_json.specs.Data.{Data, null, boolean, number, string, array, object, put}
use Rattle.serde_json.specs.Find.{get}
use Rattle.serde_json.specs.Written.{compact_text, has_float}
use Rattle.oe_graph.specs.Codes.{name_of}
use Rattle.oe_graph.specs.Parameters.{parameters_of}
use Rattle.oe_graph.specs.Tree.{PlainGraph, PlainStored}
use Rattle.oe_graph.specs.declared.fault.Fault.{Fault}
use Rattle.oe_jobs.specs.Valid.{most_process}
use Rattle.oe_replies.specs.declared.code.ReplyCode.TheVariants.{NumberUnsupported, ProcessIdInvalid, ProcessTooLong}
use Rattle.oe_routes.specs.Forms.{faultless, graph_in, job_changes, new_job, object_in}
use Rattle.oe_routes.specs.Found.{Found, process_fault}
use Rattle.oe_routes.specs.Rejections.{Rejected, of_fault, reject, ◌>>=◌}
use Rattle.oe_routes.specs.Tokens.{is_id}
use Rattle.oe_routes.specs.declared.form.Changes.{Changes}
use Rattle.oe_routes.specs.declared.form.NewJob.{NewJob}

-- ---- for a job: the member `process` of the body, beside the fields of the job

abbrev pub job_sent : Found → List ℕ → Result NewJob Rejected
job_sent f body = new_job (f.json body) (process_fault f (f.json body))

abbrev pub changes_sent : Found → List ℕ → Result Changes Rejected
changes_sent f body = job_changes (f.json body) (process_fault f (f.json body))

-- ---- to be run at once: the member `process` of the body, which alone is looked at

-- the graph of a value without a fault of its form
abbrev pub graph_where : Found → Data → Result PlainGraph Rejected
graph_where f d = faultless (f.in_value d) >>= λ sound. Ok (graph_in d)

abbrev pub graph_from : Found → Option Data → Result PlainGraph Rejected
graph_from f json =
    object_in json >>= λ sent.
    object_in (get (codes "process") sent) >>= λ process.
    graph_where f process

abbrev pub graph_sent : Found → List ℕ → Result PlainGraph Rejected
graph_sent f body = graph_from f (f.json body)

-- ---- to be validated: the body itself

abbrev pub is_unreadable : Fault → Bool
is_unreadable fault = bytes_eq (name_of fault.code) (codes "GraphUnreadable")

-- the fault that is told: of the form, else the other one that was found; what is no JSON object is refused
abbrev pub validated : Option Fault → Option Fault → Result (Option Fault) Rejected
validated None later = Ok later
validated (Some fault) later = if is_unreadable fault then Err (of_fault fault) else Ok (Some fault)

-- the one of bytes, whose graph may call these stored processes
abbrev pub validated_bytes : Found → List PlainStored → List ℕ → Result (Option Fault) Rejected
validated_bytes f stored bytes =
    validated (f.in_bytes bytes) (f.judged stored (graph_in (unwrap_or (f.json bytes) null)))

-- ---- to be stored: the body, under the id of the path

abbrev pub named : List ℕ → Result ⊤ Rejected
named id = if is_id id then Ok tt else reject ProcessIdInvalid

abbrev pub whole : Data → Result ⊤ Rejected
whole d = if has_float d then reject NumberUnsupported else Ok tt

abbrev pub short : List ℕ → Result (List ℕ) Rejected
short text = if nat_lt most_process (length text) then reject ProcessTooLong else Ok text

-- the body with this id in place of its own
abbrev pub with_id : List ℕ → Data → Data
with_id id null = null
with_id id (boolean b) = boolean b
with_id id (number n) = number n
with_id id (string s) = string s
with_id id (array ds) = array ds
with_id id (object ms) = object (put (codes "id") (string id) ms)

-- the text of a body under this id
abbrev pub text_under : List ℕ → Option Data → Result (List ℕ) Rejected
text_under id json = object_in json >>= λ sent. short (compact_text (with_id id sent))

-- the process of a body, by its JSON value and the least fault of it as a stored process
abbrev pub process_from : List ℕ → Option Data → Option Fault → Result PlainStored Rejected
process_from id json fault =
    object_in json >>= λ sent.
    faultless fault >>= λ sound.
    whole sent >>= λ numbers.
    short (compact_text (with_id id sent)) >>= λ text.
    Ok (record { id = id; parameters = parameters_of sent; graph = graph_in sent; text = text })

abbrev pub process_sent : Found → List ℕ → List ℕ → Result PlainStored Rejected
process_sent f id body = named id >>= λ valid. process_from id (f.json body) (f.in_stored body)
