-- What the body of a request asks for, by its JSON value and the least fault of the graph that it brings. A step that
-- refuses decides before the next one is looked at.
use Rattle.std.specs.Prelude.{ℕ, ◌≤◌, nat_lt, if◌then◌else◌, List, length, codes, Option, Some, None, IfSome, is_some, unwrap_or, Result, Ok, Err, ⊤}
use Rattle.serde_json.specs.Data.{Data, depth, no_members}
use Rattle.serde_json.specs.Find.{as_object, get}
use Rattle.serde_json.specs.Read.{max_depth}
use Rattle.serde_json.specs.Written.{compact_text, has_float}
use Rattle.oe_graph.specs.Built.{graph_of}
use Rattle.oe_graph.specs.Form.{StandsIn, nodes_in}
use Rattle.oe_graph.specs.Read.{IsFaultless}
use Rattle.oe_graph.specs.Tree.{PlainGraph}
use Rattle.oe_graph.specs.declared.fault.Fault.{Fault}
use Rattle.oe_jobs.specs.Valid.{AreWords, IsProcessText, most_process}
use Rattle.oe_jobs.specs.declared.level.Level.TheVariants.{Info}
use Rattle.oe_replies.specs.declared.code.ReplyCode.TheVariants.{BodyInvalid, NumberUnsupported, ProcessTooLong}
use Rattle.oe_routes.specs.Fields.{fields_in}
use Rattle.oe_routes.specs.Found.{IsFaultWhere, process_in}
use Rattle.oe_routes.specs.Rejections.{Rejected, of_fault, reject, plainly, ◌>>=◌}
use Rattle.oe_routes.specs.declared.fields.Fields.{Fields}
use Rattle.oe_routes.specs.declared.form.Changes.{Changes}
use Rattle.oe_routes.specs.declared.form.NewJob.{NewJob}

-- ---- members

-- a value that is there and is an object
abbrev pub object_in : Option Data → Result Data Rejected
object_in None = reject BodyInvalid
object_in (Some d) = if is_some (as_object d) then Ok d else reject BodyInvalid

-- one that is an object where it is there
abbrev pub object_where : Option Data → Result (Option Data) Rejected
object_where None = Ok None
object_where (Some d) = object_in (Some d) >>= λ found. Ok (Some found)

-- no fault was found in the graph
abbrev pub faultless : Option Fault → Result ⊤ Rejected
faultless None = Ok tt
faultless (Some fault) = Err (of_fault fault)

-- the text of a process, whose numbers are all whole and which is not too long
abbrev pub text_of : Data → Result (List ℕ) Rejected
text_of d =
    if has_float d then reject NumberUnsupported else (
    if nat_lt most_process (length (compact_text d)) then reject ProcessTooLong else Ok (compact_text d))

abbrev pub text_where : Option Data → Result (Option (List ℕ)) Rejected
text_where None = Ok None
text_where (Some d) = text_of d >>= λ text. Ok (Some text)

-- the graph of a value that was sent as one
abbrev pub graph_in : Data → PlainGraph
graph_in d = graph_of (unwrap_or (nodes_in d) no_members)

-- ---- bodies

-- a new job: what is not given is absent, and the level info
abbrev pub new_job : Option Data → Option Fault → Result NewJob Rejected
new_job json fault =
    object_in json >>= λ body.
    object_in (get (codes "process") body) >>= λ process.
    plainly (fields_in body) >>= λ fields.
    faultless fault >>= λ sound.
    text_of process >>= λ text.
    Ok (record {
      title = unwrap_or fields.title None;
      description = unwrap_or fields.description None;
      process = text;
      level = unwrap_or fields.level Info;
    })

-- what is to change of a job: what is not given stays
abbrev pub job_changes : Option Data → Option Fault → Result Changes Rejected
job_changes json fault =
    object_in json >>= λ body.
    object_where (get (codes "process") body) >>= λ process.
    plainly (fields_in body) >>= λ fields.
    faultless fault >>= λ sound.
    text_where process >>= λ text.
    Ok (record { fields = fields; process = text })

-- ---- what a valid book takes

-- the JSON value of a body, with the least fault of its process
abbrev pub IsSent : Option Data → Option Fault → Type 0
IsSent json fault = IfSome json (λ d. depth d ≤ max_depth) × IsFaultWhere (process_in json) fault

-- texts that are not too long, and the text of a process
abbrev pub AreFields : Fields → Type 0
AreFields fields = IfSome fields.title AreWords × IfSome fields.description AreWords

abbrev pub IsNewJob : NewJob → Type 0
IsNewJob job = AreWords job.title × AreWords job.description × IsProcessText job.process

abbrev pub AreChanges : Changes → Type 0
AreChanges new = AreFields new.fields × IfSome new.process IsProcessText

-- a value whose text may be that of a process
abbrev pub IsProcess : Data → Type 0
IsProcess d = IsFaultless (StandsIn d) × (depth d ≤ max_depth)
