-- What the steps of operations give in a row.
use Rattle.std.proofs.Common.{◌≡◌, ℕ, ℤ, List, Option, Some, Result, Ok, Err, IfOk, refl, sym, ap, ◌∙◌, subst}
use Rattle.std.specs.Option.{option_map_or}
use Rattle.std.specs.Prelude.{IsErrAnd}
use Rattle.serde_json.specs.Written.{compact_text}
use Rattle.oe_dims.specs.declared.dims.DimsRow.{DimsRow}
use Rattle.oe_http.specs.Laws.{json_reply}
use Rattle.oe_http.specs.Plain.{PlainRequest}
use Rattle.oe_http.specs.Replies.{PlainResponse}
use Rattle.oe_jobs.specs.Changes.{changed}
use Rattle.oe_jobs.specs.Plain.{PlainBook, PlainChange, PlainCommand, PlainJob, PlainVerdict, plain_command, queue}
use Rattle.oe_jobs.specs.Verdicts.{decide}
use Rattle.oe_graph.specs.declared.stored.StoredProcess.{StoredProcess}
use Rattle.oe_jobs.specs.declared.command.Command.{Command}
use Rattle.oe_jobs.specs.declared.command.Command.TheVariants as commands
use Rattle.oe_jobs.specs.declared.level.Level.{Level}
use Rattle.oe_replies.specs.Answers.{empty_reply}
use Rattle.oe_replies.specs.Collections.{collection_data}
use Rattle.oe_replies.specs.Jobs.{job_data}
use Rattle.oe_replies.specs.Logs.{logs_data}
use Rattle.oe_routes.specs.Actions.{MakesChange, answer}
use Rattle.oe_routes.specs.Answers.{action_of, commanded, done_reply, may_queue, named_job, named_row, perform, reply_to, shown}
use Rattle.oe_routes.specs.Found.{Found}
use Rattle.oe_routes.specs.Paths.{id_in}
use Rattle.oe_routes.specs.declared.table.Operation.TheVariants as ops
use Rattle.oe_routes.specs.Queries.{logs_asked}
use Rattle.oe_routes.specs.Rejections.{Rejected, Rejects, Settles, plainly, ◌>>=◌}
use Rattle.oe_routes.specs.Scenes.{PlainScene}
use Rattle.oe_routes.specs.declared.refusal.Rejection.{Rejection}
use Rattle.oe_routes.specs.declared.refusal.Rejection.TheVariants as rejection

-- what a call hands on as its own error is what its step is refused with
pub handed_on : {X Y : Type 0} (view : X → Y) (r : Result X Rejection) (e : Rejection) (step : Result Y Rejected)
    → IsErrAnd r (λ (x : Rejection). x ≡ e) → Rejects e step → Settles view r step
handed_on view (Ok x) e step is h = absurd is
handed_on view (Err x) e step is h = subst (λ (y : Rejection). Rejects y step) (sym is) h

-- what holds of a value under a condition that is met
pub once_met : {X : Type 0} (Met : Type 0) (Q : X → Type 0) (r : Result X Rejection) → Met → IfOk r (λ (x : X). Met → Q x) → IfOk r Q
once_met Met Q (Ok x) met h = h met
once_met Met Q (Err e) met h = tt

-- what refuses a step refuses those in a row that begin with it
pub refuses_all : {A B : Type 0} (e : Rejection) (step : Result A Rejected) (next : A → Result B Rejected) → Rejects e step
    → Rejects e (step >>= next)
refuses_all rejection.OutOfMemory step next h = tt
refuses_all (rejection.Code code) step next h = rw h refl
refuses_all (rejection.Fault fault) step next h = rw h refl

pub commanded_refused : (s : PlainScene) (user : List ℕ) (command : PlainCommand) (v : PlainVerdict) (e : Rejection)
    → v ≡ decide s.book user command s.moment → Rejects e (reply_to s.base command v.outcome)
    → Rejects e (commanded s user command)
commanded_refused s user command v e same h =
    refuses_all e (reply_to s.base command (decide s.book user command s.moment).outcome)
    (λ response. Ok (action_of (decide s.book user command s.moment).change response))
    (subst (λ (w : PlainVerdict). Rejects e (reply_to s.base command w.outcome)) same h)

-- what the book changes on a command is what the command makes
pub made_by : (book : PlainBook) (user : List ℕ) (command : PlainCommand) (now : ℤ) (v : PlainVerdict) (made : PlainChange)
    → v ≡ decide book user command now → v.change ≡ Some made → MakesChange book now made
made_by book user command now v made same is =
    let change : Some made ≡ (decide book user command now).change = sym is ∙ ap (λ (w : PlainVerdict). w.change) same in
    record {
      user = user;
      asked = command;
      made_is = ap (λ (o : Option PlainChange). option_map_or (changed book) o book) change;
    }

-- what is done but for a process that is stored is answered without a body
pub done_empty : (command : Command) → ((process : StoredProcess) → command ≡ commands.Store process → ⊥)
    → done_reply (plain_command command) ≡ empty_reply 204
done_empty (commands.Create title description process level) other = refl
done_empty (commands.Patch id title description process level) other = refl
done_empty (commands.Delete id) other = refl
done_empty (commands.Queue id) other = refl
done_empty (commands.Cancel id) other = refl
done_empty (commands.Store process) other = absurd (other process refl)
done_empty (commands.Forget id) other = refl

pub row_shown : (rows : List DimsRow) (id : List ℕ) (row : DimsRow) (body : List ℕ) (reply : PlainResponse)
    → named_row rows id ≡ Ok row → body ≡ compact_text (collection_data row) → reply ≡ json_reply 200 body
    → (named_row rows id >>= λ row. Ok (shown (collection_data row))) ≡ Ok (answer reply)
row_shown rows id row body reply named is made = rw (named, made, is) refl

pub job_shown : (book : PlainBook) (user id : List ℕ) (job : PlainJob) (body : List ℕ) (reply : PlainResponse)
    → named_job book user id ≡ Ok job → body ≡ compact_text (job_data job) → reply ≡ json_reply 200 body
    → (named_job book user id >>= λ job. Ok (shown (job_data job))) ≡ Ok (answer reply)
job_shown book user id job body reply named told made = rw (named, made, told) refl

pub logs_shown : (query : List ℕ) (asked : Level × ℕ) (book : PlainBook) (user id : List ℕ) (job : PlainJob)
    (body : List ℕ) (reply : PlainResponse) → logs_asked query ≡ Ok asked → named_job book user id ≡ Ok job
    → body ≡ compact_text (logs_data job.logs asked.0 asked.1) → reply ≡ json_reply 200 body
    → (plainly (logs_asked query) >>= λ asked.
    named_job book user id >>= λ job.
    Ok (shown (logs_data job.logs asked.0 asked.1))) ≡ Ok (answer reply)
logs_shown query asked book user id job body reply is named told made = rw (is, named, made, told) refl

pub logs_refused : (query : List ℕ) (asked : Level × ℕ) (book : PlainBook) (user id : List ℕ) (e : Rejection)
    → logs_asked query ≡ Ok asked → Rejects e (named_job book user id)
    → Rejects e (plainly (logs_asked query) >>= λ asked.
    named_job book user id >>= λ job.
    Ok (shown (logs_data job.logs asked.0 asked.1)))
logs_refused query asked book user id e is h =
    rw is (refuses_all e (named_job book user id) (λ job. Ok (shown (logs_data job.logs asked.0 asked.1))) h)

-- a job that may not be queued
pub queue_refused : (s : PlainScene) (f : Found) (user : List ℕ) (r : PlainRequest) (job : PlainJob) (e : Rejection)
    → named_job s.book user (id_in r.path) ≡ Ok job → Rejects e (may_queue s f user job)
    → Rejects e (perform s f user r ops.QueueJob)
queue_refused s f user r job e named h =
    rw named (refuses_all e (may_queue s f user job) (λ may. commanded s user (queue (id_in r.path))) h)
