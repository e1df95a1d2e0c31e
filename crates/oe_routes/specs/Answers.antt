-- What a request is answered, and what it changes in the book: one function of the request and of what is found in its
-- body and its graphs. The order of the lines is the order in which a request is tested.
use Rattle.std.specs.Prelude.{ℕ, ◌-◌, Bool, true, false, List, [], length, map, find, nat_lt, unwrap_or, if◌then◌else◌, Option, Some, None, option_and_then, Result, Ok, Err, bytes_eq, ⊤}
use Rattle.std.specs.List.{slice_get}
use Rattle.serde_json.specs.Data.{Data, null}
use Rattle.serde_json.specs.Read.{read}
use Rattle.serde_json.specs.Written.{compact_text}
use Rattle.oe_book.specs.Assets.{asset_name, asset_nodes, id_at}
use Rattle.oe_dims.specs.declared.dims.DimsRow.{DimsRow}
use Rattle.oe_graph.specs.Catalogue.{processes_data}
use Rattle.oe_graph.specs.Tree.{PlainGraph}
use Rattle.oe_http.specs.Laws.{json_reply}
use Rattle.oe_http.specs.Plain.{PlainRequest}
use Rattle.oe_http.specs.Replies.{PlainResponse}
use Rattle.oe_jobs.specs.Changes.{is_owned}
use Rattle.oe_jobs.specs.Machine.{is_busy}
use Rattle.oe_jobs.specs.Plain.{PlainBook, PlainChange, PlainCommand, PlainJob, PlainOwned, create, patch, delete, queue, cancel, store, forget}
use Rattle.oe_jobs.specs.Verdicts.{decide, job_of, stored_of}
use Rattle.oe_jobs.specs.declared.command.Outcome.{Outcome}
use Rattle.oe_jobs.specs.declared.command.Outcome.TheVariants as outcome
use Rattle.oe_jobs.specs.declared.job.Asset.{Asset}
use Rattle.oe_jobs.specs.declared.job.LogEntry.{LogEntry}
use Rattle.oe_jobs.specs.declared.status.Status.{Status}
use Rattle.oe_jobs.specs.declared.status.Status.TheVariants as status
use Rattle.oe_judge.specs.Judged.{checked_over, having_result}
use Rattle.oe_pages.specs.Pages.{paged_text}
use Rattle.oe_replies.specs.Answers.{created_reply, empty_reply, failed_reply, refused_reply, stored_reply}
use Rattle.oe_replies.specs.Bodies.{capabilities_data, conformance_data, file_formats_data, validation_data, versions_data}
use Rattle.oe_replies.specs.Collections.{collection_data, collections_data}
use Rattle.oe_replies.specs.Jobs.{job_data, jobs_data, results_data, stored_list_data}
use Rattle.oe_replies.specs.Logs.{logs_data}
use Rattle.oe_replies.specs.declared.code.ReplyCode.{ReplyCode}
use Rattle.oe_replies.specs.declared.code.ReplyCode.TheVariants as code
use Rattle.oe_routes.specs.Actions.{PlainAction, answer, commit, estimate, run_now, send_asset}
use Rattle.oe_routes.specs.Asks.{asked_method}
use Rattle.oe_routes.specs.Codes.{code_of_fault}
use Rattle.oe_routes.specs.Forms.{faultless, graph_in}
use Rattle.oe_routes.specs.Found.{Found}
use Rattle.oe_routes.specs.Paths.{id_in, name_in}
use Rattle.oe_routes.specs.Queries.{coded, logs_asked}
use Rattle.oe_routes.specs.Rejections.{Rejected, reject, plainly, ◌>>=◌}
use Rattle.oe_routes.specs.Scenes.{PlainScene}
use Rattle.oe_routes.specs.Sent.{changes_sent, graph_sent, job_sent, process_sent, validated_bytes}
use Rattle.oe_routes.specs.Table.{endpoint_of, routes}
use Rattle.oe_routes.specs.Users.{user_of}
use Rattle.oe_routes.specs.declared.action.EstimateGraph.{EstimateGraph}
use Rattle.oe_routes.specs.declared.table.Operation.{Operation}
use Rattle.oe_routes.specs.declared.table.Operation.TheVariants as ops

-- ---- replies with a body

abbrev pub shown : Data → PlainAction
shown body = answer (json_reply 200 (compact_text body))

-- the list that a body has: whole, or the page that the query asks for
abbrev pub listed : PlainScene → PlainRequest → Data → Result PlainAction Rejected
listed s r body =
    plainly (coded (paged_text s.base r.path r.query body)) >>= λ text.
    Ok (answer (json_reply 200 text))

-- ---- the named object

abbrev pub found_or : {A : Type 0} → ReplyCode → Option A → Result A Rejected
found_or missing None = reject missing
found_or missing (Some x) = Ok x

abbrev pub has_row_id : List ℕ → DimsRow → Bool
has_row_id id row = bytes_eq row.id id

abbrev pub named_row : List DimsRow → List ℕ → Result DimsRow Rejected
named_row rows id = found_or code.CollectionNotFound (find (has_row_id id) rows)

abbrev pub named_job : PlainBook → List ℕ → List ℕ → Result PlainJob Rejected
named_job book user id = found_or code.JobNotFound (job_of user id book)

abbrev pub named_process : PlainBook → List ℕ → List ℕ → Result PlainOwned Rejected
named_process book user id = found_or code.ProcessNotFound (find (is_owned user id) book.processes)

abbrev pub has_asset_name : List ℕ → Asset → Bool
has_asset_name name asset = bytes_eq asset.name name

abbrev pub named_asset : List Asset → List ℕ → Result Asset Rejected
named_asset assets name = found_or code.AssetNotFound (find (has_asset_name name) assets)

-- ---- results, which the status of a job allows

-- whether a job of a status has results; a failed one has a code in their place
abbrev pub has_results : Status → Result Bool Rejected
has_results status.Created = reject code.JobNotStarted
has_results status.Queued = reject code.JobNotFinished
has_results status.Running = reject code.JobNotFinished
has_results status.Canceled = Ok true
has_results status.Finished = Ok true
has_results status.Error = Ok false

-- the code of a failed job: that of its last log entry
abbrev pub error_code : List LogEntry → List ℕ
error_code logs = unwrap_or (option_and_then (λ (entry : LogEntry). entry.code) (slice_get logs (length logs - 1))) []

abbrev pub failed : PlainJob → PlainAction
failed job = answer (failed_reply (error_code job.logs))

-- ---- commands

abbrev pub done_reply : PlainCommand → PlainResponse
done_reply (store process) = stored_reply
done_reply (create title description process level) = empty_reply 204
done_reply (patch id title description process level) = empty_reply 204
done_reply (delete id) = empty_reply 204
done_reply (queue id) = empty_reply 204
done_reply (cancel id) = empty_reply 204
done_reply (forget id) = empty_reply 204

-- the reply to a command, by its outcome
abbrev pub reply_to : List ℕ → PlainCommand → Outcome → Result PlainResponse Rejected
reply_to base command (outcome.Created id) = Ok (created_reply base id)
reply_to base command outcome.Queued = Ok (empty_reply 202)
reply_to base command outcome.Done = Ok (done_reply command)
reply_to base command (outcome.Refused fault) = reject (code_of_fault fault)

abbrev pub action_of : Option PlainChange → PlainResponse → PlainAction
action_of None response = answer response
action_of (Some change) response = commit change response

-- what the book decides on a command of a user, with its reply
abbrev pub commanded : PlainScene → List ℕ → PlainCommand → Result PlainAction Rejected
commanded s user command =
    reply_to s.base command (decide s.book user command s.moment).outcome >>= λ response.
    Ok (action_of (decide s.book user command s.moment).change response)

-- ---- graphs

-- a graph with a user's stored processes has no fault
abbrev pub sound : PlainScene → Found → List ℕ → PlainGraph → Result ⊤ Rejected
sound s f user g = faultless (f.judged (stored_of user s.book) g)

-- the graph of the text of a process
abbrev pub graph_of_text : List ℕ → PlainGraph
graph_of_text text = graph_in (unwrap_or (read text) null)

abbrev pub most_assets : ℕ
most_assets = 4

abbrev pub few_assets : PlainGraph → Result ⊤ Rejected
few_assets g = if nat_lt most_assets (length (asset_nodes g)) then reject code.AssetLimit else Ok tt

-- a job that is queued already, or runs, is left as it is; of another one the graph is judged
abbrev pub may_queue : PlainScene → Found → List ℕ → PlainJob → Result ⊤ Rejected
may_queue s f user job =
    if is_busy job.status then Ok tt else (
    sound s f user (graph_of_text job.process) >>= λ is_sound.
    few_assets (graph_of_text job.process))

-- the asset of a node of a graph, with the graph whose result it is; it may call the user's stored processes
abbrev pub estimate_graph : PlainScene → List ℕ → PlainGraph → ℕ → EstimateGraph
estimate_graph s user g node = record {
  name = asset_name (id_at g.nodes node);
  checked = checked_over s.rows (stored_of user s.book) (having_result node g);
}

-- all assets of a graph that could be queued, in their order
abbrev pub estimated : PlainScene → Found → List ℕ → PlainGraph → Result PlainAction Rejected
estimated s f user g =
    sound s f user g >>= λ is_sound.
    few_assets g >>= λ are_few.
    Ok (estimate (map (estimate_graph s user g) (asset_nodes g)))

-- ---- what each operation does for a user: the form of the body or the query, the named object, the command

abbrev pub perform : PlainScene → Found → List ℕ → PlainRequest → Operation → Result PlainAction Rejected
perform s f user r ops.ShowCapabilities = Ok (shown (capabilities_data (map endpoint_of routes)))
perform s f user r ops.ShowVersions = Ok (shown (versions_data s.base))
perform s f user r ops.ShowConformance = Ok (shown conformance_data)
perform s f user r ops.ListFileFormats = Ok (shown file_formats_data)
perform s f user r ops.ListCollections = listed s r (collections_data s.rows)
perform s f user r ops.ShowCollection =
    named_row s.rows (id_in r.path) >>= λ row.
    Ok (shown (collection_data row))
perform s f user r ops.ListProcesses = listed s r processes_data
perform s f user r ops.Validate =
    validated_bytes f (stored_of user s.book) r.body >>= λ fault. Ok (shown (validation_data fault))
perform s f user r ops.RunNow =
    graph_sent f r.body >>= λ g.
    sound s f user g >>= λ is_sound.
    Ok (run_now (checked_over s.rows (stored_of user s.book) g))
perform s f user r ops.ListJobs = listed s r (jobs_data s.book user)
perform s f user r ops.CreateJob =
    job_sent f r.body >>= λ new.
    commanded s user (create new.title new.description new.process new.level)
perform s f user r ops.ShowJob =
    named_job s.book user (id_in r.path) >>= λ job.
    Ok (shown (job_data job))
perform s f user r ops.PatchJob =
    changes_sent f r.body >>= λ new.
    commanded s user (patch (id_in r.path) new.fields.title new.fields.description new.process new.fields.level)
perform s f user r ops.DeleteJob = commanded s user (delete (id_in r.path))
perform s f user r ops.EstimateJob =
    named_job s.book user (id_in r.path) >>= λ job.
    estimated s f user (graph_of_text job.process)
perform s f user r ops.ShowLogs =
    plainly (logs_asked r.query) >>= λ asked.
    named_job s.book user (id_in r.path) >>= λ job.
    Ok (shown (logs_data job.logs asked.0 asked.1))
perform s f user r ops.QueueJob =
    named_job s.book user (id_in r.path) >>= λ job.
    may_queue s f user job >>= λ may.
    commanded s user (queue (id_in r.path))
perform s f user r ops.CancelJob = commanded s user (cancel (id_in r.path))
perform s f user r ops.ShowResults =
    named_job s.book user (id_in r.path) >>= λ job.
    has_results job.status >>= λ has.
    Ok (if has then shown (results_data s.base (id_in r.path) job.assets) else failed job)
perform s f user r ops.SendAsset =
    named_job s.book user (id_in r.path) >>= λ job.
    has_results job.status >>= λ has.
    if has
    then (named_asset job.assets (name_in r.path) >>= λ asset. Ok (send_asset (Some asset.text)))
    else Ok (failed job)
perform s f user r ops.ListStored = listed s r (stored_list_data s.book user)
perform s f user r ops.ShowStored =
    named_process s.book user (id_in r.path) >>= λ owned.
    Ok (answer (json_reply 200 owned.process.text))
perform s f user r ops.StoreProcess =
    process_sent f (id_in r.path) r.body >>= λ process.
    commanded s user (store process)
perform s f user r ops.ForgetProcess = commanded s user (forget (id_in r.path))

-- ---- the whole answer: the path, the method, the user, and then the operation

-- the user, or an empty text where none is needed
abbrev pub user_text : Option (List ℕ) → List ℕ
user_text user = unwrap_or user []

abbrev pub done : PlainScene → Found → PlainRequest → Result PlainAction Rejected
done s f r =
    plainly (asked_method r) >>= λ method.
    plainly (user_of s.tokens method.needs_user r.authorization) >>= λ user.
    perform s f (user_text user) r method.operation

-- a request that is refused is answered with its code, and with the node of a graph's fault
abbrev pub answered : Result PlainAction Rejected → PlainAction
answered (Ok action) = action
answered (Err rejected) = answer (refused_reply rejected.code rejected.node)

abbrev pub answer_of : PlainScene → Found → PlainRequest → PlainAction
answer_of s f r = answered (done s f r)
