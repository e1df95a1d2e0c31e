-- What is answered to a connection: one row for each answer, with its reply, its cause, and the event that it is.
use Rattle.std.specs.Prelude.{◌≡◌, ⊤, ℕ, ℤ, ◌⊎◌, Bool, true, false, List, [], ◌++◌, map, None, Some}
use Rattle.serde_json.specs.Written.{compact_text}
use Rattle.oe_http.specs.Laws.{json_reply}
use Rattle.oe_http.specs.Plain.{PlainRequest}
use Rattle.oe_http.specs.Replies.{PlainResponse, reply_bytes}
use Rattle.oe_http.specs.Requests.{IsOfBytes}
use Rattle.oe_http.specs.declared.request.RequestRefusal.{RequestRefusal}
use Rattle.oe_jobs.specs.Changes.{changed}
use Rattle.oe_jobs.specs.Plain.{PlainBook, PlainChange, plain_change}
use Rattle.oe_pages.specs.Estimates.{estimate_data}
use Rattle.oe_pages.specs.declared.estimate.EstimateRow.{EstimateRow}
use Rattle.oe_plan.specs.Figures.{bound_of, chunks_of}
use Rattle.oe_replies.specs.Answers.{refused_reply}
use Rattle.oe_replies.specs.Codes.{status_of as status_of_code}
use Rattle.oe_replies.specs.declared.code.ReplyCode.{ReplyCode}
use Rattle.oe_replies.specs.declared.code.ReplyCode.TheVariants as code
use Rattle.oe_routes.specs.Actions.{MakesChange, PlainAction, answer, commit, estimate, plain_action, run_now, send_asset}
use Rattle.oe_routes.specs.Answers.{answer_of}
use Rattle.oe_routes.specs.Asks.{asks_for_rows}
use Rattle.oe_routes.specs.Codes.{code_of_refusal}
use Rattle.oe_routes.specs.Found.{Found, IsFoundFor}
use Rattle.oe_routes.specs.Scenes.{PlainScene}
use Rattle.oe_routes.specs.declared.action.Action.{Action}
use Rattle.oe_routes.specs.declared.action.Action.TheVariants as actions
use Rattle.oe_routes.specs.declared.action.EstimateGraph.{EstimateGraph}
use Rattle.oe_service.specs.Calls.{Failed}
use Rattle.oe_service.specs.Causes.{Outside}
use Rattle.oe_service.specs.States.{Event, command, no_command}
use Rattle.oe_check.specs.Checked.{CheckedGraph}
use Rattle.oe_window.specs.declared.grid.ChunkSize.{ChunkSize}
use Rattle.oe_serve.specs.Links.{Came, LinkOf, SendsReply, broken, request, unread}
use Rattle.oe_serve.specs.Results.{IsResult, ResultRefused, SendsResult, code_of, refusal_reply, result_head}
use Rattle.oe_serve.specs.declared.refusal.ResultRefusal.{ResultRefusal}
use Rattle.oe_serve.specs.declared.served.Served.{Served}

pub data Answer : Type 0 where
  -- the bytes are no request
  unreadable : ReplyCode → Answer
  -- a reply, with which the book stays
  reply : PlainResponse → Answer
  -- a change, which was committed and is in the book, and its reply
  change : PlainChange → PlainResponse → Answer
  -- a change that the keeper failed to commit
  store_fault : PlainChange → Answer
  -- the result of a graph: the length that the head says, and the text behind it
  result : CheckedGraph → ℕ → List ℕ → Answer
  -- a graph whose run has no result
  no_result : CheckedGraph → ResultRefusal → Answer
  -- an allocation was refused
  out_of_memory : Answer

-- ---- the reply

abbrev pub status_of : Answer → ℕ
status_of (unreadable broken_rule) = status_of_code broken_rule
status_of (reply response) = response.status
status_of (change made response) = response.status
status_of (store_fault made) = 500
status_of (result c count text) = 200
status_of (no_result c refusal) = status_of_code (code_of refusal)
status_of out_of_memory = 503

abbrev pub bytes_of : Answer → List ℕ
bytes_of (unreadable broken_rule) = reply_bytes (refused_reply broken_rule [])
bytes_of (reply response) = reply_bytes response
bytes_of (change made response) = reply_bytes response
bytes_of (store_fault made) = reply_bytes (refused_reply code.StoreFault [])
bytes_of (result c count text) = result_head count ++ text
bytes_of (no_result c refusal) = reply_bytes (refusal_reply c refusal)
bytes_of out_of_memory = reply_bytes (refused_reply code.OutOfMemory [])

-- ---- the cause

-- a request asks for this action, whatever is found in its body and its graphs
abbrev pub Asks : PlainScene → PlainRequest → PlainAction → Type 0
Asks s r action = (f : Found) → IsFoundFor s.rows (asks_for_rows r) f → answer_of s f r ≡ action

-- the same of what is to be done for it
abbrev pub AsksAction : PlainScene → PlainRequest → Action → Type 0
AsksAction s r action = Asks s r (plain_action s.book action)

-- what an asset needs in a run with chunks of these sides and so many workers
abbrev pub row_of : ChunkSize → ℕ → EstimateGraph → EstimateRow
row_of size workers graph = record {
  name = graph.name;
  bound = bound_of graph.checked size workers;
  chunks = chunks_of graph.checked size;
}

-- the text that says so of some assets, in their order
abbrev pub estimate_text : ChunkSize → ℕ → List EstimateGraph → List ℕ
estimate_text size workers graphs = compact_text (estimate_data (map (row_of size workers) graphs))

-- an action is answered with this reply, and changes nothing
abbrev pub IsReplyOf : ChunkSize → ℕ → PlainAction → PlainResponse → Type 0
IsReplyOf size workers (answer response) given = given ≡ response
IsReplyOf size workers (commit made response) given = ⊥
IsReplyOf size workers (run_now c) given = ⊥
IsReplyOf size workers (send_asset None) given = ⊥
IsReplyOf size workers (send_asset (Some text)) given = given ≡ json_reply 200 text
IsReplyOf size workers (estimate graphs) given = given ≡ json_reply 200 (estimate_text size workers graphs)

module _ (size : ChunkSize) (workers : ℕ) (book : PlainBook) (before after : Outside) (has_failed : Bool) where
  -- the change that an action commits was not kept: the keeper failed
  abbrev FailsToKeep : PlainAction → PlainChange → Type 0
  FailsToKeep action made =
      ((response : PlainResponse) × (action ≡ commit made response))
      × Failed (changed book made) before.kept after.kept before.keeper_faults after.keeper_faults has_failed

  -- an action has this answer; out of memory, which any may have, alone has no cause
  abbrev pub IsAnswerTo : PlainAction → Answer → Type 0
  IsAnswerTo action (unreadable broken_rule) = ⊥
  IsAnswerTo action (reply response) = IsReplyOf size workers action response
  IsAnswerTo action (change made response) = action ≡ commit made response
  IsAnswerTo action (store_fault made) = FailsToKeep action made
  IsAnswerTo action (result c count text) = (action ≡ run_now c) × IsResult c size workers before after count text
  IsAnswerTo action (no_result c refusal) = (action ≡ run_now c) × ResultRefused c size workers before after refusal
  IsAnswerTo action out_of_memory = ⊤

  -- bytes that are no request have as their answer the code of the first rule that they break
  pub record IsUnreadable (refusal : RequestRefusal) (a : Answer) : Type 0 where
    pub broken_rule : ReplyCode
    pub of_bytes : IsOfBytes refusal
    pub code_is : code_of_refusal refusal ≡ Some broken_rule
    pub answer_is : a ≡ unreadable broken_rule

  -- What came has this answer: a request that of what it asks for, and bytes that are no request that of the first rule
  -- that they break. Each may be answered that an allocation was refused.
  abbrev pub IsAnswer : PlainScene → Came → Answer → Type 0
  IsAnswer s (request r) a =
      ((action : PlainAction) × Asks s r action × IsAnswerTo action a) ⊎ (a ≡ out_of_memory)
  IsAnswer s (unread refusal) a = IsUnreadable refusal a ⊎ (a ≡ out_of_memory)
  IsAnswer s broken a = ⊥

-- the reply of an answer goes out, whole or as far as the connection goes; only a result may be cut off
abbrev pub SendsAnswer : Outside → Outside → Answer → LinkOf → LinkOf → Served → Type 0
SendsAnswer before after (unreadable broken_rule) link link_after served =
    SendsReply (status_of (unreadable broken_rule)) (bytes_of (unreadable broken_rule)) link link_after served
SendsAnswer before after (reply response) link link_after served =
    SendsReply (status_of (reply response)) (bytes_of (reply response)) link link_after served
SendsAnswer before after (change made response) link link_after served =
    SendsReply (status_of (change made response)) (bytes_of (change made response)) link link_after served
SendsAnswer before after (store_fault made) link link_after served =
    SendsReply (status_of (store_fault made)) (bytes_of (store_fault made)) link link_after served
SendsAnswer before after (result c count text) link link_after served =
    SendsResult c before after count text link link_after served
SendsAnswer before after (no_result c refusal) link link_after served =
    SendsReply (status_of (no_result c refusal)) (bytes_of (no_result c refusal)) link link_after served
SendsAnswer before after out_of_memory link link_after served =
    SendsReply (status_of out_of_memory) (bytes_of out_of_memory) link link_after served

-- ---- for private functions

-- the estimate of these assets goes out, or that an allocation was refused
abbrev pub SendsEstimate : ChunkSize → ℕ → List EstimateGraph → LinkOf → LinkOf → Served → Type 0
SendsEstimate size workers graphs link link_after served =
    SendsReply 200 (reply_bytes (json_reply 200 (estimate_text size workers graphs))) link link_after served
    ⊎ SendsReply 503 (reply_bytes (refused_reply code.OutOfMemory [])) link link_after served

-- ---- the event

-- the event is a command of some user that makes this change of the book, as the request's own does
abbrev pub IsCommandOf : PlainBook → ℤ → PlainChange → Event → Type 0
IsCommandOf book now made e = (m : MakesChange book now made) × (e ≡ command m.user m.asked now)

-- what is committed for a request is what a command makes
abbrev pub DecidesChange : PlainBook → ℤ → Action → Type 0
DecidesChange book now (actions.Answer response) = ⊤
DecidesChange book now (actions.Commit made response) = MakesChange book now (plain_change made)
DecidesChange book now (actions.RunNow checked) = ⊤
DecidesChange book now (actions.SendAsset job asset) = ⊤
DecidesChange book now (actions.Estimate graphs) = ⊤

-- the event of an answer: the command whose change it is, and no command of every other one
abbrev pub IsEventOf : PlainBook → ℤ → Answer → Event → Type 0
IsEventOf book now (unreadable broken_rule) e = e ≡ no_command
IsEventOf book now (reply response) e = e ≡ no_command
IsEventOf book now (change made response) e = IsCommandOf book now made e
IsEventOf book now (store_fault made) e = IsCommandOf book now made e
IsEventOf book now (result c count text) e = e ≡ no_command
IsEventOf book now (no_result c refusal) e = e ≡ no_command
IsEventOf book now out_of_memory e = e ≡ no_command

-- no change of the book was to be committed with it
abbrev pub ChangesNothing : Answer → Type 0
ChangesNothing (unreadable broken_rule) = ⊤
ChangesNothing (reply response) = ⊤
ChangesNothing (change made response) = ⊥
ChangesNothing (store_fault made) = ⊥
ChangesNothing (result c count text) = ⊤
ChangesNothing (no_result c refusal) = ⊤
ChangesNothing out_of_memory = ⊤

-- it came about: all but the two after which the book is as before
abbrev pub is_event : Answer → Bool
is_event (unreadable broken_rule) = true
is_event (reply response) = true
is_event (change made response) = true
is_event (store_fault made) = false
is_event (result c count text) = true
is_event (no_result c refusal) = true
is_event out_of_memory = false
