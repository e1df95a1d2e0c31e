-- What is to be done for a request.
use Rattle.std.specs.Prelude.{◌≡◌, ℕ, ℤ, Bool, true, List, Option, option_and_then, IsSome, ⊤}
use Rattle.std.specs.List.{slice_get}
use Rattle.std.specs.Option.{option_map}
use Rattle.http.specs.StatusCode.{reason_phrase}
use Rattle.oe_http.specs.Replies.{PlainResponse, plain_response}
use Rattle.oe_http.specs.declared.response.Response.{Response}
use Rattle.oe_jobs.specs.Changes.{changed}
use Rattle.oe_jobs.specs.Plain.{PlainBook, PlainChange, PlainCommand, PlainJob, plain_change}
use Rattle.oe_jobs.specs.Valid.{IsBook}
use Rattle.oe_jobs.specs.Verdicts as verdicts
use Rattle.oe_jobs.specs.declared.job.Asset.{Asset}
use Rattle.oe_routes.specs.Scenes.{PlainScene}
use Rattle.oe_routes.specs.declared.action.Action.{Action}
use Rattle.oe_routes.specs.declared.action.Action.TheVariants as action
use Rattle.oe_routes.specs.declared.action.EstimateGraph.{EstimateGraph}
use Rattle.oe_check.specs.Checked.{CheckedGraph}

pub data PlainAction : Type 0 where
  answer : PlainResponse → PlainAction
  -- the change is made and committed, and then answered
  commit : PlainChange → PlainResponse → PlainAction
  -- the graph is run, and answered with its result
  run_now : CheckedGraph → PlainAction
  -- answered with the text of an asset
  send_asset : Option (List ℕ) → PlainAction
  -- answered with what these assets of a job need
  estimate : List EstimateGraph → PlainAction

-- the text of an asset, by the indices of its job in the book and of the asset in the job
abbrev pub text_at : PlainBook → ℕ → ℕ → Option (List ℕ)
text_at book job asset =
    option_map (λ (a : Asset). a.text)
    (option_and_then (λ (j : PlainJob). slice_get j.assets asset) (slice_get book.jobs job))

-- what an action does over a book
abbrev pub plain_action : PlainBook → Action → PlainAction
plain_action book (action.Answer response) = answer (plain_response response)
plain_action book (action.Commit change response) = commit (plain_change change) (plain_response response)
plain_action book (action.RunNow checked) = run_now checked
plain_action book (action.SendAsset job asset) = send_asset (text_at book job asset)
plain_action book (action.Estimate graphs) = estimate graphs.items

-- its status has a standard phrase, with which its first line is written
abbrev pub HasPhrase : Response → Type 0
HasPhrase response = IsSome (reason_phrase response.status)

-- a change of a book is what a command of a user makes at a moment
pub record MakesChange (book : PlainBook) (now : ℤ) (made : PlainChange) : Type 0 where
  pub user : List ℕ
  pub asked : PlainCommand
  pub made_is : changed book made ≡ verdicts.next book user asked now

-- An action may be done, for a request that asks for the rows of the collections or not: replies have a phrase, what is
-- committed leaves a valid book and is what a command makes, a graph to be run was checked over the rows, for a request
-- that asks for them, and an asset is there.
abbrev pub MayBeDone : PlainScene → Bool → Action → Type 0
MayBeDone s asks (action.Answer response) = HasPhrase response
MayBeDone s asks (action.Commit change response) =
    HasPhrase response × IsBook (changed s.book (plain_change change))
    × MakesChange s.book s.moment (plain_change change)
MayBeDone s asks (action.RunNow checked) = (asks ≡ true) × (checked.rows ≡ s.rows)
MayBeDone s asks (action.SendAsset job asset) = IsSome (text_at s.book job asset)
MayBeDone s asks (action.Estimate graphs) = ⊤
