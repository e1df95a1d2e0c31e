-- What the calls that do an operation promise.
use Rattle.std.specs.Prelude.{◌≡◌, ℕ, ◌<◌, List, Result}
use Rattle.std.specs.List.{AllByRecursion}
use Rattle.oe_graph.specs.Printed.{node_count}
use Rattle.oe_graph.specs.Read.{IsFaultless}
use Rattle.oe_graph.specs.Tree.{PlainGraph}
use Rattle.oe_http.specs.Plain.{PlainRequest}
use Rattle.oe_jobs.specs.Verdicts.{stored_of}
use Rattle.oe_judge.specs.Judged.{StandsWithCollections}
use Rattle.oe_routes.specs.Actions.{plain_action}
use Rattle.oe_routes.specs.Answers.{answer_of, done, perform}
use Rattle.oe_routes.specs.Asks.{asks_for_rows, needs_rows}
use Rattle.oe_routes.specs.Found.{Found, IsFoundFor}
use Rattle.oe_routes.specs.Rejections.{Settles}
use Rattle.oe_routes.specs.Scenes.{PlainScene}
use Rattle.oe_routes.specs.declared.action.Action.{Action}
use Rattle.oe_routes.specs.declared.refusal.Rejection.{Rejection}
use Rattle.oe_routes.specs.declared.table.Operation.{Operation}

-- A user's graph has no fault: nothing stands in it that it may be refused for.
abbrev pub IsSound : PlainScene → List ℕ → PlainGraph → Type 0
IsSound s user g = IsFaultless (StandsWithCollections s.rows (stored_of user s.book) g)

-- nodes of these indices are there
abbrev pub AreWithin : PlainGraph → List ℕ → Type 0
AreWithin g indices = AllByRecursion (λ index. index < node_count g.nodes) indices

-- What is done is what the definition says of the operation, whatever is found in bodies and, where it needs the rows
-- of the collections, over these.
abbrev pub Performs : PlainScene → List ℕ → PlainRequest → Operation → Result Action Rejection → Type 0
Performs s user r operation result =
    (f : Found) → IsFoundFor s.rows (needs_rows operation) f
    → Settles (plain_action s.book) result (perform s f user r operation)

-- The same of all that is done for a request: its path, its method and its user, and then the operation.
abbrev pub IsDoneFor : PlainScene → PlainRequest → Result Action Rejection → Type 0
IsDoneFor s r result =
    (f : Found) → IsFoundFor s.rows (asks_for_rows r) f → Settles (plain_action s.book) result (done s f r)

-- An action is the answer of a request, whatever is found so.
abbrev pub IsAnswerTo : PlainScene → PlainRequest → Action → Type 0
IsAnswerTo s r action =
    (f : Found) → IsFoundFor s.rows (asks_for_rows r) f → plain_action s.book action ≡ answer_of s f r
