-- What a request asks for, and what its answer does not depend on.
use Rattle.std.proofs.Common.{◌≡◌, ℕ, Bool, false, List, Option, Result, Ok, Err, refl, sym, ap, subst}
use Rattle.oe_dims.specs.declared.dims.DimsRow.{DimsRow}
use Rattle.oe_http.specs.Plain.{PlainRequest}
use Rattle.oe_replies.specs.declared.code.ReplyCode.{ReplyCode}
use Rattle.oe_routes.specs.Actions.{PlainAction, plain_action}
use Rattle.oe_routes.specs.Answers.{answered, done, perform, user_text}
use Rattle.oe_routes.specs.Asks.{asked_method, asks_for_rows, needs_rows, needs_rows_of}
use Rattle.oe_routes.specs.Found.{Found}
use Rattle.oe_routes.specs.Laws.{AnswersWithoutRows}
use Rattle.oe_routes.specs.Rejections.{Rejected, Settles, plainly, ◌>>=◌}
use Rattle.oe_routes.specs.Scenes.{PlainScene}
use Rattle.oe_routes.specs.Steps as steps
use Rattle.oe_routes.specs.Table.{Method}
use Rattle.oe_routes.specs.Tokens.{Entry}
use Rattle.oe_routes.specs.Users.{user_of}
use Rattle.oe_routes.specs.declared.action.Action.{Action}
use Rattle.oe_routes.specs.declared.refusal.Rejection.{Rejection}
use Rattle.oe_routes.specs.declared.table.Operation.{Operation}
use Rattle.oe_routes.specs.declared.table.Operation.TheVariants as ops

-- a request asks for the rows where the operation of its row of the table needs them
pub asks_is : (r : PlainRequest) (method : Method) → asked_method r ≡ Ok method
    → needs_rows method.operation ≡ asks_for_rows r
asks_is r method is =
    let of = λ (m : Result Method ReplyCode). needs_rows_of (steps.◌>>=◌ m (λ method. Ok method.operation)) in
    subst (λ (m : Result Method ReplyCode). needs_rows method.operation ≡ of m) (sym is) refl

-- what is done for its user
pub done_by : (s : PlainScene) (f : Found) (r : PlainRequest) (method : Method) (entries : List Entry)
    (value user : Option (List ℕ)) (text : List ℕ) (result : Result Action Rejection) → asked_method r ≡ Ok method
    → entries ≡ s.tokens → value ≡ r.authorization → user_of entries method.needs_user value ≡ Ok user
    → text ≡ user_text user → Settles (plain_action s.book) result (perform s f text r method.operation)
    → Settles (plain_action s.book) result (done s f r)
done_by s f r method entries value user text result asked tokens authorization found is h =
    let known : user_of s.tokens method.needs_user r.authorization ≡ Ok user =
    subst (λ (es : List Entry). user_of es method.needs_user r.authorization ≡ Ok user) tokens
    (subst (λ (v : Option (List ℕ)). user_of entries method.needs_user v ≡ Ok user) authorization found) in
    let performed : Settles (plain_action s.book) result (perform s f (user_text user) r method.operation) =
    subst (λ (t : List ℕ). Settles (plain_action s.book) result (perform s f t r method.operation)) is h in
    let next : Settles (plain_action s.book) result
    (plainly (user_of s.tokens method.needs_user r.authorization) >>= λ user. perform s f (user_text user) r method.operation) =
    subst (λ (u : Result (Option (List ℕ)) ReplyCode). Settles (plain_action s.book) result
    (plainly u >>= λ user. perform s f (user_text user) r method.operation)) (sym known) performed in
    subst (λ (m : Result Method ReplyCode). Settles (plain_action s.book) result
    (plainly m >>= λ method.
    plainly (user_of s.tokens method.needs_user r.authorization) >>= λ user.
    perform s f (user_text user) r method.operation)) (sym asked) next

-- ---- a request that does not ask for the rows

abbrev over : PlainScene → List DimsRow → PlainScene
over s rows = record s { rows = rows }

perform_alike : (s : PlainScene) (f : Found) (user : List ℕ) (r : PlainRequest) (a b : List DimsRow) (operation : Operation)
    → needs_rows operation ≡ false → perform (over s a) f user r operation ≡ perform (over s b) f user r operation
perform_alike s f user r a b ops.ShowCapabilities h = refl
perform_alike s f user r a b ops.ShowVersions h = refl
perform_alike s f user r a b ops.ListCollections h = absurd cc
perform_alike s f user r a b ops.ShowCollection h = absurd cc
perform_alike s f user r a b ops.ShowConformance h = refl
perform_alike s f user r a b ops.ListFileFormats h = refl
perform_alike s f user r a b ops.ListJobs h = refl
perform_alike s f user r a b ops.CreateJob h = refl
perform_alike s f user r a b ops.DeleteJob h = refl
perform_alike s f user r a b ops.ShowJob h = refl
perform_alike s f user r a b ops.PatchJob h = refl
perform_alike s f user r a b ops.EstimateJob h = absurd cc
perform_alike s f user r a b ops.ShowLogs h = refl
perform_alike s f user r a b ops.CancelJob h = refl
perform_alike s f user r a b ops.ShowResults h = refl
perform_alike s f user r a b ops.QueueJob h = absurd cc
perform_alike s f user r a b ops.SendAsset h = refl
perform_alike s f user r a b ops.ListStored h = refl
perform_alike s f user r a b ops.ForgetProcess h = refl
perform_alike s f user r a b ops.ShowStored h = refl
perform_alike s f user r a b ops.StoreProcess h = refl
perform_alike s f user r a b ops.ListProcesses h = refl
perform_alike s f user r a b ops.RunNow h = absurd cc
perform_alike s f user r a b ops.Validate h = absurd cc

by_user : (s : PlainScene) (f : Found) (r : PlainRequest) (a b : List DimsRow) (operation : Operation)
    (user : Result (Option (List ℕ)) ReplyCode) → needs_rows operation ≡ false
    → (plainly user >>= λ user. perform (over s a) f (user_text user) r operation)
    ≡ (plainly user >>= λ user. perform (over s b) f (user_text user) r operation)
by_user s f r a b operation (Ok user) h = perform_alike s f (user_text user) r a b operation h
by_user s f r a b operation (Err code) h = refl

by_method : (s : PlainScene) (f : Found) (r : PlainRequest) (a b : List DimsRow) (method : Result Method ReplyCode)
    → needs_rows_of (steps.◌>>=◌ method (λ method. Ok method.operation)) ≡ false
    → (plainly method >>= λ method.
    plainly (user_of s.tokens method.needs_user r.authorization) >>= λ user.
    perform (over s a) f (user_text user) r method.operation)
    ≡ (plainly method >>= λ method.
    plainly (user_of s.tokens method.needs_user r.authorization) >>= λ user.
    perform (over s b) f (user_text user) r method.operation)
by_method s f r a b (Ok method) h =
    by_user s f r a b method.operation (user_of s.tokens method.needs_user r.authorization) h
by_method s f r a b (Err code) h = refl

pub answers_without_rows : AnswersWithoutRows
answers_without_rows s f r a b h = ap answered (by_method s f r a b (asked_method r) h)
