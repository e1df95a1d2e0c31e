-- How one connection is served.
use Rattle.std.specs.Prelude.{◌≡◌, ◌≢◌, ℕ, ◌+◌, ℤ, Bool, true, false, List, Option, IfSome, IsSome, ⊤}
use Rattle.oe_steps.specs.Collections.{AreRead}
use Rattle.oe_engine.specs.Laws.{IsCheckedOver}
use Rattle.oe_engine.specs.Runs.{RunOf}
use Rattle.oe_engine.specs.Results.{IsVisible}
use Rattle.http.specs.StatusCode.{reason_phrase}
use Rattle.oe_jobs.specs.Changes.{changed}
use Rattle.oe_jobs.specs.Kept.{Kept}
use Rattle.oe_jobs.specs.Plain.{PlainBook, PlainChange, plain_book, plain_change}
use Rattle.oe_jobs.specs.Valid.{IsBook}
use Rattle.oe_outside.specs.Faults.{NeverFalls}
use Rattle.oe_outside.specs.Input.{TakesAtMost}
use Rattle.oe_http.specs.Front.{most_head}
use Rattle.oe_http.specs.Replies.{PlainResponse}
use Rattle.oe_http.specs.Requests.{most_body}
use Rattle.oe_routes.specs.Actions.{PlainAction, commit, plain_action, run_now, text_at}
use Rattle.oe_routes.specs.declared.action.Action.{Action}
use Rattle.oe_routes.specs.declared.action.Action.TheVariants as actions
use Rattle.oe_routes.specs.Scenes.{PlainScene}
use Rattle.oe_routes.specs.Tokens.{Entry}
use Rattle.oe_routes.specs.declared.site.Site.{Site}
use Rattle.oe_service.specs.Calls.{GoesByEvent, IsDecided, IsKept}
use Rattle.oe_service.specs.Causes.{Outside, outside, outside_of}
use Rattle.oe_service.specs.GoesOn.{GoesOn, HasSizesOf, IsService, state_of}
use Rattle.oe_service.specs.States.{Event, Setting, State, no_command, setting_of}
use Rattle.oe_service.specs.declared.service.Service.{Service}
use Rattle.oe_check.specs.Checked.{CheckedGraph}
use Rattle.oe_sources.specs.Catalogue.{Row}
use Rattle.oe_sources.specs.CatalogueDims.{dims_of}
use Rattle.oe_window.specs.declared.grid.ChunkSize.{ChunkSize}
use Rattle.oe_serve.specs.Answers.{Answer, ChangesNothing, IsAnswer, IsAnswerTo, IsEventOf, SendsAnswer, is_event}
use Rattle.oe_serve.specs.Links.{Came, IsCame, IsSilent, LinkOf, broken, link_of, request, unread}
use Rattle.oe_serve.specs.declared.served.Served.{Served}
use Rattle.oe_serve.specs.declared.served.Served.TheVariants.{Answered}

-- what a server goes by that stays as it is: the base of its addresses, its users with their tokens, the sides of its
-- chunks and its workers
pub record ServerOf : Type 0 where
  pub base : List ℕ
  pub tokens : List Entry
  pub size : ChunkSize
  pub workers : ℕ

abbrev pub server_of : Site → ChunkSize → ℕ → ServerOf
server_of site size workers = record {
  base = site.base;
  tokens = site.tokens;
  size = size;
  workers = workers;
}

-- with the sizes of a service
abbrev pub server_for : Site → Service → ServerOf
server_for site s = server_of site s.size s.workers

-- what its events go by, over collections of these rows
abbrev pub setting_for : List Row → Service → Setting
setting_for rows s = setting_of (dims_of rows) s.size s.workers

-- what a request is about at a moment, over the collections and the book as they are
abbrev pub scene_at : ServerOf → Outside → PlainBook → ℤ → PlainScene
scene_at server before book now = record {
  base = server.base;
  tokens = server.tokens;
  rows = dims_of before.rows;
  book = book;
  moment = now;
}

-- a request was read from a connection, or was to be: nothing is written, and no more is taken than a head and a body
-- may have
pub record ReadsRequest (link link_after : LinkOf) : Type 0 where
  pub taken : TakesAtMost link.left (most_head + most_body) link_after.left
  pub written : link_after.written ≡ link.written
  pub count : NeverFalls link.faults link_after.faults

module _ (server : ServerOf) (now : ℤ) (s s_after : State) (before after : Outside) (link link_after : LinkOf)
    (has_failed : Bool) where
  -- What came was read, and then it is answered.
  pub record IsAnswered (came : Came) (e : Event) (comes : Bool) (result : Served) : Type 0 where
    pub between : LinkOf
    pub reads : ReadsRequest link between
    pub answer : Answer
    pub is_answer : IsAnswer server.size server.workers s.book before after has_failed
        (scene_at server before s.book now) came answer
    pub sends : SendsAnswer before after answer between link_after result
    pub event_is : IsEventOf s.book now answer e
    pub comes_is : comes ≡ is_event answer

  -- nothing can be answered over a connection that failed
  pub record IsUnanswered (e : Event) (comes : Bool) (result : Served) : Type 0 where
    pub reads : ReadsRequest link link_after
    pub silent : IsSilent link link_after result
    pub event_is : e ≡ no_command
    pub comes_is : comes ≡ false

  abbrev pub Ends : Came → Event → Bool → Served → Type 0
  Ends (request r) e comes result = IsAnswered (request r) e comes result
  Ends (unread refusal) e comes result = IsAnswered (unread refusal) e comes result
  Ends broken e comes result = IsUnanswered e comes result

  -- A connection is served at a moment, as this event, or as none where it does not come about. At most one commit is
  -- begun, and it makes the book of the event. So where no fault counter rose, and the bytes are visible, the whole
  -- reply stands on the connection that the definitions give, or that of a result's damaged position, or of out of
  -- memory.
  pub record Serves (e : Event) (comes : Bool) (result : Served) : Type 0 where
    pub came : Came
    pub came_is : IsCame link.left came
    pub ends : Ends came e comes result
    pub goes : GoesByEvent (setting_of (dims_of before.rows) server.size server.workers) e comes s s_after before.kept
        after.kept
    pub kept : IsKept after.kept s_after.book
    -- where no change was to be made no commit is begun
    pub idle : e ≡ no_command → after.kept ≡ before.kept
    -- what is answered with any other status than these has come about, so that the book that it makes is kept
    pub acknowledged : (status : ℕ) → result ≡ Answered status → status ≢ 500 → status ≢ 503 → comes ≡ true
    pub link_count : NeverFalls link.faults link_after.faults
    pub spool_count : NeverFalls before.spool_faults after.spool_faults
    pub keeper_count : NeverFalls before.keeper_faults after.keeper_faults

-- What a call leaves of a service, whatever it answers: its book is kept, and its run goes on where its job does. Of
-- the outside only reads are made and records are written, and what is visible stays visible.
pub record KeepsService (s s_after : Service) (before after : Outside) : Type 0 where
  pub service : IsService s_after
  pub sizes : HasSizesOf s s_after
  pub is_kept : IsKept after.kept (plain_book s_after.book)
  pub run : IfSome s_after.run (λ (r : RunOf). s_after.run ≡ s.run)
  pub going : GoesOn s_after.run after.rows after.spool
  pub read : AreRead before.rows after.rows
  pub visible : IsVisible before.spool → IsVisible after.spool
  pub spool_count : NeverFalls before.spool_faults after.spool_faults
  pub keeper_count : NeverFalls before.keeper_faults after.keeper_faults

-- what is to be done can be done: replies have a phrase, a change is that of a command and keeps the book valid, a
-- graph was checked over these collections, and an asset is there
abbrev pub MayAct : PlainBook → List Row → Action → Type 0
MayAct book rows (actions.Answer response) = IsSome (reason_phrase response.status)
MayAct book rows (actions.Commit made response) =
    IsSome (reason_phrase response.status) × IsBook (changed book (plain_change made))
    × IsDecided book (changed book (plain_change made))
MayAct book rows (actions.RunNow checked) = IsCheckedOver rows checked
MayAct book rows (actions.SendAsset job asset) = IsSome (text_at book job asset)
MayAct book rows (actions.Estimate graphs) = ⊤

-- A service does what is asked for and answers it, as the event of the answer, or as none.
pub record Acts (action : PlainAction) (s s_after : Service) (before after : Outside)
    (link link_after : LinkOf) (has_failed : Bool) (result : Served) : Type 0 where
  pub answer : Answer
  pub is_answer : IsAnswerTo s.size s.workers (plain_book s.book) before after has_failed action answer
  pub sends : SendsAnswer before after answer link link_after result
  pub goes : (now : ℤ) (e : Event) → IsEventOf (plain_book s.book) now answer e
      → GoesByEvent (setting_of (dims_of before.rows) s.size s.workers) e (is_event answer) (state_of s) (state_of s_after)
      before.kept after.kept
  pub idle : ChangesNothing answer → after.kept ≡ before.kept
  pub keeps : KeepsService s s_after before after

-- The same of a service over a connection, at a moment.
pub record ServesService (server : ServerOf) (now : ℤ) (s s_after : Service) (before after : Outside)
    (link link_after : LinkOf) (has_failed : Bool) (result : Served) : Type 0 where
  pub event : Event
  pub comes : Bool
  pub serves : Serves server now (state_of s) (state_of s_after) before after link link_after has_failed event comes
      result
  pub keeps : KeepsService s s_after before after

-- ---- of the objects that a call is lent

-- of a connection of type L, a spool of type P and a keeper of type K
module _ {L P K : Type 0} (left written : L → Option (List ℕ)) (link_faults : L → ℕ) (bytes : P → Option (List ℕ))
    (faults : P → ℕ) (kept : K → Option Kept) (keeper_faults : K → ℕ) (has_failed : K → Bool) where
  -- what is asked for is done and answered
  abbrev pub ActsOver : Action → Service → Service → List Row → P → K → L → List Row → P → K → L → Served → Type 0
  ActsOver action s s_after rows spool keeper link rows_after spool_after keeper_after link_after result =
      Acts (plain_action (plain_book s.book) action) s s_after
      (outside_of bytes faults kept keeper_faults rows spool keeper)
      (outside_of bytes faults kept keeper_faults rows_after spool_after keeper_after)
      (link_of left written link_faults link) (link_of left written link_faults link_after) (has_failed keeper_after)
      result

  -- a connection is served at a moment
  abbrev pub ServesOver : Site → ℤ → Service → Service → List Row → P → K → L → List Row → P → K → L → Served → Type 0
  ServesOver site now s s_after rows spool keeper link rows_after spool_after keeper_after link_after result =
      ServesService (server_for site s) now s s_after
      (outside_of bytes faults kept keeper_faults rows spool keeper)
      (outside_of bytes faults kept keeper_faults rows_after spool_after keeper_after)
      (link_of left written link_faults link) (link_of left written link_faults link_after) (has_failed keeper_after)
      result

-- of a connection and a keeper, whatever collections and spool the run goes on over
module _ {L K : Type 0} (left written : L → Option (List ℕ)) (link_faults : L → ℕ) (kept : K → Option Kept)
    (keeper_faults : K → ℕ) (has_failed : K → Bool) where
  -- a change is committed and made, and then answered
  abbrev pub CommitsOver : PlainChange → PlainResponse → Service → Service → K → L → K → L → Served → Type 0
  CommitsOver change response s s_after keeper link keeper_after link_after result =
      (rows : List Row) (store : Option (List ℕ)) (faults : ℕ) → GoesOn s.run rows store
      → Acts (commit change response) s s_after (outside rows store faults (kept keeper) (keeper_faults keeper))
      (outside rows store faults (kept keeper_after) (keeper_faults keeper_after))
      (link_of left written link_faults link) (link_of left written link_faults link_after) (has_failed keeper_after)
      result

-- of a connection and a spool, whatever the keeper is that has the book
module _ {L P : Type 0} (left written : L → Option (List ℕ)) (link_faults : L → ℕ) (bytes : P → Option (List ℕ))
    (faults : P → ℕ) where
  -- a graph is run at once and answered; the service stays as it is
  abbrev pub RunsOver : CheckedGraph → Service → List Row → P → L → List Row → P → L → Served → Type 0
  RunsOver checked s rows spool link rows_after spool_after link_after result =
      (kept : Option Kept) (keeper_faults : ℕ) (has_failed : Bool) → IsKept kept (plain_book s.book)
      → Acts (run_now checked) s s (outside rows (bytes spool) (faults spool) kept keeper_faults)
      (outside rows_after (bytes spool_after) (faults spool_after) kept keeper_faults)
      (link_of left written link_faults link) (link_of left written link_faults link_after) has_failed result
