-- The book that is opened, or not, before the first turn.
use Rattle.std.proofs.Common.{◌≡◌, ◌⊎◌, ℕ, ℤ, Bool, true, List, Option, Some, None, Result, Err, refl, sym, ap, ◌∙◌, subst, inl, inr}
use Rattle.std.specs.Option.{option_map}
use Rattle.std.specs.Prelude.{IfSome}
use Rattle.oe_engine.specs.Runs.{RunOf}
use Rattle.oe_jobs.specs.Kept.{Kept}
use Rattle.oe_jobs.specs.Plain.{plain_book}
use Rattle.oe_outside.proofs.Causes.{then-Rose}
use Rattle.oe_outside.specs.Faults.{HasCauseOf, NeverFalls}
use Rattle.oe_routes.specs.declared.site.Site.{Site}
use Rattle.oe_service.specs.Calls.{CommitsOne, IsKept}
use Rattle.oe_service.specs.Causes.{Outside, outside}
use Rattle.oe_service.specs.GoesOn.{IsFree, state_of}
use Rattle.oe_service.specs.States.{Setting, at_book, reopen, reopened, setting_of}
use Rattle.oe_service.specs.declared.open.OpenBookFail.{OpenBookFail}
use Rattle.oe_service.specs.declared.open.OpenBookFail.TheVariants as opening
use Rattle.oe_service.specs.declared.service.Service.{Service}
use Rattle.oe_sources.specs.Catalogue.{Row}
use Rattle.oe_sources.specs.CatalogueDims.{dims_of}
use Rattle.oe_window.specs.declared.grid.ChunkSize.{ChunkSize}
use Rattle.oe_serve.specs.Links.{LinkOf}
use Rattle.oe_serve.specs.Serves.{ServerOf, server_of}
use Rattle.oe_serve.specs.Server.{EndsWith, IsKeeperFault, IsMadeByOwn, KeeperFails, MakesTurns, Opens, ServerEnds, of_opening}
use Rattle.oe_serve.specs.Turns.{DoorOf, Situation, situation}
use Rattle.oe_serve.specs.declared.turns.ServeFail.{ServeFail}

module _ (rows : List Row) (store : Option (List ℕ)) (spool_faults : ℕ) (kept kept_after : Option Kept)
    (faults faults_after : ℕ) (hidden : kept ≡ None → kept_after ≡ None)
    (commits : IfSome kept (λ (k : Kept). CommitsOne kept (reopened k.book) kept_after)) (has_failed : Bool) where
  abbrev before : Outside
  before = outside rows store spool_faults kept faults

  abbrev after : Outside
  after = outside rows store spool_faults kept_after faults_after

  -- ---- it is not opened

  -- what was begun, if anything, was the commit of the reopening
  begun_by : (setting : Setting) (o p : Option Kept) → (o ≡ None → p ≡ None)
      → IfSome o (λ (k : Kept). CommitsOne o (reopened k.book) p) → IfSome o (λ (k : Kept). IsKept p k.book)
      → (p ≡ o) ⊎ IfSome p (λ (k : Kept). IsMadeByOwn setting k.book k.made)
  begun_by setting None p hidden commits same = inl (hidden refl)
  begun_by setting (Some k) None hidden commits same = absurd commits
  begun_by setting (Some k) (Some a) hidden (inl still) same = inl (ap Some still)
  begun_by setting (Some k) (Some a) hidden (inr one) same = inr (record {
    event = reopen;
    own = tt;
    done = None;
    made_is = one.makes ∙ ap reopened (sym same);
  })

  module _ (setting : Setting) (same : IfSome kept (λ (k : Kept). IsKept kept_after k.book)) {T : Type 0} (fail : OpenBookFail)
      (cause : HasCauseOf {T = T} opening.KeeperFailed faults faults_after (Err fail))
      (last : (fail ≡ opening.KeeperFailed) → has_failed ≡ true) where
    keeper_fails : fail ≡ opening.KeeperFailed → KeeperFails setting before after has_failed
    keeper_fails is = record {
      rose = cause.failed (ap Err is);
      last = last is;
      own = begun_by setting kept kept_after hidden commits same;
    }

  pub not_opened : {C : Type 0} (link : C → LinkOf) (server : ServerOf) (turns : ℕ) (door : DoorOf C) (moment : Option ℤ)
      (same : IfSome kept (λ (k : Kept). IsKept kept_after k.book)) {T : Type 0} (fail : OpenBookFail)
      → HasCauseOf {T = T} opening.KeeperFailed faults faults_after (Err fail)
      → (fail ≡ opening.KeeperFailed → has_failed ≡ true)
      → ServerEnds link server turns before after door door moment has_failed (Err (of_opening fail))
  not_opened link server turns door moment same opening.KeeperFailed cause last = inr (record {
    fails = keeper_fails (setting_of (dims_of rows) server.size server.workers) same opening.KeeperFailed cause last refl;
    kept = same;
    commits = commits;
    rows = refl;
    spool = refl;
    spool_count = refl;
    door_is = refl;
  })
  not_opened link server turns door moment same opening.OutOfMemory cause last = inr (record {
    fails = tt;
    kept = same;
    commits = commits;
    rows = refl;
    spool = refl;
    spool_count = refl;
    door_is = refl;
  })

  pub not_opened_keeper : (server : ServerOf) (same : IfSome kept (λ (k : Kept). IsKept kept_after k.book)) {T : Type 0}
      (fail : OpenBookFail) → HasCauseOf {T = T} opening.KeeperFailed faults faults_after (Err fail)
      → (fail ≡ opening.KeeperFailed → has_failed ≡ true)
      → IsKeeperFault server before after has_failed (Err (of_opening fail))
  not_opened_keeper server same opening.KeeperFailed cause last is =
      keeper_fails (setting_of (dims_of rows) server.size server.workers) same opening.KeeperFailed cause last refl
  not_opened_keeper server same opening.OutOfMemory cause last is =
      absurd cc

  -- ---- it is opened

  pub opened : (s : Service) → IfSome kept (λ (k : Kept). state_of s ≡ at_book (reopened k.book)) → IsFree s
      → IsKept kept_after (plain_book s.book) → NeverFalls faults faults_after
      → Opens before (situation (state_of s) after has_failed)
  opened s state_is free is_kept count = record {
    state_is = state_is;
    commits = commits;
    hidden = hidden;
    kept = is_kept;
    none_runs = free.running;
    none_done = ap (option_map (λ (r : RunOf). r.done)) free.run;
    rows = refl;
    spool = refl;
    spool_count = refl;
    keeper_count = count;
  }

-- ---- and then turns are made

-- by sizes that are equal
makes_by : {C : Type 0} (link : C → LinkOf) (site : Site) (rows : List Row) (size other : ChunkSize) (workers others : ℕ)
    → size ≡ other → workers ≡ others → (turns : ℕ) (moment : Option ℤ) (first last : Situation) (door door_after : DoorOf C)
    (result : Result (Unit {0}) ServeFail)
    → MakesTurns link (server_of site size workers) (setting_of (dims_of rows) size workers) turns moment first last door
    door_after result
    → MakesTurns link (server_of site other others) (setting_of (dims_of rows) other others) turns moment first last door
    door_after result
makes_by link site rows size other workers others size_is workers_are turns moment first last door door_after result makes =
    subst (λ (n : ℕ). MakesTurns link (server_of site other n) (setting_of (dims_of rows) other n) turns moment first last door door_after result)
    workers_are
    (subst (λ (z : ChunkSize). MakesTurns link (server_of site z workers) (setting_of (dims_of rows) z workers) turns moment first last door door_after result)
    size_is makes)

module _ {C : Type 0} (link : C → LinkOf) (site : Site) (size : ChunkSize) (workers turns : ℕ) (before between after : Outside)
    (door door_after : DoorOf C) (moment : Option ℤ) (failed has_failed : Bool)
    (s s_after : Service) (size_is : s.size ≡ size) (workers_are : s.workers ≡ workers)
    (opens : Opens before (situation (state_of s) between failed)) (result : Result (Unit {0}) ServeFail)
    (makes : MakesTurns link (server_of site s.size s.workers) (setting_of (dims_of before.rows) s.size s.workers) turns
    moment (situation (state_of s) between failed) (situation (state_of s_after) after has_failed) door door_after result) where
  made : MakesTurns link (server_of site size workers) (setting_of (dims_of before.rows) size workers) turns moment
      (situation (state_of s) between failed) (situation (state_of s_after) after has_failed) door door_after result
  made =
      makes_by link site before.rows s.size size s.workers workers size_is workers_are turns moment
      (situation (state_of s) between failed) (situation (state_of s_after) after has_failed) door door_after result makes

  pub turns_made : ServerEnds link (server_of site size workers) turns before after door door_after moment has_failed result
  turns_made = inl (record {
    first = situation (state_of s) between failed;
    last = state_of s_after;
    opens = opens;
    makes = made;
  })

  pub turns_keeper : IsKeeperFault (server_of site size workers) before after has_failed result
  turns_keeper is =
      let ends =
      subst (λ (x : Result (Unit {0}) ServeFail). EndsWith (setting_of (dims_of before.rows) size workers) turns (situation (state_of s) between failed) (situation (state_of s_after) after has_failed) door door_after made.turned.made x)
      is made.ends in
      record {
        rose = then-Rose opens.keeper_count ends.1.rose;
        last = ends.1.last;
        own = inr ends.1.own;
      }
