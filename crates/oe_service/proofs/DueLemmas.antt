-- The ticks of the job that runs, one by one.
use Rattle.std.proofs.Common.{◌≡◌, ◌<◌, ◌≤◌, ℕ, ℤ, Bool, true, false, List, [], Option, Some, None, Ok, Err, refl, ap, sym, ◌∙◌, subst, inl, inr, arith}
use Rattle.std.specs.Prelude.{◌↔◌, IfSome, IsTrue, length, nat_lt}
use Rattle.std.proofs.lemmas.Bool.{cases_Bool}
use Rattle.std.specs.Option.{option_map_or}
use Rattle.oe_engine.specs.Going.{IsGoing}
use Rattle.oe_engine.specs.Rounds.{Advances, HasCauses, ReadsChunks, WritesChunks}
use Rattle.oe_engine.specs.Runs.{RunOf, chunk_total}
use Rattle.oe_engine.specs.declared.run.Progress.{Progress}
use Rattle.oe_steps.specs.declared.fail.RunFail.{RunFail}
use Rattle.oe_engine.proofs.GoingLemmas.{runs_stay_apart}
use Rattle.oe_engine.proofs.LawLemmas.{stay_after_reads}
use Rattle.oe_jobs.specs.Events.{moved_book, running_job}
use Rattle.oe_jobs.specs.Kept.{Kept}
use Rattle.oe_jobs.specs.Machine as machine
use Rattle.oe_jobs.specs.Plain.{PlainBook, PlainJob, plain_book}
use Rattle.oe_outside.proofs.Causes.{NeverFalls-refl}
use Rattle.oe_outside.specs.Faults.{NeverFalls}
use Rattle.oe_sources.specs.Catalogue.{Row}
use Rattle.oe_sources.specs.CatalogueDims.{dims_of}
use Rattle.oe_service.specs.Calls.{IsKept}
use Rattle.oe_service.specs.Causes.{IsAssetText, IsPlannable, PlanRefused, TextRefused, outside}
use Rattle.oe_service.specs.GoesOn.{GoesOn, IsRunOf, IsService, MissesAsset, StaysWithin, ids_for, state, state_of}
use Rattle.oe_service.specs.Refusals.{code_of, of_round}
use Rattle.oe_service.specs.Runs.{asset_graph, ids_of_ran, name_at, ran_of}
use Rattle.oe_service.specs.States.{Due, Setting, asset_of, at_book, count_assets, due, due_of, finish, moved_running, next, plan, refusal, round, setting_of, store, tick, with_text}
use Rattle.oe_service.specs.Steps.{Steps, TicksService}
use Rattle.oe_service.specs.declared.answer.Ticked.{Ticked}
use Rattle.oe_service.specs.declared.answer.Ticked.TheVariants as ticked
use Rattle.oe_service.specs.declared.refusal.RunRefusal.{RunRefusal}
use Rattle.oe_service.specs.declared.service.Service.{Service}
use Rattle.oe_service.proofs.NextLemmas.{due_running, finish_due, less_is, less_not, plan_due, round_due, store_due, tick_is}
use Rattle.oe_service.proofs.RoundLemmas.{round_done, run_of, service_by_steps, service_moved, with_run}
use Rattle.oe_service.proofs.RunLemmas.{graph_is, round_going, round_refused, round_run, total_is}
use Rattle.oe_service.proofs.KeptLemmas.{going_none, going_some, going_stays, none_stays, within_none, within_some}
use Rattle.oe_service.proofs.TickLemmas.{running_busy}

-- the book with a text as the next asset of the job that runs
pub stored_by : (ids others : List (List ℕ)) (text : List ℕ) (now : ℤ) (setting : Setting) (book : PlainBook) (job : PlainJob)
    → running_job book ≡ Some job → others ≡ setting.ids (ran_of job) → ids ≡ others
    → moved_running book (machine.asset now (asset_of setting job (count_assets job) text)) ≡ with_text ids text now book
stored_by ids others text now setting book job e others_are ids_are =
    ap (λ (o : Option PlainJob). option_map_or (λ (j : PlainJob). moved_book book j.id (machine.asset now
    (asset_of setting job (count_assets job) text))) o book) e
    ∙ ap (λ names. moved_book book job.id (machine.asset now (record { name = name_at names (count_assets job); text = text })))
    (sym (ids_are ∙ others_are))
    ∙ sym (ap (λ (o : Option PlainJob). option_map_or (λ (j : PlainJob). moved_book book j.id (machine.asset now
    (record { name = name_at ids (count_assets j); text = text }))) o book) e)

-- no asset is missing where a test for one answers no
pub none_missing : (o : Option PlainJob) (job : PlainJob) → o ≡ Some job → (b : Bool) → b ≡ false
    → (IsTrue b ↔ IfSome o MissesAsset) → length (ids_of_ran (ran_of job)) ≤ count_assets job
none_missing o job e b no_ tells =
    elim (cases_Bool (nat_lt (count_assets job) (length (ids_of_ran (ran_of job))))) [
      | inl t ↦
          let misses : MissesAsset job = less_is (count_assets job) (length (ids_of_ran (ran_of job))) t in
          let yes : IsTrue b = tells.1 (rw e misses) in
          let clash : false ≡ true = sym no_ ∙ yes in
          absurd cc
      | inr f ↦ less_not (count_assets job) (length (ids_of_ran (ran_of job))) f
    ]

module _ (s t : Service) (is : IsService s) (job : PlainJob) (e : running_job (plain_book s.book) ≡ Some job) (now : ℤ)
    (has_failed : Bool) where
  -- ---- no run is under way

  module _ (none : s.run ≡ None) (rows : List Row) (bytes : Option (List ℕ)) (faults : ℕ) (kept : Option Kept) (count : ℕ) where
    abbrev over : Setting
    over = setting_of (dims_of rows) s.size s.workers

    no_done : (state_of s).done ≡ None
    no_done = ap (λ o. (state (plain_book s.book) o).done) none

    due_by : (d : Due) → due_of over job None ≡ d → due over (state_of s) ≡ d
    due_by d is = due_running over (state_of s) job e ∙ ap (due_of over job) no_done ∙ is

    -- the asset is planned
    pub planned : MissesAsset job → (r : RunOf) → t.run ≡ Some r → plain_book t.book ≡ plain_book s.book → t.size ≡ s.size
        → t.workers ≡ s.workers → t.ids.items ≡ s.ids.items → IsRunOf s.size s.workers job r → r.done ≡ 0 → IsGoing r rows bytes
        → IsPlannable (dims_of rows) (ran_of job) (count_assets job) s.size s.workers → IsKept kept (plain_book s.book)
        → TicksService (outside rows bytes faults kept count) (outside rows bytes faults kept count) now s t has_failed ticked.Moved
    planned misses r run same size workers ids run_is zero going plannable is_kept =
        let due_is = due_by (plan job (count_assets job)) (plan_due over job misses) in
        service_moved (outside rows bytes faults kept count) (outside rows bytes faults kept count) now s t has_failed ticked.Moved
        (tick now []) refl refl (with_run s t is same size workers ids job e r run run_is)
        (record { size = size; workers = workers }) (subst (IsKept kept) (sym same) is_kept)
        (going_some t.run r run rows bytes going) (within_none s.run none rows bytes) (plan job (count_assets job)) due_is (refl, plannable)
        (ap (state (plain_book t.book)) run ∙ ap (λ b. state b (Some r)) same
        ∙ ap (λ n. record { book = plain_book s.book; done = Some n }) zero
        ∙ sym (tick_is over now [] (state_of s) (plan job (count_assets job)) due_is))
        (running_busy (plain_book s.book) job e) (NeverFalls-refl faults)

    module _ (kept_after : Option Kept) (count_after : ℕ) (result : Ticked) where
      -- its plan is refused
      pub plan_refused : MissesAsset job → (reason : RunRefusal)
          → PlanRefused (dims_of rows) (ran_of job) (count_assets job) s.size s.workers reason
          → Steps (moved_running (plain_book s.book) (machine.fail now (code_of reason))) s t kept kept_after count count_after
          has_failed result
          → TicksService (outside rows bytes faults kept count) (outside rows bytes faults kept_after count_after) now s t has_failed
          result
      plan_refused misses reason cause steps =
          let due_is = due_by (plan job (count_assets job)) (plan_due over job misses) in
          service_by_steps (outside rows bytes faults kept count) (outside rows bytes faults kept_after count_after) now s t has_failed
          result (refusal now reason) s refl refl refl _ steps
          (going_none t.run (none_stays t.run s.run none steps.run) rows bytes) (within_none s.run none rows bytes)
          (plan job (count_assets job)) due_is (refl, cause) refl (running_busy (plain_book s.book) job e) tt
          (NeverFalls-refl faults)

      -- no asset is missing
      pub finished : length (ids_of_ran (ran_of job)) ≤ count_assets job
          → Steps (moved_running (plain_book s.book) (machine.finish now)) s t kept kept_after count count_after has_failed result
          → TicksService (outside rows bytes faults kept count) (outside rows bytes faults kept_after count_after) now s t has_failed
          result
      finished whole steps =
          let due_is = due_by (finish job) (finish_due over job whole) in
          service_by_steps (outside rows bytes faults kept count) (outside rows bytes faults kept_after count_after) now s t has_failed
          result (tick now []) s refl refl refl _ steps
          (going_none t.run (none_stays t.run s.run none steps.run) rows bytes) (within_none s.run none rows bytes)
          (finish job) due_is (refl, tt) (tick_is over now [] (state_of s) (finish job) due_is)
          (running_busy (plain_book s.book) job e) tt (NeverFalls-refl faults)

  -- ---- one is

  module _ (r : RunOf) (run : s.run ≡ Some r) (rows : List Row) (bytes : Option (List ℕ)) (going : IsGoing r rows bytes)
      (faults : ℕ) (kept : Option Kept) (count : ℕ) where
    abbrev setting : Setting
    setting = setting_of (dims_of rows) s.size s.workers

    fits : IsRunOf s.size s.workers job r
    fits = run_of s is job e r run

    done_is : (state_of s).done ≡ Some r.done
    done_is = ap (λ o. (state (plain_book s.book) o).done) run

    due_at : (d : Due) → due_of setting job (Some r.done) ≡ d → due setting (state_of s) ≡ d
    due_at d is = due_running setting (state_of s) job e ∙ ap (due_of setting job) done_is ∙ is

    total : chunk_total r.plan ≡ setting.chunks (ran_of job) (count_assets job)
    total = total_is rows s.size s.workers job r fits going.rows_are

    -- a round
    module _ (left : r.done < chunk_total r.plan) (after : RunOf) (rows_after : List Row) (bytes_after : Option (List ℕ))
        (reads : ReadsChunks r rows rows_after) (writes : WritesChunks r rows bytes after bytes_after) (faults_after : ℕ) where
      round_is : due setting (state_of s) ≡ round job (count_assets job) r.done
      round_is =
          due_at (round job (count_assets job) r.done)
          (round_due setting job r.done (subst (λ n. r.done < n) total left))

      within : StaysWithin s.run rows rows_after bytes bytes_after
      within =
          within_some s.run r run rows rows_after bytes bytes_after (reads.read, reads.asked, runs_stay_apart.round r after rows bytes bytes_after going.planned writes)

      pub round_moved : (progress : Progress) → Advances r after (Ok progress) → t.run ≡ Some after
          → plain_book t.book ≡ plain_book s.book → t.size ≡ s.size → t.workers ≡ s.workers → t.ids.items ≡ s.ids.items
          → IsKept kept (plain_book s.book) → NeverFalls faults faults_after
          → TicksService (outside rows bytes faults kept count) (outside rows_after bytes_after faults_after kept count) now s t
          has_failed ticked.Moved
      round_moved progress advances run_after same size workers ids is_kept counts =
          service_moved (outside rows bytes faults kept count) (outside rows_after bytes_after faults_after kept count) now s t
          has_failed ticked.Moved (tick now []) refl refl
          (with_run s t is same size workers ids job e after run_after
          (round_run r after rows rows_after bytes bytes_after (Ok progress) advances writes reads s.size s.workers job fits))
          (record { size = size; workers = workers }) (subst (IsKept kept) (sym same) is_kept)
          (going_some t.run after run_after rows_after bytes_after
          (round_going r after rows rows_after bytes bytes_after (Ok progress) advances writes reads going)) within
          (round job (count_assets job) r.done) round_is (refl, tt)
          (ap (state (plain_book t.book)) run_after ∙ ap (λ b. state b (Some after)) same
          ∙ ap (λ n. record { book = plain_book s.book; done = Some n })
          (round_done setting job r after progress fits.plan.workers_are total left advances)
          ∙ sym (tick_is setting now [] (state_of s) (round job (count_assets job) r.done) round_is))
          (running_busy (plain_book s.book) job e) counts

      -- it is refused
      pub round_failed : (fail : RunFail) → Advances r after (Err fail) → HasCauses r rows rows_after faults faults_after (Err fail)
          → (from : Service) → from.run ≡ Some after → plain_book from.book ≡ plain_book s.book → from.size ≡ s.size
          → from.workers ≡ s.workers → (kept_after : Option Kept) (count_after : ℕ) (result : Ticked)
          → Steps (moved_running (plain_book s.book) (machine.fail now (code_of (of_round fail)))) from t kept kept_after count
          count_after has_failed result
          → TicksService (outside rows bytes faults kept count) (outside rows_after bytes_after faults_after kept_after count_after)
          now s t has_failed result
      round_failed fail advances causes from run_after same size workers kept_after count_after result steps =
          service_by_steps (outside rows bytes faults kept count)
          (outside rows_after bytes_after faults_after kept_after count_after) now s t has_failed result
          (refusal now (of_round fail)) from state_is size workers _ steps
          (going_stays t.run from.run steps.run rows_after bytes_after
          (going_some from.run after run_after rows_after bytes_after
          (round_going r after rows rows_after bytes bytes_after (Err fail) advances writes reads going))) within
          (round job (count_assets job) r.done) round_is (
            refl,
            round_refused (asset_graph (dims_of rows) (ran_of job) (count_assets job)) r rows rows_after faults
                faults_after fail (sym (graph_is rows s.size s.workers job r fits going.rows_are)) causes,
          ) refl
          (running_busy (plain_book s.book) job e) tt causes.spool_cause.count
        where
          state_is : state_of from ≡ state_of s
          state_is =
              ap (state (plain_book from.book)) run_after ∙ ap (λ b. state b (Some after)) same
              ∙ ap (λ n. record { book = plain_book s.book; done = Some n }) advances.stands.0
              ∙ sym (ap (state (plain_book s.book)) run)

    -- its text
    module _ (complete : r.done ≡ chunk_total r.plan) (faults_after : ℕ) (kept_after : Option Kept) (count_after : ℕ)
        (result : Ticked) (counts : NeverFalls faults faults_after) where
      store_is : due setting (state_of s) ≡ store job (count_assets job)
      store_is =
          due_at (store job (count_assets job)) (store_due setting job r.done (omega (arith, sym total ∙ sym complete)))

      graph : asset_graph (dims_of rows) (ran_of job) (count_assets job) ≡ r.plan.graph
      graph = sym (graph_is rows s.size s.workers job r fits going.rows_are)

      within_text : StaysWithin s.run rows rows bytes bytes
      within_text = within_some s.run r run rows rows bytes bytes (stay_after_reads.none rows, omega arith, runs_stay_apart.none r bytes)

      goes_on : GoesOn s.run rows bytes
      goes_on = going_some s.run r run rows bytes going

      pub text_failed : (reason : RunRefusal) → TextRefused r.plan.graph rows bytes faults faults_after reason
          → Steps (moved_running (plain_book s.book) (machine.fail now (code_of reason))) s t kept kept_after count count_after
          has_failed result
          → TicksService (outside rows bytes faults kept count) (outside rows bytes faults_after kept_after count_after) now s t
          has_failed result
      text_failed reason cause steps =
          service_by_steps (outside rows bytes faults kept count) (outside rows bytes faults_after kept_after count_after) now s t
          has_failed result (refusal now reason) s refl refl refl _ steps
          (going_stays t.run s.run steps.run rows bytes goes_on) within_text
          (store job (count_assets job)) store_is
          (refl, subst (λ c. TextRefused c rows bytes faults faults_after reason) (sym graph) cause) refl
          (running_busy (plain_book s.book) job e) tt counts

      pub text_stored : (text : List ℕ) → IsAssetText r.plan.graph rows bytes text
          → Steps (with_text s.ids.items text now (plain_book s.book)) s t kept kept_after count count_after has_failed result
          → TicksService (outside rows bytes faults kept count) (outside rows bytes faults_after kept_after count_after) now s t
          has_failed result
      text_stored text of_text steps =
          service_by_steps (outside rows bytes faults kept count) (outside rows bytes faults_after kept_after count_after) now s t
          has_failed result (tick now text) s refl refl refl _ steps
          (going_stays t.run s.run steps.run rows bytes goes_on) within_text
          (store job (count_assets job)) store_is (refl, subst (λ c. IsAssetText c rows bytes text) (sym graph) of_text)
          next_is (running_busy (plain_book s.book) job e) tt counts
        where
          ids : s.ids.items ≡ ids_of_ran (ran_of job)
          ids = is.ids ∙ ap ids_for e

          next_is : next setting (tick now text) (state_of s) ≡ at_book (with_text s.ids.items text now (plain_book s.book))
          next_is =
              tick_is setting now text (state_of s) (store job (count_assets job)) store_is
              ∙ ap at_book (stored_by s.ids.items (ids_of_ran (ran_of job)) text now setting (plain_book s.book) job e refl ids)
