-- The run of an asset: where it begins, and what a round and its text make of it.
use Rattle.std.proofs.Common.{◌≡◌, ◌<◌, ◌≤◌, ℕ, List, length, Option, Some, None, Result, Err, refl, sym, ap, ◌∙◌, subst}
use Rattle.oe_dims.specs.declared.dims.DimsRow.{DimsRow}
use Rattle.oe_engine.specs.Going.{IsGoing}
use Rattle.oe_engine.specs.Laws.{GivesCollections}
use Rattle.oe_engine.specs.Rounds.{Advances, HasCauses, ReadsChunks, WritesChunks}
use Rattle.oe_engine.specs.Runs.{RunOf, chunk_total}
use Rattle.oe_engine.specs.declared.run.Progress.{Progress}
use Rattle.oe_engine.specs.Evaluations.{IsPlanOf}
use Rattle.oe_steps.specs.declared.fail.RunFail.{RunFail}
use Rattle.oe_steps.specs.declared.fail.RunFail.TheVariants as run
use Rattle.oe_engine.proofs.GoingLemmas.{runs_go_on, runs_stay_apart}
use Rattle.oe_engine.proofs.LawLemmas.{are_mounted}
use Rattle.oe_graph.specs.Read.{IsFaultless}
use Rattle.oe_jobs.specs.Plain.{PlainJob, PlainRan}
use Rattle.oe_plan.specs.Plans.{IsPlan, PlanOf}
use Rattle.oe_plan.specs.Figures.{bound_of, chunks_of, most_held_cells}
use Rattle.oe_plan.specs.declared.plan.PlanFail.{PlanFail}
use Rattle.oe_plan.specs.declared.plan.PlanFail.TheVariants as plan
use Rattle.oe_check.specs.Checked.{CheckedGraph}
use Rattle.oe_sources.specs.Catalogue.{Row}
use Rattle.oe_sources.specs.CatalogueDims.{AreDimsOf, dims_of}
use Rattle.oe_window.specs.declared.grid.ChunkSize.{ChunkSize}
use Rattle.oe_service.specs.Causes.{IsPlannable, JudgeRefused, PlanRefused, RoundRefused, Stands}
use Rattle.oe_service.specs.GoesOn.{IsRunOf, MissesAsset, StaysWithin}
use Rattle.oe_service.specs.Refusals.{of_plan, of_round}
use Rattle.oe_service.specs.Runs.{asset_chunks, asset_graph, ids_of_ran, ran_of}
use Rattle.oe_service.specs.States.{count_assets}
use Rattle.oe_service.specs.declared.refusal.RunRefusal.{RunRefusal}
use Rattle.oe_service.specs.declared.refusal.RunRefusal.TheVariants.{Graph, PlanTooLarge, ReadFault, SourceDamaged, SpoolFault, SpoolDamaged, NumberOverflow, AssetTooLarge, OutOfMemory}

-- ---- before its first round

abbrev first : PlanOf → RunOf
first p = record { plan = p; base = 0; done = 0; evaluations = 0; over = None }

module _ (dims : List DimsRow) (job : PlainJob) (size : ChunkSize) (workers : ℕ) where
  abbrev graph : CheckedGraph
  graph = asset_graph dims (ran_of job) (count_assets job)

  module _ (p : PlanOf) (graph_is : p.graph ≡ graph) (is : IsPlan p) (size_is : p.size ≡ size) (workers_are : p.workers ≡ workers) where
    rows_are : p.graph.rows ≡ dims
    rows_are = ap (λ (c : CheckedGraph). c.rows) graph_is

    pub first_run : MissesAsset job → (r : RunOf) → r ≡ first p → IsRunOf size workers job r
    first_run missing r r_is = rw r_is (record {
      plan = record {
        graph_is = graph_is ∙ ap (λ d. asset_graph d (ran_of job) (count_assets job)) (sym rows_are);
        planned = is;
        size_is = size_is;
        workers_are = workers_are;
      };
      base = refl;
      missing = missing;
    })

    pub first_going : (rows : List Row) → dims ≡ dims_of rows → GivesCollections rows → AreDimsOf rows (dims_of rows)
        → (r : RunOf) → r ≡ first p → (store : Option (List ℕ)) → IsGoing r rows store
    first_going rows dims_are given found r r_is store =
        let shown : p.graph.rows ≡ dims_of rows = rows_are ∙ dims_are in
        rw r_is (runs_go_on.begun (first p) rows store is refl refl shown given
        (are_mounted p rows is (subst (AreDimsOf rows) (sym shown) found)))

    pub plannable : IsFaultless (Stands dims (ran_of job) (count_assets job))
        → IsPlannable dims (ran_of job) (count_assets job) size workers
    plannable none = record {
      faultless = none;
      within = subst (λ c. bound_of c size workers ≤ most_held_cells) graph_is
          (subst (λ n. bound_of p.graph size n ≤ most_held_cells) workers_are
          (subst (λ z. bound_of p.graph z p.workers ≤ most_held_cells) size_is is.bounded));
    }

  -- ---- why it does not begin

  abbrev Refused : RunRefusal → Type 0
  Refused = PlanRefused dims (ran_of job) (count_assets job) size workers

  pub judge_refused : (reason : RunRefusal) → JudgeRefused dims (ran_of job) (count_assets job) reason → Refused reason
  judge_refused (Graph code) cause = cause
  judge_refused PlanTooLarge cause = absurd cause
  judge_refused ReadFault cause = absurd cause
  judge_refused SourceDamaged cause = absurd cause
  judge_refused SpoolFault cause = absurd cause
  judge_refused SpoolDamaged cause = absurd cause
  judge_refused NumberOverflow cause = absurd cause
  judge_refused AssetTooLarge cause = absurd cause
  judge_refused OutOfMemory cause = tt

  pub plan_refused : (fail : PlanFail) → IsFaultless (Stands dims (ran_of job) (count_assets job))
      → ((cells : ℕ) → fail ≡ plan.TooLarge cells → (cells ≡ bound_of graph size workers) × (most_held_cells < cells))
      → Refused (of_plan fail)
  plan_refused (plan.TooLarge cells) none large =
      let both = large cells refl in
      record { faultless = none; over = subst (λ n. most_held_cells < n) both.0 both.1 }
  plan_refused plan.OutOfMemory none large = tt

-- ---- of the next asset of a job, by what it runs and how many assets it has

module _ (job : PlainJob) (ran : PlainRan) (k : ℕ) (ran_is : ran ≡ ran_of job) (k_is : k ≡ count_assets job) where
  pub of_next : (P : PlainRan → ℕ → Type 0) → P ran k → P (ran_of job) (count_assets job)
  of_next P is = subst (λ (n : ℕ). P (ran_of job) n) k_is (subst (λ (r : PlainRan). P r k) ran_is is)

  pub next_within : MissesAsset job → k < length (ids_of_ran ran)
  next_within missing =
      subst (λ (r : PlainRan). k < length (ids_of_ran r)) (sym ran_is)
      (subst (λ (n : ℕ). n < length (ids_of_ran (ran_of job))) (sym k_is) missing)

-- ---- a round

-- how many chunks its plan has
pub total_is : (rows : List Row) (size : ChunkSize) (workers : ℕ) (job : PlainJob) (r : RunOf) → IsRunOf size workers job r
    → r.plan.graph.rows ≡ dims_of rows
    → chunk_total r.plan ≡ asset_chunks (dims_of rows) size (ran_of job) (count_assets job)
total_is rows size workers job r is shown =
    ap (λ c. chunks_of c r.plan.size) (is.plan.graph_is ∙ ap (λ d. asset_graph d (ran_of job) (count_assets job)) shown)
    ∙ ap (chunks_of (asset_graph (dims_of rows) (ran_of job) (count_assets job))) is.plan.size_is

-- what a run makes is the graph of the asset
pub graph_is : (rows : List Row) (size : ChunkSize) (workers : ℕ) (job : PlainJob) (r : RunOf) → IsRunOf size workers job r
    → r.plan.graph.rows ≡ dims_of rows → r.plan.graph ≡ asset_graph (dims_of rows) (ran_of job) (count_assets job)
graph_is rows size workers job r is shown =
    is.plan.graph_is ∙ ap (λ d. asset_graph d (ran_of job) (count_assets job)) shown

module _ (r after : RunOf) (rows rows_after : List Row) (store store_after : Option (List ℕ)) (result : Result Progress RunFail)
    (advances : Advances r after result) (writes : WritesChunks r rows store after store_after)
    (reads : ReadsChunks r rows rows_after) where
  -- it makes the same asset
  pub round_run : (size : ChunkSize) (workers : ℕ) (job : PlainJob) → IsRunOf size workers job r → IsRunOf size workers job after
  round_run size workers job is = record {
    plan = subst (λ (p : PlanOf). IsPlanOf (asset_graph p.graph.rows (ran_of job) (count_assets job)) size workers p)
        (sym advances.plan) is.plan;
    base = advances.base ∙ is.base;
    missing = is.missing;
  }

  pub round_going : IsGoing r rows store → IsGoing after rows_after store_after
  round_going going = runs_go_on.round r after rows rows_after store store_after result going advances writes reads

  pub round_within : IsPlan r.plan → StaysWithin (Some r) rows rows_after store store_after
  round_within is =
      (reads.read, reads.asked, runs_stay_apart.round r after rows store store_after is writes)

-- why it is refused
pub round_refused : (c : CheckedGraph) (r : RunOf) (rows rows_after : List Row) (faults faults_after : ℕ) (fail : RunFail)
    → c ≡ r.plan.graph → HasCauses r rows rows_after faults faults_after (Err fail)
    → RoundRefused c rows rows_after faults faults_after (of_round fail)
round_refused c r rows rows_after faults faults_after run.SourceFailed is cause = rw is (cause.read_cause refl)
round_refused c r rows rows_after faults faults_after (run.SourceDamaged node number) is cause =
    record { node = node; number = number; keeps = rw is cause.says }
round_refused c r rows rows_after faults faults_after run.SpoolFailed is cause = cause.spool_cause.failed refl
round_refused c r rows rows_after faults faults_after (run.Overflow number) is cause = absurd cause.says
