-- A graph that is run at once, as what a service does.
use Rattle.std.proofs.Common.{◌≡◌, ℕ, Bool, true, false, List, Option, Some, None, IfSome, if◌then◌else◌, [], decimal, inl, inr, refl, sym, ap, ◌∙◌, subst, arith}
use Rattle.oe_steps.specs.Collections.{AreRead}
use Rattle.oe_engine.specs.Going.{ChangesOwnRecords, IsGoing, StandsBehind}
use Rattle.oe_engine.specs.Laws.{IsCheckedOver}
use Rattle.oe_engine.specs.Runs.{RunOf}
use Rattle.oe_engine.specs.Results.{IsVisible}
use Rattle.oe_engine.proofs.GoingLemmas.{runs_go_on, runs_stay_apart}
use Rattle.oe_engine.proofs.LawLemmas.{are_mounted, stay_after_reads}
use Rattle.oe_engine.proofs.RunRounds.{still_visible}
use Rattle.oe_http.specs.Replies.{reply_bytes}
use Rattle.oe_jobs.specs.Kept.{Kept}
use Rattle.oe_jobs.specs.Plain.{PlainBook, plain_book}
use Rattle.oe_outside.specs.Faults.{NeverFalls}
use Rattle.oe_outside.proofs.Causes.{NeverFalls-refl}
use Rattle.oe_plan.specs.Plans.{PlanOf}
use Rattle.oe_replies.specs.Answers.{refused_reply}
use Rattle.oe_replies.specs.declared.code.ReplyCode.TheVariants as code
use Rattle.oe_routes.specs.Actions.{run_now}
use Rattle.oe_service.specs.Calls.{CommitsOne, GoesByEvent, IsKept}
use Rattle.oe_service.specs.Causes.{Outside, outside}
use Rattle.oe_service.specs.GoesOn.{GoesOn, IsService, records_end_of, state_of}
use Rattle.oe_service.specs.States.{Event, Setting, State, no_command}
use Rattle.oe_service.specs.declared.service.Service.{Service}
use Rattle.oe_check.specs.Checked.{CheckedGraph}
use Rattle.oe_sources.specs.Catalogue.{Row}
use Rattle.oe_sources.specs.CatalogueDims.{AreDimsOf}
use Rattle.oe_window.specs.declared.grid.ChunkSize.{ChunkSize}
use Rattle.oe_serve.specs.Answers.{no_result, out_of_memory, result}
use Rattle.oe_serve.specs.Evaluations.{IsBegun}
use Rattle.oe_serve.specs.Links.{LinkOf, SendsCode, SendsReply}
use Rattle.oe_serve.specs.Results.{AnswersResult, IsTooLarge, with_refusal, with_result, without_memory}
use Rattle.oe_serve.specs.Serves.{Acts, KeepsService}
use Rattle.oe_serve.specs.declared.refusal.ResultRefusal.TheVariants.{PlanTooLarge}
use Rattle.oe_serve.specs.declared.served.Served.{Served}

-- ---- the service

pub itself : (o : Option RunOf) → IfSome o (λ _. o ≡ o)
itself None = tt
itself (Some r) = refl

pub none_begun : (kept : Option Kept) (made : PlainBook) → CommitsOne kept made kept
none_begun None made = refl
none_begun (Some k) made = inl refl

-- no command leaves a state as it is
pub stays : (setting : Setting) (e : Event) (comes : Bool) (s : State) (kept : Option Kept) → e ≡ no_command → GoesByEvent setting e comes s s kept kept
stays setting e comes s kept is =
    subst (λ (x : Event). GoesByEvent setting x comes s s kept kept) (sym is)
    (record { state = by comes; commits = none_begun kept s.book })
  where
    by : (b : Bool) → s ≡ (if b then s else s)
    by true = refl
    by false = refl

module _ (s : Service) (rows rows_after : List Row) (store store_after : Option (List ℕ)) (faults faults_after : ℕ)
    (kept : Option Kept) (keeper_faults : ℕ) (link link_after : LinkOf) (has_failed : Bool) (served : Served) where
  abbrev before : Outside
  before = outside rows store faults kept keeper_faults

  abbrev after : Outside
  after = outside rows_after store_after faults_after kept keeper_faults

  keeps_service : IsService s → IsKept kept (plain_book s.book) → GoesOn s.run rows_after store_after → AreRead rows rows_after
      → (IsVisible store → IsVisible store_after) → NeverFalls faults faults_after → KeepsService s s before after
  keeps_service is is_kept going read visible count = record {
    service = is;
    sizes = record { size = refl; workers = refl };
    is_kept = is_kept;
    run = itself s.run;
    going = going;
    read = read;
    visible = visible;
    spool_count = count;
    keeper_count = NeverFalls-refl keeper_faults;
  }

  acts_by : (c : CheckedGraph) → KeepsService s s before after
      → AnswersResult c s.size s.workers before after link link_after served
      → Acts (run_now c) s s before after link link_after has_failed served
  acts_by c keeps (with_result count text is sends) = record {
    answer = result c count text;
    is_answer = (refl, is);
    sends = sends;
    goes = λ now e is_event. stays _ e true (state_of s) kept is_event;
    idle = λ nothing. refl;
    keeps = keeps;
  }
  acts_by c keeps (with_refusal refusal why sends) = record {
    answer = no_result c refusal;
    is_answer = (refl, why);
    sends = sends;
    goes = λ now e is_event. stays _ e true (state_of s) kept is_event;
    idle = λ nothing. refl;
    keeps = keeps;
  }
  acts_by c keeps (without_memory sends) = record {
    answer = out_of_memory;
    is_answer = tt;
    sends = sends;
    goes = λ now e is_event. stays _ e false (state_of s) kept is_event;
    idle = λ nothing. refl;
    keeps = keeps;
  }

-- ---- without a run

module _ (s : Service) (rows : List Row) (store : Option (List ℕ)) (faults : ℕ) (kept : Option Kept) (keeper_faults : ℕ)
    (link link_after : LinkOf) (has_failed : Bool) (served : Served) (c : CheckedGraph) (is : IsService s)
    (going : GoesOn s.run rows store) (is_kept : IsKept kept (plain_book s.book)) where
  abbrev all : Outside
  all = outside rows store faults kept keeper_faults

  acts_unrun : AnswersResult c s.size s.workers all all link link_after served
      → Acts (run_now c) s s all all link link_after has_failed served
  acts_unrun answers =
      acts_by s rows rows store store faults faults kept keeper_faults link link_after has_failed served c
      (keeps_service s rows rows store store faults faults kept keeper_faults link link_after has_failed served is is_kept going
      (stay_after_reads.none rows) (λ visible. visible) (NeverFalls-refl faults)) answers

  -- it would hold too many cells
  pub acts_too_large : (sizes : ChunkSize × ℕ) → sizes ≡ (s.size, s.workers) → (cells : ℕ)
      → IsTooLarge c sizes.0 sizes.1 cells → SendsCode code.PlanTooLarge (decimal cells) link link_after served
      → Acts (run_now c) s s all all link link_after has_failed served
  acts_too_large sizes sizes_are cells large (inl sends) =
      acts_unrun (with_refusal (PlanTooLarge cells)
      (subst (λ (z : ChunkSize × ℕ). IsTooLarge c z.0 z.1 cells) sizes_are large) sends)
  acts_too_large sizes sizes_are cells large (inr sends) = acts_unrun (without_memory sends)

  pub acts_out_of_memory : SendsReply 503 (reply_bytes (refused_reply code.OutOfMemory [])) link link_after served
      → Acts (run_now c) s s all all link link_after has_failed served
  acts_out_of_memory sends = acts_unrun (without_memory sends)

-- ---- with a run behind that of the service

same_sizes : (c : CheckedGraph) (size : ChunkSize) (workers : ℕ) (p : PlanOf) → p.graph ≡ c → p.size ≡ size → p.workers ≡ workers
    → (before after : Outside) (link link_after : LinkOf) (served : Served)
    → AnswersResult p.graph p.size p.workers before after link link_after served
    → AnswersResult c size workers before after link link_after served
same_sizes c size workers p graph_is size_is workers_are before after link link_after served answers =
    subst (λ (n : ℕ). AnswersResult c size n before after link link_after served) workers_are
    (subst (λ (z : ChunkSize). AnswersResult c z p.workers before after link link_after served) size_is
    (subst (λ (g : CheckedGraph). AnswersResult g p.size p.workers before after link link_after served) graph_is answers))

module _ (c : CheckedGraph) (size : ChunkSize) (workers base : ℕ) (r : RunOf) (b : IsBegun c size workers base r)
    (rows : List Row) (may : IsCheckedOver rows c) (store : Option (List ℕ)) where
  -- it is under way
  pub begun_going : IsGoing r rows store
  begun_going =
      let same = b.plan.graph_is in
      runs_go_on.begun r rows store b.plan.planned b.first.none_done b.first.none_over
      (ap (λ (g : CheckedGraph). g.rows) same ∙ may.rows_are) may.given
      (are_mounted r.plan rows b.plan.planned (subst (λ (g : CheckedGraph). AreDimsOf rows g.rows) (sym same) may.found))

  module _ (s : Service) (base_is : base ≡ records_end_of s.run) (rows_after : List Row) (store_after : Option (List ℕ))
      (read : AreRead rows rows_after) (changes : ChangesOwnRecords r store store_after) where
    -- the run of the service goes on, since the records of this one stand behind its own
    service_going : GoesOn s.run rows store → GoesOn s.run rows_after store_after
    service_going going = by s.run base_is going
      where
        by : (o : Option RunOf) → base ≡ records_end_of o → GoesOn o rows store → GoesOn o rows_after store_after
        by None is going = tt
        by (Some own) is going =
            let behind : StandsBehind own r = omega (arith, is, b.base_is) in
            runs_stay_apart.going own r behind rows rows_after read store store_after changes going

    pub acts_run : (faults faults_after : ℕ) (kept : Option Kept) (keeper_faults : ℕ) (link link_after : LinkOf)
        (has_failed : Bool) (served : Served) → size ≡ s.size → workers ≡ s.workers → IsService s → GoesOn s.run rows store
        → IsKept kept (plain_book s.book) → NeverFalls faults faults_after
        → AnswersResult r.plan.graph r.plan.size r.plan.workers (outside rows store faults kept keeper_faults)
        (outside rows_after store_after faults_after kept keeper_faults) link link_after served
        → Acts (run_now c) s s (outside rows store faults kept keeper_faults)
        (outside rows_after store_after faults_after kept keeper_faults) link link_after has_failed served
    acts_run faults faults_after kept keeper_faults link link_after has_failed served size_is workers_are is going is_kept count
        answers =
        acts_by s rows rows_after store store_after faults faults_after kept keeper_faults link link_after has_failed served c
        (keeps_service s rows rows_after store store_after faults faults_after kept keeper_faults link link_after has_failed
        served is is_kept (service_going going) read (still_visible _ store store_after changes) count)
        (same_sizes c s.size s.workers r.plan b.plan.graph_is (b.plan.size_is ∙ size_is) (b.plan.workers_are ∙ workers_are)
        (outside rows store faults kept keeper_faults) (outside rows_after store_after faults_after kept keeper_faults) link
        link_after served answers)
