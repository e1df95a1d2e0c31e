-- What becomes of a run that is made whole, by what its rounds left.
use Rattle.std.proofs.Common.{◌≡◌, IfErr, IfOk, ◌<◌, ℕ, length, List, Option, Result, Ok, Err, refl, sym, ◌∙◌, subst}
use Rattle.oe_dims.specs.Dimensions.{cell_count}
use Rattle.oe_engine.specs.Going.{IsGoing}
use Rattle.oe_engine.specs.Runs.{OfRun, RunOf, result_shape}
use Rattle.oe_engine.specs.Evaluations.{Evaluates}
use Rattle.oe_steps.specs.declared.fail.RunFail.{RunFail}
use Rattle.oe_steps.specs.declared.fail.RunFail.TheVariants as run
use Rattle.oe_engine.proofs.RunReads.{reads_for_run}
use Rattle.oe_engine.proofs.RunResults.{hidden, of_meaning, over_is, without_over}
use Rattle.oe_outside.specs.Faults.{NeverFalls}
use Rattle.oe_outside.proofs.Causes.{NeverFalls-trans, then-Rose}
use Rattle.oe_plan.specs.Plans.{PlanOf}
use Rattle.oe_render.specs.Text.{cube_text}
use Rattle.oe_sources.specs.Catalogue.{Row}
use Rattle.oe_serve.specs.Evaluations.{Completes, TextRefused}
use Rattle.oe_serve.specs.Results.{RunRefused, of_run}
use Rattle.oe_serve.specs.declared.refusal.ResultRefusal.{ResultRefusal}
use Rattle.oe_serve.specs.declared.refusal.ResultRefusal.TheVariants.{PlanTooLarge, ReadFault, SourceDamaged, SpoolFault, NumberOverflow, SpoolDamaged}

-- ---- all rounds, and the length of the text

module _ (r after : RunOf) (rows rows_after : List Row) (store store_after : Option (List ℕ)) (faults faults_after : ℕ)
    (going : IsGoing r rows store) where
  -- why the rounds were refused
  rounds_cause : (fail : RunFail) → Evaluates r after rows rows_after store store_after faults faults_after (Err fail)
      → RunRefused r.plan.graph rows rows_after store faults faults_after (of_run fail)
  rounds_cause run.SourceFailed e = e.through.read_cause refl
  rounds_cause (run.SourceDamaged load number) e = e.through.says load number refl
  rounds_cause run.SpoolFailed e = e.through.spool_cause.failed refl
  rounds_cause (run.Overflow number) e = λ visible.
      let over = e.overflow number refl in
      sym (over_is r after rows rows_after store store_after going.given going.rows_are going.planned e.through.goes over.0 visible) ∙ over.1

  pub not_completed : (fail : RunFail) → Evaluates r after rows rows_after store store_after faults faults_after (Err fail)
      → Completes r after rows rows_after store store_after faults faults_after (Err (of_run fail))
  not_completed fail e = record {
    goes = e.through.goes;
    reads = reads_for_run r.plan going.planned rows rows_after e.through.reads;
    complete = tt;
    counted = tt;
    refused = rounds_cause fail e;
    spool_count = e.through.spool_cause.count;
  }

  module _ (e : Evaluates r after rows rows_after store store_after faults faults_after (Ok tt)) (faults_last : ℕ)
      (count : NeverFalls faults_after faults_last) where
    pub completed : (bytes : ℕ)
        → OfRun after store_after (λ cube. bytes ≡ length (cube_text cube))
        → Completes r after rows rows_after store store_after faults faults_last (Ok bytes)
    completed bytes counted = record {
      goes = e.through.goes;
      reads = reads_for_run r.plan going.planned rows rows_after e.through.reads;
      complete = record { done = e.through.done; numbers = e.numbers };
      counted = of_meaning r after rows rows_after store store_after going.given going.rows_are going.planned e.through.goes (λ cube. bytes ≡ length (cube_text cube)) counted;
      refused = tt;
      spool_count = NeverFalls-trans e.through.spool_cause.count count;
    }

    text_cause : (refusal : ResultRefusal)
        → TextRefused store_after (cell_count (result_shape after.plan)) faults_after faults_last refusal
        → RunRefused r.plan.graph rows rows_after store faults faults_last refusal
    text_cause (PlanTooLarge cells) cause = absurd cause
    text_cause ReadFault cause = absurd cause
    text_cause (SourceDamaged load number) cause = absurd cause
    text_cause SpoolFault cause = then-Rose e.through.spool_cause.count cause
    text_cause (NumberOverflow number) cause = absurd cause
    text_cause (SpoolDamaged number) cause = record {
      within = subst (λ (q : PlanOf). number < cell_count (result_shape q)) e.through.goes.plan cause.1;
      hidden = hidden r after rows rows_after store store_after going.given going.rows_are going.planned e.through.goes cause.0;
      numbers = without_over r after rows rows_after store store_after going.given going.rows_are going.planned e.through.goes e.through.done e.numbers;
    }

    pub not_counted : (refusal : ResultRefusal)
        → TextRefused store_after (cell_count (result_shape after.plan)) faults_after faults_last refusal
        → Completes r after rows rows_after store store_after faults faults_last (Err refusal)
    not_counted refusal cause = record {
      goes = e.through.goes;
      reads = reads_for_run r.plan going.planned rows rows_after e.through.reads;
      complete = tt;
      counted = tt;
      refused = text_cause refusal cause;
      spool_count = NeverFalls-trans e.through.spool_cause.count count;
    }

    by_text : (result : Result ℕ ResultRefusal)
        → IfOk result (λ bytes. OfRun after store_after (λ cube. bytes ≡ length (cube_text cube)))
        → IfErr result (TextRefused store_after (cell_count (result_shape after.plan)) faults_after faults_last)
        → Completes r after rows rows_after store store_after faults faults_last result
    by_text (Ok bytes) counted refused = completed bytes counted
    by_text (Err refusal) counted refused = not_counted refusal refused

    -- reading the text back leaves the run and the bytes of the spool as they are
    pub ends_in_text : (last : RunOf) → last ≡ after → (store_last : Option (List ℕ)) → store_last ≡ store_after
        → (result : Result ℕ ResultRefusal)
        → IfOk result (λ bytes. OfRun after store_after (λ cube. bytes ≡ length (cube_text cube)))
        → IfErr result (TextRefused store_after (cell_count (result_shape after.plan)) faults_after faults_last)
        → Completes r last rows rows_after store store_last faults faults_last result
    ends_in_text last same store_last kept result counted refused =
        subst (λ (x : RunOf). Completes r x rows rows_after store store_last faults faults_last result) (sym same)
        (subst (λ (s : Option (List ℕ)). Completes r after rows rows_after store s faults faults_last result) (sym kept)
        (by_text result counted refused))
