-- How a graph is answered whose run was begun.
use Rattle.std.proofs.Common.{◌≡◌, ◌⊎◌, ◌++◌, ℕ, List, take, Option, Some, None, Ok, Err, inl, inr, refl, ap, ◌∙◌, subst}
use Rattle.oe_engine.specs.Going.{IsGoing}
use Rattle.oe_engine.specs.Runs.{RunOf}
use Rattle.oe_engine.specs.Results.{result_of}
use Rattle.oe_jobs.specs.Kept.{Kept}
use Rattle.oe_outside.specs.Faults.{Rose}
use Rattle.oe_outside.specs.Visible.{Appends, AppendsPrefix}
use Rattle.oe_outside.proofs.Causes.{then-Rose}
use Rattle.oe_plan.specs.Plans.{PlanOf}
use Rattle.oe_render.specs.Text.{cube_text}
use Rattle.oe_service.specs.Causes.{Outside, outside}
use Rattle.oe_check.specs.Checked.{CheckedGraph, collection_of_node}
use Rattle.oe_check.proofs.LinkLemmas.{node_there}
use Rattle.oe_sources.specs.Catalogue.{Row}
use Rattle.oe_serve.specs.Evaluations.{CanBeNamed, Completes, SendsRunText}
use Rattle.oe_serve.specs.Links.{LinkOf, SendsCode}
use Rattle.oe_serve.specs.Results.{AnswersResult, IsRun, ResultRefused, RunRefused, code_of, detail_of, result_head, with_refusal, with_result, without_memory}
use Rattle.oe_serve.specs.declared.refusal.ResultRefusal.{ResultRefusal}
use Rattle.oe_serve.specs.declared.refusal.ResultRefusal.TheVariants.{PlanTooLarge, ReadFault, SourceDamaged, SpoolFault, NumberOverflow, SpoolDamaged}
use Rattle.oe_serve.specs.declared.served.Served.{Served}
use Rattle.oe_serve.specs.declared.served.Served.TheVariants.{Answered, Cut, LinkFailed}
use Rattle.oe_engine.proofs.RunResults.{hidden, of_meaning, without_over}

module _ (r after : RunOf) (rows rows_after : List Row) (store store_after store_last : Option (List ℕ))
    (faults faults_after faults_last : ℕ) (going : IsGoing r rows store) (kept : Option Kept) (keeper_faults : ℕ)
    (link link_after : LinkOf) where
  abbrev first : Outside
  first = outside rows store faults kept keeper_faults

  abbrev last : Outside
  last = outside rows_after store_last faults_last kept keeper_faults

  abbrev Answers : Served → Type 0
  Answers served = AnswersResult r.plan.graph r.plan.size r.plan.workers first last link link_after served

  -- ---- with its result

  module _ (count : ℕ) (c : Completes r after rows rows_after store store_after faults faults_after (Ok count)) where
    ran : IsRun r.plan.graph r.plan.size r.plan.workers first last
    ran = record { fits = going.planned.bounded; reads = c.reads }

    why_cut : Rose faults_after faults_last ⊎ (store_after ≡ None) → Rose faults faults_last ⊎ (store ≡ None)
    why_cut (inl rose) = inl (then-Rose c.spool_count rose)
    why_cut (inr none) = inr (hidden r after rows rows_after store store_after going.given going.rows_are going.planned c.goes none)

    pub with_text : (served : Served)
        → SendsRunText after store_after faults_after faults_last (result_head count) link link_after served → Answers served
    with_text (Answered status) s =
        let writes = s.sends.1 in
        with_result count writes.text (record {
          is_run = ran;
          numbers = without_over r after rows rows_after store store_after going.given going.rows_are going.planned c.goes c.complete.done c.complete.numbers;
          text_is = of_meaning r after rows rows_after store store_after going.given going.rows_are going.planned c.goes (λ cube. writes.text ≡ cube_text cube) writes.text_is;
          count_is = c.counted;
        }) (record { sends = (s.sends.0, writes.written); count = s.count })
    with_text Cut s =
        with_result count (cube_text (result_of rows r.plan.graph)) (record {
          is_run = ran;
          numbers = without_over r after rows rows_after store store_after going.given going.rows_are going.planned c.goes c.complete.done c.complete.numbers;
          text_is = λ visible loads. refl;
          count_is = c.counted;
        }) (record {
          sends = (
            why_cut s.sends.0,
            λ shown. of_meaning r after rows rows_after store store_after going.given going.rows_are going.planned c.goes
                (λ cube. (n : ℕ) × Appends link.written (result_head count ++ take n (cube_text cube)) link_after.written)
                s.sends.1 shown.0 shown.1,
          );
          count = s.count;
        })
    with_text LinkFailed s =
        with_result count (cube_text (result_of rows r.plan.graph)) (record {
          is_run = ran;
          numbers = without_over r after rows rows_after store store_after going.given going.rows_are going.planned c.goes c.complete.done c.complete.numbers;
          text_is = λ visible loads. refl;
          count_is = c.counted;
        }) (record {
          sends = (
            s.sends.0,
            λ shown. of_meaning r after rows rows_after store store_after going.given going.rows_are going.planned c.goes
                (λ cube. AppendsPrefix link.written (result_head count ++ cube_text cube) link_after.written)
                s.sends.1 shown.0 shown.1,
          );
          count = s.count;
        })

  -- ---- with why it has none

  module _ (refusal : ResultRefusal)
      (c : Completes r after rows rows_after store store_last faults faults_last (Err refusal)) where
    cause : (why : ResultRefusal) → RunRefused r.plan.graph rows rows_after store faults faults_last why
        → ResultRefused r.plan.graph r.plan.size r.plan.workers first last why
    cause (PlanTooLarge cells) is = absurd is
    cause ReadFault is = (record { fits = going.planned.bounded; reads = c.reads }, is)
    cause (SourceDamaged load number) is = (record { fits = going.planned.bounded; reads = c.reads }, is)
    cause SpoolFault is = (record { fits = going.planned.bounded; reads = c.reads }, is)
    cause (NumberOverflow number) is = (record { fits = going.planned.bounded; reads = c.reads }, is)
    cause (SpoolDamaged number) is = (record { fits = going.planned.bounded; reads = c.reads }, is)

    by_code : (served : Served) → SendsCode (code_of refusal) (detail_of r.plan.graph refusal) link link_after served → Answers served
    by_code served (inl sends) = with_refusal refusal (cause refusal c.refused) sends
    by_code served (inr sends) = without_memory sends

    pub with_code : (graph : CheckedGraph) → graph ≡ after.plan.graph → (served : Served)
        → SendsCode (code_of refusal) (detail_of graph refusal) link link_after served → Answers served
    with_code graph is served sends =
        by_code served
        (subst (λ (g : CheckedGraph). SendsCode (code_of refusal) (detail_of g refusal) link link_after served)
        (is ∙ ap (λ (p : PlanOf). p.graph) c.goes.plan) sends)

-- ---- what can be named

pub can_be_named : (c : CheckedGraph) (rows rows_after : List Row) (store : Option (List ℕ)) (faults faults_after : ℕ)
    (refusal : ResultRefusal) → RunRefused c rows rows_after store faults faults_after refusal → CanBeNamed c refusal
can_be_named c rows rows_after store faults faults_after (PlanTooLarge cells) is = tt
can_be_named c rows rows_after store faults faults_after ReadFault is = tt
can_be_named c rows rows_after store faults faults_after (SourceDamaged load number) is =
    node_there c load is.id (subst (λ (n : ℕ). collection_of_node c n ≡ Some is.id) is.node_is is.loaded.loads)
can_be_named c rows rows_after store faults faults_after SpoolFault is = tt
can_be_named c rows rows_after store faults faults_after (NumberOverflow number) is = tt
can_be_named c rows rows_after store faults faults_after (SpoolDamaged number) is = tt
