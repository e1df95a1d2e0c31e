-- How the evaluation of a graph ends, by what its rounds left and by what was written of its text.
use Rattle.std.proofs.Common.{◌≡◌, ◌<◌, ℕ, List, Option, Some, None, Result, Ok, Err, inl, inr, refl, sym, ap, ◌∙◌, subst}
use Rattle.std.proofs.lemmas.List.{append-nil}
use Rattle.oe_cell.specs.declared.cell.Cell.{Cell}
use Rattle.oe_dims.specs.Cube.{Cube}
use Rattle.oe_dims.specs.Dimensions.{Dimensions, cell_count}
use Rattle.oe_engine.specs.Laws.{GivesCollections}
use Rattle.oe_engine.specs.Runs.{OfRun, RunOf, result_shape}
use Rattle.oe_engine.specs.Results.{IsWithoutOver, OfMeaning}
use Rattle.oe_engine.specs.Evaluations.{Evaluates as EvaluatesRun, ReadsForPlan}
use Rattle.oe_engine.proofs.RunReads.{reads_for_run}
use Rattle.oe_engine.proofs.RunResults.{hidden, of_meaning, over_is, without_over}
use Rattle.oe_steps.specs.declared.fail.RunFail.{RunFail}
use Rattle.oe_steps.specs.declared.fail.RunFail.TheVariants as run
use Rattle.oe_outside.proofs.Causes.{NeverFalls-refl, NeverFalls-trans, then-Rose}
use Rattle.oe_outside.specs.Faults.{HasCauseOf, NeverFalls}
use Rattle.oe_outside.specs.Visible.{Appends, AppendsPrefix}
use Rattle.oe_plan.specs.Plans.{IsPlan, PlanOf}
use Rattle.oe_render.specs.Rendered.{AppendsCube, AppendsCubePrefix, IsRefusalWithin}
use Rattle.oe_render.specs.Stored.{AreStored}
use Rattle.oe_render.specs.Text.{cube_text}
use Rattle.oe_render.specs.declared.rendering.RenderFail.{RenderFail}
use Rattle.oe_render.specs.declared.rendering.RenderFail.TheVariants as text
use Rattle.oe_sources.specs.Catalogue.{Row}
use Rattle.oe_sources.specs.CatalogueDims.{dims_of}
use Rattle.oe_top.specs.Evaluated.{IsFailOfRun, fail_of_text}
use Rattle.oe_top.specs.Objects.{Objects, objects}
use Rattle.oe_top.specs.RunAnswer.{BeginsText, EvaluationEnds, Evaluates}
use Rattle.oe_top.specs.Written.{OfSomeCube}
use Rattle.oe_top.specs.declared.evaluation.EvaluationFail.{EvaluationFail}
use Rattle.oe_top.specs.declared.evaluation.EvaluationFail.TheVariants.{Damaged, Overflow, ReadFault, SpoolDamaged, SpoolFault, WriteFault}

-- nothing is a prefix of every text
pub nothing_more : (held : Option (List ℕ)) (piece : List ℕ) → AppendsPrefix held piece held
nothing_more None piece = (0, refl)
nothing_more (Some bytes) piece = (0, ap Some (sym (append-nil bytes)))

-- cells that stand in a store are those of some cube
pub some_cube : (store : Option (List ℕ)) (at : ℕ) (shape : Dimensions) (Holds : Cube Cell → Type 0)
    → (cells : List Cell) × AreStored store at (cell_count shape) cells × Holds (record { shape = shape; cells = cells })
    → OfSomeCube shape Holds
some_cube store at shape Holds (cells, are, holds) = record {
  cells = cells;
  counted = are.counted;
  valid = are.read.fit;
  numbered = are.numbered;
  holds = holds;
}

module _ (r after : RunOf) (rows rows_after : List Row) (store store_after : Option (List ℕ)) (faults faults_after : ℕ)
    (given : GivesCollections rows) (rows_are : r.plan.graph.rows ≡ dims_of rows) (is : IsPlan r.plan) where
  abbrev p : PlanOf
  p = r.plan

  -- ---- before the text

  module _ (input input_after : Option (List ℕ)) (input_faults input_faults_after : ℕ) (out : Option (List ℕ)) (out_faults : ℕ) where
    abbrev start : Objects
    start = objects input input_faults out out_faults store faults rows

    abbrev end : Objects
    end = objects input_after input_faults_after out out_faults store_after faults_after rows_after

    evaluated : (ending : Result (Unit {0}) EvaluationFail) → ReadsForPlan p rows rows_after → NeverFalls faults faults_after
        → EvaluationEnds p.graph start end ending → Evaluates p.graph p.size start end ending
    evaluated ending reads count e = record { ends = e; reads = reads_for_run p is rows rows_after reads; out_count = NeverFalls-refl out_faults; spool_count = count }

    pub refused : (fail : RunFail) (stop : EvaluationFail) → EvaluatesRun r after rows rows_after store store_after faults faults_after (Err fail)
        → IsFailOfRun p.graph fail stop
        → Evaluates p.graph p.size start end (Err stop)
    refused run.SourceFailed stop c same = subst (λ (e : EvaluationFail). Evaluates p.graph p.size start end (Err e)) (sym same)
        (evaluated (Err ReadFault) c.through.reads c.through.spool_cause.count
        (c.through.read_cause refl, record { out = refl; faults = refl }))
    refused (run.SourceDamaged node number) stop c (id, loads, same) =
        subst (λ (e : EvaluationFail). Evaluates p.graph p.size start end (Err e)) (sym same)
        (evaluated (Err (Damaged id number)) c.through.reads c.through.spool_cause.count (record {
          node = node;
          loads = loads;
          keeps = c.through.says node number refl;
          unwritten = record { out = refl; faults = refl };
        }))
    refused run.SpoolFailed stop c same = subst (λ (e : EvaluationFail). Evaluates p.graph p.size start end (Err e)) (sym same)
        (evaluated (Err SpoolFault) c.through.reads c.through.spool_cause.count
        (c.through.spool_cause.failed refl, inl (record { out = refl; faults = refl })))
    refused (run.Overflow number) stop c same =
        let over = c.overflow number refl in
        subst (λ (e : EvaluationFail). Evaluates p.graph p.size start end (Err e)) (sym same)
        (evaluated (Err (Overflow number)) c.through.reads c.through.spool_cause.count (record {
          least = λ visible. sym (over_is r after rows rows_after store store_after given rows_are is c.through.goes over.0 visible) ∙ over.1;
          unwritten = record { out = refl; faults = refl };
        }))

  -- ---- with the text

  module _ (c : EvaluatesRun r after rows rows_after store store_after faults faults_after (Ok tt))
      (input input_after : Option (List ℕ)) (input_faults input_faults_after : ℕ) (out out_after : Option (List ℕ)) (out_faults out_faults_after faults_last : ℕ) where
    abbrev begun : Objects
    begun = objects input input_faults out out_faults store faults rows

    abbrev ended : Objects
    ended = objects input_after input_faults_after out_after out_faults_after store_after faults_last rows_after

    last : (ending : Result (Unit {0}) EvaluationFail) → NeverFalls faults_after faults_last → NeverFalls out_faults out_faults_after
        → EvaluationEnds p.graph begun ended ending → Evaluates p.graph p.size begun ended ending
    last ending count out_count e = record {
      ends = e;
      reads = reads_for_run p is rows rows_after c.through.reads;
      out_count = out_count;
      spool_count = NeverFalls-trans c.through.spool_cause.count count;
    }

    no_over : OfMeaning rows p.graph IsWithoutOver
    no_over = without_over r after rows rows_after store store_after given rows_are is c.through.goes c.through.done c.numbers

    -- cells that stand in the spool, whatever is visible
    stored : (Holds : Cube Cell → Type 0)
        → (cells : List Cell) × AreStored store_after after.base (cell_count (result_shape after.plan)) cells
        × Holds (record { shape = result_shape after.plan; cells = cells })
        → OfSomeCube (result_shape p) Holds
    stored Holds cells =
        subst (λ (q : PlanOf). OfSomeCube (result_shape q) Holds) c.through.goes.plan
        (some_cube store_after after.base (result_shape after.plan) Holds cells)

    begins : OfRun after store_after (λ cube. AppendsPrefix out (cube_text cube) out_after)
        → AppendsCubePrefix store_after after.base (result_shape after.plan) out out_after → BeginsText p.graph begun ended
    begins prefix cells = record {
      numbers = no_over;
      prefix = of_meaning r after rows rows_after store store_after given rows_are is c.through.goes (λ cube. AppendsPrefix out (cube_text cube) out_after) prefix;
      stored = stored (λ cube. AppendsPrefix out (cube_text cube) out_after) cells;
    }

    pub written : OfRun after store_after (λ cube. Appends out (cube_text cube) out_after)
        → AppendsCube store_after after.base (result_shape after.plan) out out_after → NeverFalls faults_after faults_last
        → NeverFalls out_faults out_faults_after
        → Evaluates p.graph p.size begun ended (Ok tt)
    written appends cells count out_count = last (Ok tt) count out_count (record {
      numbers = no_over;
      text = λ visible. of_meaning r after rows rows_after store store_after given rows_are is c.through.goes (λ cube. Appends out (cube_text cube) out_after) appends visible;
      stored = stored (λ cube. Appends out (cube_text cube) out_after) cells;
    })

    pub stopped : (fail : RenderFail) (stop : EvaluationFail) → stop ≡ fail_of_text fail
        → OfRun after store_after (λ cube. AppendsPrefix out (cube_text cube) out_after)
        → AppendsCubePrefix store_after after.base (result_shape after.plan) out out_after
        → HasCauseOf {T = Unit {0}} text.SpoolFailed faults_after faults_last (Err fail)
        → HasCauseOf {T = Unit {0}} text.SinkFailed out_faults out_faults_after (Err fail)
        → IsRefusalWithin store_after 0 (cell_count (result_shape after.plan)) fail
        → Evaluates p.graph p.size begun ended (Err stop)
    stopped text.SpoolFailed stop same prefix cells spool sink damage = subst (λ (e : EvaluationFail). Evaluates p.graph p.size begun ended (Err e)) (sym same)
        (last (Err SpoolFault) spool.count sink.count (
          then-Rose c.through.spool_cause.count (spool.failed refl),
          inr (begins prefix cells),
        ))
    stopped (text.SpoolDamaged number) stop same prefix cells spool sink damage =
        subst (λ (e : EvaluationFail). Evaluates p.graph p.size begun ended (Err e)) (sym same)
        (last (Err (SpoolDamaged number)) spool.count sink.count
        (record {
          within = subst (λ (q : PlanOf). number < cell_count (result_shape q)) c.through.goes.plan damage.2;
          begins = begins prefix cells;
          hidden = hidden r after rows rows_after store store_after given rows_are is c.through.goes damage.0;
        }))
    stopped text.SinkFailed stop same prefix cells spool sink damage = subst (λ (e : EvaluationFail). Evaluates p.graph p.size begun ended (Err e)) (sym same)
        (last (Err WriteFault) spool.count sink.count
        (sink.failed refl, begins prefix cells))
