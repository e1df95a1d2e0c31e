-- How the evaluation of a graph ends that is folded slab by slab, by what its rounds left and by what was written of its
-- text.
use Rattle.std.proofs.Common.{◌≡◌, ◌<◌, ℕ, List, Option, Some, None, Result, Ok, Err, inl, inr, refl, sym, ap, ◌∙◌, subst}
use Rattle.oe_cell.specs.declared.cell.Cell.{Cell}
use Rattle.oe_dims.specs.Cube.{Cube}
use Rattle.oe_dims.specs.Dimensions.{cell_count}
use Rattle.oe_engine.specs.Laws.{GivesCollections, LoadsVisible, collections_of}
use Rattle.oe_engine.specs.Results.{IsVisible, IsWithoutOver, OfMeaning, result_of}
use Rattle.oe_slab.specs.Laws.{BeginAndEnd}
use Rattle.oe_slab.specs.Plans.{IsSlabPlan, SlabPlanOf}
use Rattle.oe_slab.specs.Runs.{HasDone, ShowsDone, SlabRunOf, chunk_total, result_cube, result_shape}
use Rattle.oe_steps.specs.declared.fail.RunFail.{RunFail}
use Rattle.oe_steps.specs.declared.fail.RunFail.TheVariants as run
use Rattle.oe_outside.proofs.Causes.{NeverFalls-refl, NeverFalls-trans, then-Rose}
use Rattle.oe_outside.specs.Faults.{HasCauseOf, NeverFalls}
use Rattle.oe_outside.specs.Visible.{Appends, AppendsPrefix}
use Rattle.oe_render.specs.Rendered.{AppendsCube, AppendsCubePrefix, IsRefusalWithin}
use Rattle.oe_render.specs.Stored.{AreStored}
use Rattle.oe_render.specs.Text.{cube_text}
use Rattle.oe_render.specs.declared.rendering.RenderFail.{RenderFail}
use Rattle.oe_render.specs.declared.rendering.RenderFail.TheVariants as text
use Rattle.oe_meanings.specs.Graphs.{Collections}
use Rattle.oe_check.specs.Laws.{AreCollectionsOf}
use Rattle.oe_sources.specs.Catalogue.{Row}
use Rattle.oe_sources.specs.CatalogueDims.{dims_of}
use Rattle.oe_spool.specs.Least.{least_over_of}
use Rattle.oe_top.proofs.Evaluations.{some_cube}
use Rattle.oe_top.proofs.SlabLoads.{reads_for_slabs}
use Rattle.oe_top.specs.Evaluated.{IsFailOfRun, fail_of_text}
use Rattle.oe_top.specs.Objects.{Objects, objects}
use Rattle.oe_top.specs.RunAnswer.{BeginsText, EvaluationEnds}
use Rattle.oe_top.specs.SlabAnswer.{FoldsSlabs}
use Rattle.oe_top.specs.SlabEvaluated.{CompletesSlabs, GoesBySlabs, ReadsForSlabPlan}
use Rattle.oe_top.specs.Written.{OfSomeCube}
use Rattle.oe_top.specs.declared.evaluation.EvaluationFail.{EvaluationFail}
use Rattle.oe_top.specs.declared.evaluation.EvaluationFail.TheVariants.{Damaged, Overflow, ReadFault, SpoolDamaged, SpoolFault, WriteFault}

-- what holds of bytes that are visible
shows_done : (r : SlabRunOf) (store : Option (List ℕ)) (cube : Cube Cell) → IsVisible store → HasDone r store cube → ShowsDone r store cube
shows_done r None cube visible has = absurd visible
shows_done r (Some bytes) cube visible has = has

module _ (r after : SlabRunOf) (rows rows_after : List Row) (store store_after : Option (List ℕ)) (faults faults_after : ℕ)
    (given : GivesCollections rows) (rows_are : r.plan.graph.rows ≡ dims_of rows) (ends : BeginAndEnd) (is : IsSlabPlan r.plan) where
  abbrev p : SlabPlanOf
  p = r.plan

  abbrev shown : Collections
  shown = collections_of rows

  are : AreCollectionsOf p.graph shown
  are = given.valid p.graph rows_are

  has_done : GoesBySlabs r after rows rows_after store store_after → LoadsVisible p.graph rows → HasDone after store_after (result_of rows p.graph)
  has_done goes visible = goes.values shown are (given.shown p.graph rows_are visible)

  pub over_is : GoesBySlabs r after rows rows_after store store_after → after.done ≡ chunk_total p → LoadsVisible p.graph rows
      → after.over ≡ least_over_of (result_of rows p.graph).cells
  over_is goes done visible =
      let same = goes.plan in
      ends.over after store_after shown (subst IsSlabPlan (sym same) is)
      (subst (λ (q : SlabPlanOf). AreCollectionsOf q.graph shown) (sym same) are) (done ∙ ap chunk_total (sym same))
      (subst (λ (q : SlabPlanOf). HasDone after store_after (result_cube shown q)) (sym same) (has_done goes visible))
      ∙ ap (λ (q : SlabPlanOf). least_over_of (result_cube shown q).cells) same

  -- ---- before the text

  module _ (input input_after : Option (List ℕ)) (input_faults input_faults_after : ℕ) (out : Option (List ℕ)) (out_faults : ℕ) where
    abbrev start : Objects
    start = objects input input_faults out out_faults store faults rows

    abbrev end : Objects
    end = objects input_after input_faults_after out out_faults store_after faults_after rows_after

    evaluated : (ending : Result (Unit {0}) EvaluationFail) → ReadsForSlabPlan p rows rows_after → NeverFalls faults faults_after
        → EvaluationEnds p.graph start end ending → FoldsSlabs p.graph p.size p.fold start end ending
    evaluated ending reads count e = record { ends = e; reads = reads_for_slabs p is rows rows_after reads; out_count = NeverFalls-refl out_faults; spool_count = count }

    pub refused_slabs : (fail : RunFail) (stop : EvaluationFail) → CompletesSlabs r after rows rows_after store store_after faults faults_after (Err fail)
        → IsFailOfRun p.graph fail stop
        → FoldsSlabs p.graph p.size p.fold start end (Err stop)
    refused_slabs run.SourceFailed stop c same = subst (λ (e : EvaluationFail). FoldsSlabs p.graph p.size p.fold start end (Err e)) (sym same)
        (evaluated (Err ReadFault) c.through.reads c.through.spool_cause.count
        (c.through.read_cause refl, record { out = refl; faults = refl }))
    refused_slabs (run.SourceDamaged node number) stop c (id, loads, same) =
        subst (λ (e : EvaluationFail). FoldsSlabs p.graph p.size p.fold start end (Err e)) (sym same)
        (evaluated (Err (Damaged id number)) c.through.reads c.through.spool_cause.count (record {
          node = node;
          loads = loads;
          keeps = c.through.says node number refl;
          unwritten = record { out = refl; faults = refl };
        }))
    refused_slabs run.SpoolFailed stop c same = subst (λ (e : EvaluationFail). FoldsSlabs p.graph p.size p.fold start end (Err e)) (sym same)
        (evaluated (Err SpoolFault) c.through.reads c.through.spool_cause.count
        (c.through.spool_cause.failed refl, inl (record { out = refl; faults = refl })))
    refused_slabs (run.Overflow number) stop c same =
        let over = c.overflow number refl in
        subst (λ (e : EvaluationFail). FoldsSlabs p.graph p.size p.fold start end (Err e)) (sym same)
        (evaluated (Err (Overflow number)) c.through.reads c.through.spool_cause.count (record {
          least = λ visible. sym (over_is c.through.goes over.0 visible) ∙ over.1;
          unwritten = record { out = refl; faults = refl };
        }))

  -- ---- with the text

  module _ (c : CompletesSlabs r after rows rows_after store store_after faults faults_after (Ok tt))
      (input input_after : Option (List ℕ)) (input_faults input_faults_after : ℕ) (out out_after : Option (List ℕ)) (out_faults out_faults_after faults_last : ℕ) where
    abbrev begun : Objects
    begun = objects input input_faults out out_faults store faults rows

    abbrev ended : Objects
    ended = objects input_after input_faults_after out_after out_faults_after store_after faults_last rows_after

    abbrev Holds : (Cube Cell → Type 0) → Type 0
    Holds P = (collections : Collections) → AreCollectionsOf after.plan.graph collections
        → ShowsDone after store_after (result_cube collections after.plan) → P (result_cube collections after.plan)

    pub of_meaning : (P : Cube Cell → Type 0) → Holds P → IsVisible store → OfMeaning rows p.graph P
    of_meaning P h visible loads =
        let same = c.through.goes.plan in
        subst (λ (q : SlabPlanOf). P (result_cube shown q)) same
        (h shown (subst (λ (q : SlabPlanOf). AreCollectionsOf q.graph shown) (sym same) are)
        (subst (λ (q : SlabPlanOf). ShowsDone after store_after (result_cube shown q)) (sym same)
        (shows_done after store_after (result_of rows p.graph) (c.through.goes.visible visible) (has_done c.through.goes loads))))

    last : (ending : Result (Unit {0}) EvaluationFail) → NeverFalls faults_after faults_last → NeverFalls out_faults out_faults_after
        → EvaluationEnds p.graph begun ended ending → FoldsSlabs p.graph p.size p.fold begun ended ending
    last ending count out_count e = record {
      ends = e;
      reads = reads_for_slabs p is rows rows_after c.through.reads;
      out_count = out_count;
      spool_count = NeverFalls-trans c.through.spool_cause.count count;
    }

    no_over : OfMeaning rows p.graph IsWithoutOver
    no_over loads = sym (over_is c.through.goes c.through.done loads) ∙ c.numbers

    -- cells that stand in the spool, whatever is visible
    stored : (P : Cube Cell → Type 0)
        → (cells : List Cell) × AreStored store_after after.base (cell_count (result_shape after.plan)) cells
        × P (record { shape = result_shape after.plan; cells = cells })
        → OfSomeCube (result_shape p) P
    stored P cells =
        subst (λ (q : SlabPlanOf). OfSomeCube (result_shape q) P) c.through.goes.plan
        (some_cube store_after after.base (result_shape after.plan) P cells)

    begins : Holds (λ cube. AppendsPrefix out (cube_text cube) out_after)
        → AppendsCubePrefix store_after after.base (result_shape after.plan) out out_after → BeginsText p.graph begun ended
    begins prefix cells = record {
      numbers = no_over;
      prefix = of_meaning (λ cube. AppendsPrefix out (cube_text cube) out_after) prefix;
      stored = stored (λ cube. AppendsPrefix out (cube_text cube) out_after) cells;
    }

    pub written_slabs : Holds (λ cube. Appends out (cube_text cube) out_after)
        → AppendsCube store_after after.base (result_shape after.plan) out out_after → NeverFalls faults_after faults_last
        → NeverFalls out_faults out_faults_after
        → FoldsSlabs p.graph p.size p.fold begun ended (Ok tt)
    written_slabs appends cells count out_count = last (Ok tt) count out_count (record {
      numbers = no_over;
      text = λ visible. of_meaning (λ cube. Appends out (cube_text cube) out_after) appends visible;
      stored = stored (λ cube. Appends out (cube_text cube) out_after) cells;
    })

    hidden : store_after ≡ None → store ≡ None
    hidden none = by store refl
      where
        by : (s : Option (List ℕ)) → store ≡ s → store ≡ None
        by None e = e
        by (Some bytes) e =
            let visible : IsVisible store = subst IsVisible (sym e) tt in
            let after_none : IsVisible None = subst IsVisible none (c.through.goes.visible visible) in
            absurd after_none

    pub stopped_slabs : (fail : RenderFail) (stop : EvaluationFail) → stop ≡ fail_of_text fail
        → Holds (λ cube. AppendsPrefix out (cube_text cube) out_after)
        → AppendsCubePrefix store_after after.base (result_shape after.plan) out out_after
        → HasCauseOf {T = Unit {0}} text.SpoolFailed faults_after faults_last (Err fail)
        → HasCauseOf {T = Unit {0}} text.SinkFailed out_faults out_faults_after (Err fail)
        → IsRefusalWithin store_after 0 (cell_count (result_shape after.plan)) fail
        → FoldsSlabs p.graph p.size p.fold begun ended (Err stop)
    stopped_slabs text.SpoolFailed stop same prefix cells spool sink damage = subst (λ (e : EvaluationFail). FoldsSlabs p.graph p.size p.fold begun ended (Err e)) (sym same)
        (last (Err SpoolFault) spool.count sink.count (
          then-Rose c.through.spool_cause.count (spool.failed refl),
          inr (begins prefix cells),
        ))
    stopped_slabs (text.SpoolDamaged number) stop same prefix cells spool sink damage =
        subst (λ (e : EvaluationFail). FoldsSlabs p.graph p.size p.fold begun ended (Err e)) (sym same)
        (last (Err (SpoolDamaged number)) spool.count sink.count
        (record {
          within = subst (λ (q : SlabPlanOf). number < cell_count (result_shape q)) c.through.goes.plan damage.2;
          begins = begins prefix cells;
          hidden = hidden damage.0;
        }))
    stopped_slabs text.SinkFailed stop same prefix cells spool sink damage = subst (λ (e : EvaluationFail). FoldsSlabs p.graph p.size p.fold begun ended (Err e)) (sym same)
        (last (Err WriteFault) spool.count sink.count
        (sink.failed refl, begins prefix cells))
