-- What all rounds of a run leave, as what its graph means over the collections of a catalogue.
use Rattle.std.proofs.Common.{◌≡◌, ℕ, List, Option, Some, None, refl, sym, ap, ◌∙◌, subst}
use Rattle.oe_cell.specs.declared.cell.Cell.{Cell}
use Rattle.oe_dims.specs.Cube.{Cube}
use Rattle.oe_check.specs.Laws.{AreCollectionsOf}
use Rattle.oe_meanings.specs.Graphs.{Collections}
use Rattle.oe_plan.specs.Plans.{IsPlan, PlanOf}
use Rattle.oe_sources.specs.Catalogue.{Row}
use Rattle.oe_sources.specs.CatalogueDims.{dims_of}
use Rattle.oe_spool.specs.Least.{least_over_of}
use Rattle.oe_engine.specs.Evaluations.{LeavesRun}
use Rattle.oe_engine.specs.Laws.{GivesCollections, LoadsVisible, collections_of}
use Rattle.oe_engine.specs.Results.{IsVisible, IsWithoutOver, OfMeaning, result_of}
use Rattle.oe_engine.specs.Runs.{HasDone, OfRun, RunOf, ShowsDone, chunk_total, result_cube}
use Rattle.oe_engine.proofs.LawLemmas.{begin_and_end}

-- what holds of bytes that are visible
pub shows_done : (r : RunOf) (store : Option (List ℕ)) (cube : Cube Cell) → IsVisible store → HasDone r store cube → ShowsDone r store cube
shows_done r None cube visible has = absurd visible
shows_done r (Some bytes) cube visible has = has

module _ (r after : RunOf) (rows rows_after : List Row) (store store_after : Option (List ℕ)) (given : GivesCollections rows)
    (rows_are : r.plan.graph.rows ≡ dims_of rows) (is : IsPlan r.plan) (goes : LeavesRun r after rows rows_after store store_after) where
  abbrev p : PlanOf
  p = r.plan

  abbrev shown : Collections
  shown = collections_of rows

  are : AreCollectionsOf p.graph shown
  are = given.valid p.graph rows_are

  has_done : LoadsVisible p.graph rows → HasDone after store_after (result_of rows p.graph)
  has_done visible = goes.values shown are (given.shown p.graph rows_are visible)

  -- ---- the look for a cell that is Over

  module _ (done : after.done ≡ chunk_total p) where
    pub over_is : LoadsVisible p.graph rows → after.over ≡ least_over_of (result_of rows p.graph).cells
    over_is visible =
        let same = goes.plan in
        begin_and_end.over after store_after shown (subst IsPlan (sym same) is)
        (subst (λ (q : PlanOf). AreCollectionsOf q.graph shown) (sym same) are) (done ∙ ap chunk_total (sym same))
        (subst (λ (q : PlanOf). HasDone after store_after (result_cube shown q)) (sym same) (has_done visible))
        ∙ ap (λ (q : PlanOf). least_over_of (result_cube shown q).cells) same

    pub without_over : after.over ≡ None → OfMeaning rows p.graph IsWithoutOver
    without_over none visible = sym (over_is visible) ∙ none

  -- what holds of the cube of the result holds of what the graph means
  pub of_meaning : (P : Cube Cell → Type 0) → OfRun after store_after P → IsVisible store → OfMeaning rows p.graph P
  of_meaning P h visible loads =
      let same = goes.plan in
      subst (λ (q : PlanOf). P (result_cube shown q)) same
      (h shown (subst (λ (q : PlanOf). AreCollectionsOf q.graph shown) (sym same) are)
      (subst (λ (q : PlanOf). ShowsDone after store_after (result_cube shown q)) (sym same)
      (shows_done after store_after (result_of rows p.graph) (goes.visible visible) (has_done loads))))

  pub hidden : store_after ≡ None → store ≡ None
  hidden none = by store refl
    where
      by : (s : Option (List ℕ)) → store ≡ s → store ≡ None
      by None e = e
      by (Some bytes) e =
          let visible : IsVisible store = subst IsVisible (sym e) tt in
          let after_none : IsVisible None = subst IsVisible none (goes.visible visible) in
          absurd after_none
