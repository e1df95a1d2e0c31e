use Rattle.std.proofs.Common.{refl, sym, ap, ◌∙◌, subst}
use Rattle.oe_outside.proofs.Causes.{NeverFalls-refl}
use Rattle.oe_check.specs.Checked.{CheckedGraph}
use Rattle.oe_sources.specs.CatalogueDims.{AreDimsOf}
use Rattle.oe_sources.specs.CatalogueRows.{rows_of}
use Rattle.oe_top.proofs.Slabs.{slab_finished, slab_lacks_cut, slab_stopped, slab_too_large}
use Rattle.oe_top.proofs.slab.slab.Goals as goal

pub write_folded-requires-clause-collections : goal.write_folded-requires-clause-collections
write_folded-requires-clause-collections g c κs within =
    let rows = rows_of (λ z. (goal.SharedSource-dyn g z).CubeSource.seen z.1) c.args.catalogue.now in
    let graph_is = c.in-Ok-begin_slabs.ensures.plan.graph_is in
    record {
      rows_are = ap (λ (k : CheckedGraph). k.rows) (graph_is ∙ c.in-Ok.ensures.judged.ends.text.checked_is);
      found = subst (λ (graph : CheckedGraph). AreDimsOf rows graph.rows) (sym graph_is) c.in-Ok.ensures.found;
      given = c.in-Ok.ensures.collections;
    }

pub returns-in-Ok-write_folded : goal.returns-in-Ok-write_folded
returns-in-Ok-write_folded g c =
    slab_finished c.args.size _ _ c.in-Ok.checked c.in-Ok.ensures.judged.ends c.in-Ok-begin_slabs.run'.plan
    c.in-Ok-begin_slabs.ensures.plan (c.in-Ok-write_folded.ensures _ _ _ _) c.in-Ok.ensures.judged.taken c.in-Ok.ensures.judged.count

pub returns-in-Ok-begin_slabs : goal.returns-in-Ok-begin_slabs
returns-in-Ok-begin_slabs g c =
    slab_stopped c.args.size _ _ c.in-Ok.checked c.in-Ok.ensures.judged.ends c.in-Ok-begin_slabs.run'.plan
    c.in-Ok-begin_slabs.ensures.plan c.in-Err-write_folded.fail (c.in-Err-write_folded.ensures _ _ _ _) c.in-Ok.ensures.judged.taken
    c.in-Ok.ensures.judged.count

pub returns-in-Err-NoTimeFold : goal.returns-in-Err-NoTimeFold
returns-in-Err-NoTimeFold g c =
    slab_lacks_cut c.args.size _ _ c.in-Ok.checked c.in-Ok.ensures.judged.ends
    (record { out = refl; out_faults = refl; spool = refl; spool_faults = refl; collections = refl })
    c.in-Ok.ensures.judged.taken c.in-Ok.ensures.judged.count (NeverFalls-refl _) (NeverFalls-refl _)
    (c.in-Err-NoTimeFold.ensures.none (let same = c.in-Err-NoTimeFold.field-0-is in cc))

pub returns-in-Err-TooLarge : goal.returns-in-Err-TooLarge
returns-in-Err-TooLarge g c = rw c.in-Err-TooLarge.field-0-is (
    slab_too_large c.args.size _ _ c.in-Ok.checked c.in-Ok.ensures.judged.ends
    (record { out = refl; out_faults = refl; spool = refl; spool_faults = refl; collections = refl })
    c.in-Ok.ensures.judged.taken c.in-Ok.ensures.judged.count (NeverFalls-refl _) (NeverFalls-refl _)
    c.in-Err-TooLarge.cells
    (c.in-Err-TooLarge.ensures.too_large c.in-Err-TooLarge.cells (let same = c.in-Err-TooLarge.field-0-is in cc)))
