use Rattle.std.proofs.Common.{refl, sym, ap, ◌∙◌, subst}
use Rattle.oe_outside.proofs.Causes.{NeverFalls-refl}
use Rattle.oe_check.specs.Checked.{CheckedGraph}
use Rattle.oe_sources.specs.CatalogueDims.{AreDimsOf}
use Rattle.oe_sources.specs.CatalogueRows.{rows_of}
use Rattle.oe_top.proofs.Runs.{run_finished, run_stopped, run_too_large}
use Rattle.oe_top.proofs.run.run.Goals as goal

pub write_result-requires-clause-collections : goal.write_result-requires-clause-collections
write_result-requires-clause-collections g c κs within =
    let rows = rows_of (λ z. (goal.SharedSource-dyn g z).CubeSource.seen z.1) c.args.catalogue.now in
    let graph_is = c.in-Ok-begin.ensures.plan.graph_is in
    record {
      rows_are = ap (λ (k : CheckedGraph). k.rows) (graph_is ∙ c.in-Ok.ensures.judged.ends.text.checked_is);
      found = subst (λ (graph : CheckedGraph). AreDimsOf rows graph.rows) (sym graph_is) c.in-Ok.ensures.found;
      given = c.in-Ok.ensures.collections;
    }

pub returns-in-Ok-write_result : goal.returns-in-Ok-write_result
returns-in-Ok-write_result g c =
    run_finished c.args.sizes.0 c.args.sizes.1 _ _ c.in-Ok.checked c.in-Ok.ensures.judged.ends c.in-Ok-begin.run'.plan
    c.in-Ok-begin.ensures.plan (c.in-Ok-write_result.ensures _ _ _ _) c.in-Ok.ensures.judged.taken c.in-Ok.ensures.judged.count

pub returns-in-Ok-begin : goal.returns-in-Ok-begin
returns-in-Ok-begin g c =
    run_stopped c.args.sizes.0 c.args.sizes.1 _ _ c.in-Ok.checked c.in-Ok.ensures.judged.ends c.in-Ok-begin.run'.plan
    c.in-Ok-begin.ensures.plan c.in-Err-write_result.fail (c.in-Err-write_result.ensures _ _ _ _) c.in-Ok.ensures.judged.taken
    c.in-Ok.ensures.judged.count

pub returns-in-Err-TooLarge : goal.returns-in-Err-TooLarge
returns-in-Err-TooLarge g c = rw c.in-Err-TooLarge.field-0-is (
    run_too_large c.args.sizes.0 c.args.sizes.1 _ _ c.in-Ok.checked c.in-Ok.ensures.judged.ends c.in-Err-TooLarge.cells
    (c.in-Err-TooLarge.ensures.too_large c.in-Err-TooLarge.cells (let same = c.in-Err-TooLarge.field-0-is in cc))
    (record { out = refl; out_faults = refl; spool = refl; spool_faults = refl; collections = refl })
    c.in-Ok.ensures.judged.taken c.in-Ok.ensures.judged.count (NeverFalls-refl _) (NeverFalls-refl _))
