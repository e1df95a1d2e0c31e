use Rattle.std.proofs.Common.{◌+◌, refl, sym, ap, ◌∙◌, subst}
use Rattle.oe_outside.proofs.Causes.{NeverFalls-refl}
use Rattle.oe_parts.specs.Head.{PartHead}
use Rattle.oe_check.specs.Checked.{CheckedGraph}
use Rattle.oe_sources.specs.CatalogueDims.{AreDimsOf, dims_of}
use Rattle.oe_sources.specs.CatalogueRows.{rows_of}
use Rattle.oe_top.proofs.PartHeads.{head_of_run, head_valid_for, sides_valid}
use Rattle.oe_top.proofs.Parts.{chunks_finished, chunks_stopped, of_same_part, part_lacks_chunks, part_too_large}
use Rattle.oe_top.proofs.part.part.Goals as goal

pub are_chunks_of-requires : goal.are_chunks_of-requires
are_chunks_of-requires g c = sides_valid c.args.sizes.0 c.args.sizes.1 c.requires

pub head_of-requires-clause-text : goal.head_of-requires-clause-text
head_of-requires-clause-text g c =
    (dims_of (rows_of (λ z. (goal.SharedSource-dyn g z).CubeSource.seen z.1) c.args.catalogue.now), rw c.deref.ensures.value c.in-Ok.ensures.text.1)

pub head_of-requires-clause-sides : goal.head_of-requires-clause-sides
head_of-requires-clause-sides g c = sides_valid c.args.sizes.0 c.args.sizes.1 c.requires

pub write_chunks-requires-clause-head : goal.write_chunks-requires-clause-head
write_chunks-requires-clause-head g c κs within =
    let run = c.in-Ok-begin_part.run' in
    let begun = c.in-Ok-begin_part.ensures in
    head_of_run c.in_ok-head.head _ _ _ _ _ _ _ _ _ c.in_ok-head.ensures.head begun.plan.graph_is begun.plan.size_is begun.first begun.end

pub write_chunks-requires-clause-collections : goal.write_chunks-requires-clause-collections
write_chunks-requires-clause-collections g c κs within =
    let rows = rows_of (λ z. (goal.SharedSource-dyn g z).CubeSource.seen z.1) c.args.catalogue.now in
    let graph_is = c.in-Ok-begin_part.ensures.plan.graph_is in
    record {
      rows_are = ap (λ (k : CheckedGraph). k.rows) (graph_is ∙ c.in-Ok.ensures.text.1.checked_is);
      found = subst (λ (graph : CheckedGraph). AreDimsOf rows graph.rows) (sym graph_is) c.in-Ok.ensures.found;
      given = c.in-Ok.ensures.collections;
    }

pub returns-in-Ok-write_chunks : goal.returns-in-Ok-write_chunks
returns-in-Ok-write_chunks g c =
    let run = c.in-Ok-begin_part.run' in
    let begun = c.in-Ok-begin_part.ensures in
    chunks_finished c.args.sizes.0 c.args.sizes.1 c.args.chunks.0 c.args.chunks.1 _ _ c.in-Ok.judged.1.items c.in-Ok.judged.0
    c.in-Ok.ensures.text c.judge_and_keep.ensures.taken c.judge_and_keep.ensures.count (c.are_chunks_of.ensures.0 c.if-not-are_chunks_of.false)
    (head_valid_for c.in_ok-head.head _ _ _ _ _ _ c.deref.ensures.value c.in_ok-head.ensures.head c.in_ok-head.ensures.valid)
    run.plan begun.plan
    (of_same_part _ _ run.plan.graph run.plan.size _ run.first _ (run.first + run.count) _ _ _
    (ap (λ (h : PartHead). h.graph) c.in_ok-head.ensures.head ∙ c.deref.ensures.value) begun.first begun.end
    (c.in-Ok-write_chunks.ensures _ _ _ _))

pub returns-in-Ok-begin_part : goal.returns-in-Ok-begin_part
returns-in-Ok-begin_part g c =
    let run = c.in-Ok-begin_part.run' in
    let begun = c.in-Ok-begin_part.ensures in
    chunks_stopped c.args.sizes.0 c.args.sizes.1 c.args.chunks.0 c.args.chunks.1 _ _ c.in-Ok.judged.1.items c.in-Ok.judged.0
    c.in-Ok.ensures.text c.judge_and_keep.ensures.taken c.judge_and_keep.ensures.count (c.are_chunks_of.ensures.0 c.if-not-are_chunks_of.false)
    (head_valid_for c.in_ok-head.head _ _ _ _ _ _ c.deref.ensures.value c.in_ok-head.ensures.head c.in_ok-head.ensures.valid)
    run.plan begun.plan c.in-Err-write_chunks.fail
    (of_same_part _ _ run.plan.graph run.plan.size _ run.first _ (run.first + run.count) _ _ _
    (ap (λ (h : PartHead). h.graph) c.in_ok-head.ensures.head ∙ c.deref.ensures.value) begun.first begun.end
    (c.in-Err-write_chunks.ensures _ _ _ _))

pub returns-then-not-are_chunks_of : goal.returns-then-not-are_chunks_of
returns-then-not-are_chunks_of g c =
    part_lacks_chunks c.args.sizes.0 c.args.sizes.1 c.args.chunks.0 c.args.chunks.1 _ _ c.in-Ok.judged.1.items c.in-Ok.judged.0
    c.in-Ok.ensures.text c.judge_and_keep.ensures.taken c.judge_and_keep.ensures.count
    (record { out = refl; out_faults = refl; spool = refl; spool_faults = refl; collections = refl })
    (NeverFalls-refl _) (NeverFalls-refl _)
    (λ are. cc (c.are_chunks_of.ensures.1 are, c.if-not-are_chunks_of.true))

pub returns-in-Err-TooLarge : goal.returns-in-Err-TooLarge
returns-in-Err-TooLarge g c = rw c.in-Err-TooLarge.field-0-is (
    part_too_large c.args.sizes.0 c.args.sizes.1 c.args.chunks.0 c.args.chunks.1 _ _ c.in-Ok.judged.1.items c.in-Ok.judged.0
    c.in-Ok.ensures.text c.judge_and_keep.ensures.taken c.judge_and_keep.ensures.count
    (record { out = refl; out_faults = refl; spool = refl; spool_faults = refl; collections = refl })
    (NeverFalls-refl _) (NeverFalls-refl _) (c.are_chunks_of.ensures.0 c.if-not-are_chunks_of.false) c.in-Err-TooLarge.cells
    (c.in-Err-TooLarge.ensures.too_large c.in-Err-TooLarge.cells (let same = c.in-Err-TooLarge.field-0-is in cc)))
