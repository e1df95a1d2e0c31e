use Rattle.std.proofs.Common.{refl}
use Rattle.std.proofs.lemmas.Result.{err_from_is_err_and}
use Rattle.oe_parts.specs.Whole.{RunOutline}
use Rattle.oe_sources.specs.CatalogueRows.{rows_of}
use Rattle.oe_top.proofs.Joins.{join_ends, join_lacks_memory, join_refused, join_refuses, run_of, same_run}
use Rattle.oe_top.specs.Objects.{objects}
use Rattle.oe_top.proofs.join.join.Goals as goal

pub refusal_of_misfit-requires : goal.refusal_of_misfit-requires
refusal_of_misfit-requires g c =
    let run : RunOutline = run_of c.deref.result.now c.kind.result c.shape-shape.result.now in (run, c.in-Err-fit.ensures.misfit)

pub write_joined-requires : goal.write_joined-requires
write_joined-requires g c =
    let run : RunOutline = run_of c.deref.result.now c.kind.result c.shape-shape.result.now in (run, refl, c.in-Ok-fit.ensures.whole)

pub returns-in-Err : goal.returns-in-Err
returns-in-Err g c =
    join_refused c.args.parts.now _ _ c.judge_and_keep.ensures.taken c.judge_and_keep.ensures.count
    (record { out = refl; out_faults = refl; spool = refl; spool_faults = refl; collections = refl })
    c.in-Err.refusal c.in-Err.ensures.refused

pub returns-in-Err-fit : goal.returns-in-Err-fit
returns-in-Err-fit g c =
    join_refuses c.args.parts.now _ _ c.judge_and_keep.ensures.taken c.judge_and_keep.ensures.count
    (record { out = refl; out_faults = refl; spool = refl; spool_faults = refl; collections = refl })
    c.in-Ok.judged.1.items c.in-Ok.judged.0 c.in-Ok.ensures.text
    (run_of c.deref.result.now c.kind.result c.shape-shape.result.now)
    (same_run c.deref.result.now c.kind.result c.shape-shape.result.now c.result-node.result c.in-Ok.judged.1.items c.in-Ok.judged.0
    c.result-node.ensures.value c.deref.ensures.value c.kind.ensures c.shape-shape.ensures)
    c.in-Err-fit.misfit c.in-Err-fit.ensures.misfit c.refusal_of_misfit.result c.refusal_of_misfit.ensures

pub returns-in_err-pending : goal.returns-in_err-pending
returns-in_err-pending g c =
    let rows = rows_of (λ z. (goal.SharedSource-dyn g z).CubeSource.seen z.1) c.args.catalogue.now in
    let before = objects (g.I.Source.left c.args.input.now) (g.I.Source.faults c.args.input.now) (g.O.Sink.written c.args.out.now)
    (g.O.Sink.faults c.args.out.now) (g.P.Store.bytes c.args.spool.now) (g.P.Store.faults c.args.spool.now) rows in
    let after = objects (g.I.Source.left c.judge_and_keep.new.input) (g.I.Source.faults c.judge_and_keep.new.input)
    (g.O.Sink.written c.args.out.now) (g.O.Sink.faults c.args.out.now) (g.P.Store.bytes c.args.spool.now)
    (g.P.Store.faults c.args.spool.now) rows in
    let p = err_from_is_err_and c.from_residual.result c.from_residual.ensures.1 in
    rw (p.1, p.2)
    (join_lacks_memory c.args.parts.now before after c.judge_and_keep.ensures.taken c.judge_and_keep.ensures.count
    (record { out = refl; out_faults = refl; spool = refl; spool_faults = refl; collections = refl }))

pub returns : goal.returns
returns g c =
    join_ends c.args.parts.now c.write_joined.new.parts _ _ c.in-Ok.judged.1.items c.in-Ok.judged.0 c.in-Ok.ensures.text
    c.judge_and_keep.ensures.taken c.judge_and_keep.ensures.count refl
    (run_of c.deref.result.now c.kind.result c.shape-shape.result.now)
    (same_run c.deref.result.now c.kind.result c.shape-shape.result.now c.result-node.result c.in-Ok.judged.1.items c.in-Ok.judged.0
    c.result-node.ensures.value c.deref.ensures.value c.kind.ensures c.shape-shape.ensures)
    c.in-Ok-fit.ensures.whole c.write_joined.result (c.write_joined.ensures.ends _ _ _ _ _)
    c.write_joined.ensures.read c.write_joined.ensures.out_count c.write_joined.ensures.spool_count
