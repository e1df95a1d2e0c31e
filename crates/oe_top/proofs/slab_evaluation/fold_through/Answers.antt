use Rattle.std.proofs.Common.{◌<◌, arith}
use Rattle.oe_slab.specs.Runs.{chunk_total}
use Rattle.oe_top.proofs.SlabRounds.{all_folded, mounted_by_slabs, no_overflow_says, one_more_slab, refused_by_slabs}
use Rattle.oe_top.proofs.slab_evaluation.fold_through.Goals as goal

pub round-requires : goal.round-requires
round-requires g c = record {
  mounted = mounted_by_slabs c.reads_change_nothing.ensures c.loop-chunk.invariant c.requires.mounted;
}

pub returns-in-Err-clause-through : goal.returns-in-Err-clause-through
returns-in-Err-clause-through g c =
    refused_by_slabs _ _ _ _ _ _ _ _ _ _ _ _ _ c.reads_change_nothing.ensures c.loop-chunk.invariant
    c.in-Err.fail c.in-Err.ensures.advances c.in-Err.ensures.writes c.in-Err.ensures.reads c.in-Err.ensures.causes

pub returns-in-Err-clause-no_overflow : goal.returns-in-Err-clause-no_overflow
returns-in-Err-clause-no_overflow g c = no_overflow_says _ _ _ _ _ c.in-Err.fail c.in-Err.ensures.causes

pub loop-chunk-preserved : goal.loop-chunk-preserved
loop-chunk-preserved g c =
    let total = c.chunks-chunks.ensures.value in
    let left : c.loop-chunk.chunk < chunk_total c.args.run.now.plan = omega (arith, total) in
    one_more_slab _ _ _ _ _ _ _ _ _ _ _ _ _ c.reads_change_nothing.ensures c.loop-chunk.invariant
    _ c.in-Ok.ensures.advances c.in-Ok.ensures.writes c.in-Ok.ensures.reads c.in-Ok.ensures.causes.spool_cause.count left

pub returns-clause-through : goal.returns-clause-through
returns-clause-through g c =
    let total = c.chunks-chunks.ensures.value in
    all_folded _ _ _ _ _ _ _ _ _ c.loop-chunk.invariant (omega (arith, total, c.loop-chunk.auto.chunk-end, c.loop-chunk-test.false))
