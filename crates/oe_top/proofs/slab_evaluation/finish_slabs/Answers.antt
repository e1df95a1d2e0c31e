use Rattle.std.proofs.Common.{Result, Err, ap}
use Rattle.oe_steps.specs.declared.fail.RunFail.{RunFail}
use Rattle.oe_top.proofs.SlabRounds.{stopped_by_slabs}
use Rattle.oe_top.proofs.slab_evaluation.finish_slabs.Goals as goal

pub returns-in-Err : goal.returns-in-Err
returns-in-Err g c =
    let err : RunFail → Result (Unit {0}) RunFail = λ f. Err f in
    stopped_by_slabs _ _ _ _ _ _ _ _ c.in-Err.fail (λ over. c.in-Err.ensures.no_overflow over.0 (ap err over.1)) c.in-Err.ensures.through
