use Rattle.std.proofs.Common.{◌≡◌, Err, refl, sym, ap, subst}
use Rattle.oe_slab.specs.Runs.{SlabRunOf}
use Rattle.oe_slab.specs.declared.plan.SlabPlanFail.TheVariants.{NoTimeFold}
use Rattle.oe_top.specs.SlabEvaluated.{IsSlabBegun, IsSlabPlanOf}
use Rattle.oe_top.proofs.slab_evaluation.begin_slabs.Goals as goal

pub returns-in-Err-clause-none : goal.returns-in-Err-clause-none
returns-in-Err-clause-none c = λ is.
    let same : c.in-Err.fail ≡ NoTimeFold = cc in
    c.in-Err.ensures.none (ap Err same)

pub returns-clause-begun : goal.returns-clause-begun
returns-clause-begun c =
    subst IsSlabBegun (sym c.start.ensures) (record { planned = c.in-Ok.ensures.valid; none_done = refl; none_over = refl })

pub returns-clause-plan : goal.returns-clause-plan
returns-clause-plan c =
    subst (λ (r : SlabRunOf). IsSlabPlanOf c.args.checked c.args.size r.plan) (sym c.start.ensures)
    (record { graph_is = c.in-Ok.ensures.graph; planned = c.in-Ok.ensures.valid; size_is = c.in-Ok.ensures.size })
