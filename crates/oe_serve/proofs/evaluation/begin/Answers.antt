use Rattle.oe_serve.proofs.Loads.{begun_by}
use Rattle.oe_serve.proofs.evaluation.begin.Goals as goal

pub returns-clause-begun : goal.returns-clause-begun
returns-clause-begun g c =
    begun_by c.args.checked c.args.sizes.0 c.args.sizes.1 c.args.base c.in_ok-plan.plan c.in_ok-plan.ensures.graph
    c.in_ok-plan.ensures.valid c.in_ok-plan.ensures.size c.in_ok-plan.ensures.workers c.start.result c.start.ensures
