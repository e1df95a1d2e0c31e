use Rattle.std.proofs.Common.{◌≡◌, ◌∙◌, subst}
use Rattle.oe_slab.specs.Figures.{slab_bound}
use Rattle.oe_slab.specs.Runs.{SlabRunOf}
use Rattle.oe_slab.proofs.ResultLemmas.{holds_bound}
use Rattle.oe_slab.proofs.slab_run.SlabRun.cells.Goals as goal

pub returns : goal.returns
returns c =
    subst (λ (r : SlabRunOf). c.cells.result ≡ slab_bound r.plan.graph r.plan.size r.plan.fold) c.self.view_is
    (c.cells.ensures ∙ holds_bound c.self.inside.plan c.self.inside.workspace c.self.invariant.2)
