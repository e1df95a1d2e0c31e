use Rattle.std.proofs.Common.{◌<◌, ℕ, sym, subst}
use Rattle.oe_graph.specs.Printed.{node_count}
use Rattle.oe_slab.proofs.ScheduleLemmas.{last_below}
use Rattle.oe_slab.proofs.plan.SlabPlan.taken_shape.Goals as goal

pub shape-requires : goal.shape-requires
shape-requires c =
    let graph = c.self.inside.checked in
    let valid = c.self.invariant.plan in
    subst (λ (n : ℕ). n < node_count graph.nodes) (sym c.last.ensures)
    (last_below graph valid.faultless c.self.inside.cut.fold valid.cut c.self.inside.schedules.before valid.schedules.before_last)
