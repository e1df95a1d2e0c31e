use Rattle.std.proofs.Common.{true, refl, ap, ◌∙◌}
use Rattle.oe_plan.specs.Schedules.{as_load}
use Rattle.oe_slab.proofs.LinkLemmas.{replaced}
use Rattle.oe_slab.proofs.links.with_load_at.Goals as goal

pub returns-clause-graph : goal.returns-clause-graph
returns-clause-graph c =
    replaced c.in_ok-copies.copies.items c.args.node (record { load = true; arguments = c.new.result }) refl c.new.ensures.items
    ∙ ap (λ nodes. as_load nodes c.args.node) c.in_ok-copies.ensures.graph
