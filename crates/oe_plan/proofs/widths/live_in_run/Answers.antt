use Rattle.std.proofs.Common.{ℕ, List, ap, ◌∙◌, arith}
use Rattle.oe_order.specs.Graph.{Node}
use Rattle.oe_order.specs.Live.{live_count}
use Rattle.oe_check.specs.Links.{links_of}
use Rattle.oe_plan.proofs.widths.live_in_run.Goals as goal

pub live_count-requires : goal.live_count-requires
live_count-requires c = λ i below. omega (arith, c.requires.within i below, c.links.ensures.count)

pub returns-clause-value : goal.returns-clause-value
returns-clause-value c =
    let nodes = links_of c.args.checked.now.nodes in
    c.live_count.ensures.value
    ∙ (ap (λ (ns : List Node). live_count ns c.result.result c.args.steps.now c.args.step) c.links.ensures.links
    ∙ (ap (λ (last : ℕ). live_count nodes last c.args.steps.now c.args.step) c.result.ensures.value
    ∙ ap (λ (xs : List ℕ). live_count nodes c.args.checked.now.result xs c.args.step) c.requires.steps_are))
