use Rattle.std.proofs.Common.{◌≡◌, arith}
use Rattle.oe_order.specs.Live.{width_of}
use Rattle.oe_plan.specs.Figures.{steps_of}
use Rattle.oe_check.specs.Links.{links_of}
use Rattle.oe_slab.specs.Schedules.{IsOrderAlong}
use Rattle.oe_slab.proofs.FoldLemmas.{before_is, fold_takes, of_taken}
use Rattle.oe_slab.proofs.ScheduleLemmas.{orders_along}
use Rattle.oe_slab.proofs.cut.order_before.Goals as goal

pub argument_of-taken-requires-clause-number : goal.argument_of-taken-requires-clause-number
argument_of-taken-requires-clause-number c =
    let one =
    fold_takes c.args.checked.now c.nodes-count.ensures.faultless c.args.fold c.requires.within
    (c.requires.reducer, c.requires.ignores_nulls) c.requires.folds in
    omega (arith, one)

pub returns-clause-steps : goal.returns-clause-steps
returns-clause-steps c =
    of_taken c.args.checked.now c.args.fold c.argument_of-taken.result c.order_to.result c.argument_of-taken.ensures.value
    (λ last o. o.steps ≡ steps_of (record c.args.checked.now { result = last })) c.order_to.ensures.steps

pub returns-clause-width : goal.returns-clause-width
returns-clause-width c =
    before_is c.args.checked.now c.args.fold c.order_to.result
    (of_taken c.args.checked.now c.args.fold c.argument_of-taken.result c.order_to.result c.argument_of-taken.ensures.value
    (λ last o. o.steps ≡ steps_of (record c.args.checked.now { result = last })) c.order_to.ensures.steps)
    (of_taken c.args.checked.now c.args.fold c.argument_of-taken.result c.order_to.result c.argument_of-taken.ensures.value
    (λ last o. o.width ≡ width_of (links_of c.args.checked.now.nodes) last o.steps) c.order_to.ensures.width)

pub returns-clause-along : goal.returns-clause-along
returns-clause-along c =
    let nodes = links_of c.args.checked.now.nodes in
    of_taken c.args.checked.now c.args.fold c.argument_of-taken.result c.order_to.result c.argument_of-taken.ensures.value
    (λ last o. IsOrderAlong nodes last o)
    (orders_along nodes c.argument_of-taken.result c.order_to.result c.order_to.ensures.listing c.order_to.ensures.evaluation c.order_to.ensures.slots)
