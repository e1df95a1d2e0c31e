use Rattle.std.proofs.Common.{sym, ◌∙◌, arith}
use Rattle.oe_order.specs.Graph.{graph_of}
use Rattle.oe_order.proofs.Lives.{taken_from-end}
use Rattle.oe_plan.proofs.WidthLemmas.{not_taken_here, taken_here}
use Rattle.oe_plan.proofs.widths.is_taken_from.Goals as goal

pub loop-later-preserved : goal.loop-later-preserved
loop-later-preserved c =
    let s = c.loop-later.later in
    c.loop-later.invariant
    ∙ not_taken_here c.args.links.now c.args.steps.now s c.args.node c.index-links-steps.result (omega arith)
    (c.requires s (omega arith)) c.index-links-steps.is (sym c.if-takes.false ∙ c.takes.ensures)

pub returns-then-takes : goal.returns-then-takes
returns-then-takes c =
    let s = c.loop-later.later in
    sym (c.loop-later.invariant
    ∙ taken_here c.args.links.now c.args.steps.now s c.args.node c.index-links-steps.result (omega arith)
    (c.requires s (omega arith)) c.index-links-steps.is (sym c.if-takes.true ∙ c.takes.ensures))

pub returns : goal.returns
returns c =
    sym (c.loop-later.invariant
    ∙ taken_from-end (graph_of c.args.links.now) c.args.steps.now c.loop-later.later c.args.node (omega arith))
