use Rattle.std.proofs.Common.{length, true≢false, sym, ap, ◌∙◌, arith}
use Rattle.oe_plan.proofs.WidenLemmas.{link_arguments, link_loads}
use Rattle.oe_plan.proofs.windows.argument_count.Goals as goal

pub returns-then-links-clause-all : goal.returns-then-links-clause-all
returns-then-links-clause-all c = λ works.
    let loads = link_loads c.args.checked.now c.links.result.now c.links.ensures.links c.links.ensures.count c.args.node c.requires c.index-links-node.result c.index-links-node.is in
    absurd (true≢false (sym c.if-links.true ∙ (sym loads ∙ works)))

pub returns-clause-none : goal.returns-clause-none
returns-clause-none c = λ loading.
    let loads = link_loads c.args.checked.now c.links.result.now c.links.ensures.links c.links.ensures.count c.args.node c.requires c.index-links-node.result c.index-links-node.is in
    absurd (true≢false (sym loading ∙ (loads ∙ c.if-links.false)))

pub returns-clause-all : goal.returns-clause-all
returns-clause-all c = λ works.
    let items = link_arguments c.args.checked.now c.links.result.now c.links.ensures.links c.links.ensures.count c.args.node c.requires c.index-links-node.result c.index-links-node.is in
    let ok = c.index-links-node.result.arguments.ok in
    let count = c.len.ensures in
    let long = ap length items in
    omega (arith, ok)
