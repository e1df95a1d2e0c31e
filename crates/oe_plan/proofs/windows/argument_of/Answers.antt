use Rattle.std.proofs.Common.{◌<◌, length, ap, ◌∙◌, subst, arith}
use Rattle.std.specs.Vec.{vec_len}
use Rattle.oe_order.specs.declared.Links.{Links}
use Rattle.oe_plan.specs.Steps.{arguments_of_node}
use Rattle.oe_plan.proofs.WidenLemmas.{argument_read, argument_within, link_arguments}
use Rattle.oe_plan.proofs.windows.argument_of.Goals as goal

pub index-requires : goal.index-requires
index-requires c =
    let items = link_arguments c.args.checked.now c.links.result.now c.links.ensures.links c.links.ensures.count c.args.node c.requires.node c.index-links-node.result c.index-links-node.is in
    let ok = c.index-links-node.result.arguments.ok in
    let under = c.requires.number in
    let long = ap length items in
    let inside : c.args.number < vec_len c.index-links-node.result.arguments = omega (arith, ok) in
    subst (λ (link : Links). c.args.number < vec_len link.arguments) c.index-links-node.is inside

pub returns-clause-value : goal.returns-clause-value
returns-clause-value c =
    let items = link_arguments c.args.checked.now c.links.result.now c.links.ensures.links c.links.ensures.count c.args.node c.requires.node c.index-links-node.result c.index-links-node.is in
    argument_read (arguments_of_node c.args.checked.now c.args.node) _ c.args.number c.index.result.now
    (items ∙ ap (λ (link : Links). link.arguments.items) c.index-links-node.is) c.requires.number c.index.ensures

pub returns-clause-within : goal.returns-clause-within
returns-clause-within c =
    let items = link_arguments c.args.checked.now c.links.result.now c.links.ensures.links c.links.ensures.count c.args.node c.requires.node c.index-links-node.result c.index-links-node.is in
    let value = argument_read (arguments_of_node c.args.checked.now c.args.node) _ c.args.number c.index.result.now
    (items ∙ ap (λ (link : Links). link.arguments.items) c.index-links-node.is) c.requires.number c.index.ensures in
    argument_within c.args.checked.now c.links.result.now c.links.ensures.links c.links.ensures.count c.args.node c.requires.node c.args.number c.index.result.now c.links.ensures.named value
