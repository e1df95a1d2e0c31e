use Rattle.std.proofs.Common.{sym, ap, ◌∙◌, arith}
use Rattle.oe_order.specs.declared.Links.{Links}
use Rattle.oe_steps.proofs.RunLemmas.{link_is}
use Rattle.oe_steps.proofs.run.loads_collection.Goals as goal

pub returns : goal.returns
returns c =
    sym (link_is c.args.checked.now c.links.result.now c.args.node c.index-links-node.result c.links.ensures.links
    (omega (arith, c.links.ensures.count, c.requires)) c.index-links-node.is
    ∙ ap (λ (l : Links). l.load) c.index-links-node.is)
