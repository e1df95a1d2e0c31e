use Rattle.std.proofs.Common.{length, ap, ◌∙◌, arith}
use Rattle.oe_order.specs.Graph.{graph_of}
use Rattle.oe_slab.proofs.LinkLemmas.{copied_more}
use Rattle.oe_slab.proofs.links.copy_all.Goals as goal

pub loop-link-preserved : goal.loop-link-preserved
loop-link-preserved c = (
  ap graph_of c.in_ok-push.ensures.items
      ∙ copied_more c.args.links.now c.loop-link.copies.items c.loop-link.link-index c.link-item.result c.in_ok-copied.copied
      (omega arith) c.link-item.is c.in_ok-copied.ensures.load c.in_ok-copied.ensures.arguments c.loop-link.invariant.0,
  omega (arith, ap length c.in_ok-push.ensures.items, c.loop-link.invariant.1, c.in_ok-push.ensures.len),
)
