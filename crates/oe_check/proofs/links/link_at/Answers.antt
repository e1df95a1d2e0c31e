use Rattle.std.proofs.Common.{ap, ◌∙◌, sym, List, ℕ, bytes_eq, codes}
use Rattle.oe_dims.proofs.OrderLemmas.{same_name-bytes_eq}
use Rattle.oe_dims.specs.Names.{same_name}
use Rattle.oe_graph.specs.Tree.{PlainNode}
use Rattle.oe_graph.proofs.PartLemmas.{node_parts}
use Rattle.oe_check.proofs.links.link_at.Goals as goal

pub returns-clause-load : goal.returns-clause-load
returns-clause-load c =
    let node = c.args.node.now in
    c.eq.ensures
    ∙ (ap (λ (text : List ℕ). bytes_eq text (codes "load_collection")) c.as_str.ensures
    ∙ (same_name-bytes_eq node.process_id (codes "load_collection")
    ∙ ap (λ (n : PlainNode). same_name n.process_id (codes "load_collection")) (sym (node_parts node))))
