use Rattle.std.proofs.Common.{List, ℕ, ap, sym, ◌∙◌}
use Rattle.std.specs.Prelude.{codes}
use Rattle.oe_dims.specs.Names.{same_name}
use Rattle.oe_graph.specs.Tree.{PlainNode}
use Rattle.oe_graph.proofs.PartLemmas.{node_parts}
use Rattle.oe_translate.proofs.rewrite.is_of_sums.Goals as goal

pub returns : goal.returns
returns c =
    c.is_named.ensures
    ∙ ap (λ (id : List ℕ). same_name id (codes "apply_dimension"))
    (c.as_str.ensures ∙ sym (ap (λ (m : PlainNode). m.process_id) (node_parts c.args.node.now)))
