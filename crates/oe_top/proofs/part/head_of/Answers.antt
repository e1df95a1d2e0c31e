use Rattle.std.proofs.Common.{ℕ, sym, ap, ◌∙◌, subst}
use Rattle.oe_dims.specs.Dimensions.{IsShape}
use Rattle.oe_check.specs.Checked.{outline_of_node}
use Rattle.oe_top.proofs.PartHeads.{head_made}
use Rattle.oe_top.proofs.part.head_of.Goals as goal

pub text_of-requires : goal.text_of-requires
text_of-requires c = c.requires.text.1.reads.is_read.utf8

pub returns-clause-valid : goal.returns-clause-valid
returns-clause-valid c =
    let checked = c.args.checked.now in
    head_made c.requires.text.0 c.args.graph.now c.in_ok-graph.graph checked c.args.size c.args.chunks.0 c.args.chunks.1
    c.kind-kind.result c.in_ok-shape.shape c.requires.text.1 c.requires.sides c.requires.chunks c.in_ok-graph.ensures
    (c.kind-kind.ensures ∙ ap (λ (n : ℕ). (outline_of_node checked n).kind) c.result-node.ensures.value)
    (c.in_ok-shape.ensures ∙ c.shape-shape.ensures ∙ ap (λ (n : ℕ). (outline_of_node checked n).shape) c.result-node.ensures.value)
    (subst IsShape (sym c.in_ok-shape.ensures) c.epsg-epsg.ensures.valid)
