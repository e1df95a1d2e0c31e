use Rattle.std.proofs.Common.{◌≡◌, ◌<◌, Some, None, ap, sym, ◌∙◌, subst}
use Rattle.oe_dims.specs.Dimensions.{Dimensions, number_labels}
use Rattle.oe_dims.specs.declared.kind.Kind.TheVariants.{Time}
use Rattle.oe_graph.specs.Plain.{plain_node}
use Rattle.oe_graph.specs.Printed.{node_count}
use Rattle.oe_expr.proofs.NodeLemmas.{contains_node}
use Rattle.oe_check.specs.Checked.{outline_of_node}
use Rattle.oe_check.specs.Links.{index_named}
use Rattle.oe_translate.proofs.PartLemmas.{data_at}
use Rattle.oe_translate.proofs.rewrite.data_shape.Goals as goal

pub unreachable-requires : goal.unreachable-requires
unreachable-requires c =
    let graph = c.args.checked.now in
    let n = plain_node c.args.node.now in
    let d = data_at graph c.requires.faultless n (contains_node graph.nodes c.args.index n c.requires.there) c.requires.either in
    let same : c.in-Some.id.now ≡ d.id = let one = c.in-Some.ensures in let two = d.reads in cc in
    let wrong : None ≡ Some d.index = c.in-None-find.ensures ∙ (ap (index_named graph.nodes) same ∙ d.is_named) in
    absurd cc

pub unreachable-requires-in-None : goal.unreachable-requires-in-None
unreachable-requires-in-None c =
    let graph = c.args.checked.now in
    let n = plain_node c.args.node.now in
    let d = data_at graph c.requires.faultless n (contains_node graph.nodes c.args.index n c.requires.there) c.requires.either in
    let one = c.in-None.ensures in
    let two = d.reads in
    absurd cc

pub shape-requires : goal.shape-requires
shape-requires c =
    let graph = c.args.checked.now in
    let n = plain_node c.args.node.now in
    let d = data_at graph c.requires.faultless n (contains_node graph.nodes c.args.index n c.requires.there) c.requires.either in
    let same : c.in-Some.id.now ≡ d.id = let one = c.in-Some.ensures in let two = d.reads in cc in
    let found : Some c.in-Some-find.data ≡ Some d.index = c.in-Some-find.ensures ∙ (ap (index_named graph.nodes) same ∙ d.is_named) in
    let index : c.in-Some-find.data ≡ d.index = cc in
    subst (λ k. k < node_count graph.nodes) (sym index) d.below

pub returns : goal.returns
returns c =
    let graph = c.args.checked.now in
    let n = plain_node c.args.node.now in
    let d = data_at graph c.requires.faultless n (contains_node graph.nodes c.args.index n c.requires.there) c.requires.either in
    let same : c.in-Some.id.now ≡ d.id = let one = c.in-Some.ensures in let two = d.reads in cc in
    let found : Some c.in-Some-find.data ≡ Some d.index = c.in-Some-find.ensures ∙ (ap (index_named graph.nodes) same ∙ d.is_named) in
    let index : c.in-Some-find.data ≡ d.index = cc in
    record {
      value = ap (λ (s : Dimensions). number_labels s Time) c.shape.ensures
          ∙ (ap (λ k. number_labels (outline_of_node graph k).shape Time) index ∙ d.labels);
    }
