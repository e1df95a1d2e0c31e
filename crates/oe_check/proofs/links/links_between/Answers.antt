use Rattle.std.proofs.Common.{◌<◌, ◌≤◌, List, length, map, ap, ◌∙◌, refl, arith}
use Rattle.std.proofs.lemmas.List.{take_all}
use Rattle.oe_graph.specs.Plain.{plain_node, plain_nodes}
use Rattle.oe_graph.specs.declared.tree.Node.{Node}
use Rattle.oe_check.specs.Links.{link_of}
use Rattle.oe_graph.proofs.StateLemmas.{references_at}
use Rattle.oe_check.proofs.LinkLemmas.{node_item, node_read, link_parts, links_next, links_all, references_length}
use Rattle.oe_check.proofs.links.links_between.Goals as goal

pub index-requires : goal.index-requires
index-requires c =
    let ns = c.args.nodes.now.items in
    let long = references_length ns c.args.references.now.items c.requires.graph in
    omega (arith, long, c.loop-index-test.true, c.len-index-end.ensures, c.args.references.now.ok.0, c.args.nodes.now.ok.0)

pub loop-index-preserved : goal.loop-index-preserved
loop-index-preserved c =
    let ns = c.args.nodes.now.items in
    let all = plain_nodes ns in
    let i = c.loop-index.index in
    let read = c.args.references.now.items in
    let n : Node = c.index-in-loop-index.result.now in
    let link = c.in_ok-link.link in
    let below : i < length ns = omega (arith, c.loop-index-test.true, c.len-index-end.ensures, c.args.nodes.now.ok.0) in
    let long = references_length ns read c.requires.graph in
    links_next all ns i n c.loop-index.links.items c.push.new.self.items link below c.index-in-loop-index.ensures c.loop-index.invariant
    c.in_ok-push.ensures.items
    (link_parts all c.requires.resolved (plain_node n) (node_item ns ns i n refl below c.index-in-loop-index.ensures) link.load link.arguments.items
    c.in_ok-link.ensures.load
    (c.in_ok-link.ensures.arguments
    ∙ references_at all read i (plain_node n) c.index.result.now c.requires.graph (omega (arith, below, long)) c.index.ensures
    (node_read ns i n below c.index-in-loop-index.ensures)))

pub returns : goal.returns
returns c =
    let ns = c.args.nodes.now.items in
    let all : length ns ≤ c.loop-index.index = omega (arith, c.loop-index-test.false, c.len-index-end.ensures, c.args.nodes.now.ok.0) in
    c.loop-index.invariant
    ∙ (ap (λ (xs : List Node). map (link_of (plain_nodes ns)) (map plain_node xs)) (take_all c.loop-index.index ns all)
    ∙ links_all ns)
