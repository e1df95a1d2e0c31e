use Rattle.std.proofs.Common.{length, sym, ap, ◌∙◌, subst, arith}
use Rattle.oe_graph.specs.Plain.{plain_nodes}
use Rattle.oe_graph.proofs.ReferenceGraphLemmas.{nodes_sorted, reference_count, reference_no_loads, reference_within}
use Rattle.oe_graph.proofs.SearchLemmas.{node_count-plain}
use Rattle.oe_order.specs.Graph.{graph_of, RefersWithin}
use Rattle.oe_order.specs.Sorted.{AreNoLoads}
use Rattle.oe_order.proofs.Graphs.{length-graph_of}
use Rattle.oe_graph.proofs.references.sort_nodes.Goals as goal

pub sort-requires-clause-few : goal.sort-requires-clause-few
sort-requires-clause-few c =
    let is = ap graph_of c.as_slice.ensures.value ∙ c.in_ok-references.ensures.graph in
    omega (
      arith,
      c.in_ok-references.ensures.few,
      length-graph_of c.as_slice.result.now,
      ap length is,
      reference_count (plain_nodes c.args.nodes.now.items),
      node_count-plain c.args.nodes.now.items,
    )

pub sort-requires-clause-named : goal.sort-requires-clause-named
sort-requires-clause-named c =
    subst RefersWithin (sym (ap graph_of c.as_slice.ensures.value ∙ c.in_ok-references.ensures.graph))
    (reference_within (plain_nodes c.args.nodes.now.items))

pub sort-requires-clause-no_loads : goal.sort-requires-clause-no_loads
sort-requires-clause-no_loads c =
    subst AreNoLoads (sym (ap graph_of c.as_slice.ensures.value ∙ c.in_ok-references.ensures.graph))
    (reference_no_loads (plain_nodes c.args.nodes.now.items))

pub returns-clause-sorted : goal.returns-clause-sorted
returns-clause-sorted c =
    nodes_sorted (plain_nodes c.args.nodes.now.items) c.requires.acyclic c.as_slice.result.now c.in_ok-indices.indices.items
    (ap graph_of c.as_slice.ensures.value ∙ c.in_ok-references.ensures.graph) c.in_ok-indices.ensures.sorted c.in_ok-indices.ensures.all
