use Rattle.std.proofs.Common.{◌≡◌, true, false, length, replicate, sym, ap, ◌∙◌, subst, rules, arith}
use Rattle.oe_graph.specs.Indices.{reference_graph}
use Rattle.oe_graph.specs.Plain.{plain_nodes}
use Rattle.oe_graph.specs.References.{each_node}
use Rattle.oe_graph.proofs.ReferenceGraphLemmas.{reference_count, reference_no_loads, reference_within}
use Rattle.oe_graph.proofs.SearchLemmas.{ids_count, ids_length, node_count-plain}
use Rattle.oe_order.specs.Graph.{graph_of, IsAcyclic, RefersWithin}
use Rattle.oe_order.specs.Sorted.{AreNoLoads}
use Rattle.oe_order.proofs.Graphs.{length-graph_of}
use Rattle.oe_resolve.specs.NameFaults.{AreMarks}
use Rattle.oe_resolve.proofs.CycleLemmas.{LeadBack, marks_from, back_none, back_push, replicate_length}
use Rattle.oe_resolve.proofs.cycle.cyclic_marks.Goals as goal

pub returns-then-branch-clause-exact : goal.returns-then-branch-clause-exact
returns-then-branch-clause-exact c rise =
    let nodes = plain_nodes c.args.nodes.now.items in
    let is : c.in_ok-vec.field-0.items ≡ replicate c.len.result false = c.in_ok-vec.ensures.items_if_clones_equal (λ y h. search rules) in
    let acyclic : IsAcyclic (reference_graph nodes) =
    subst IsAcyclic c.requires.graph (c.in_ok-has_no_cycle.ensures.0 c.if-branch.true) in
    let long : c.len.result ≡ length (each_node nodes) =
    omega (arith, c.len.ensures, ids_length nodes, ids_count c.args.nodes.now.items) in
    subst (λ ms. AreMarks true nodes ms) (sym is)
    (marks_from nodes (replicate c.len.result false) rise (replicate_length c.len.result ∙ long)
    (back_none (reference_graph nodes) c.len.result acyclic))

pub has_no_cycle-requires-clause-few : goal.has_no_cycle-requires-clause-few
has_no_cycle-requires-clause-few c =
    let nodes = plain_nodes c.args.nodes.now.items in
    omega (
      arith,
      c.requires.few,
      length-graph_of c.args.links.now,
      ap length c.requires.graph,
      reference_count nodes,
      node_count-plain c.args.nodes.now.items,
    )

pub has_no_cycle-requires-clause-named : goal.has_no_cycle-requires-clause-named
has_no_cycle-requires-clause-named c =
    subst RefersWithin (sym c.requires.graph) (reference_within (plain_nodes c.args.nodes.now.items))

pub has_no_cycle-requires-clause-no_loads : goal.has_no_cycle-requires-clause-no_loads
has_no_cycle-requires-clause-no_loads c =
    subst AreNoLoads (sym c.requires.graph) (reference_no_loads (plain_nodes c.args.nodes.now.items))

pub leads_back-requires-clause-node_named : goal.leads_back-requires-clause-node_named
leads_back-requires-clause-node_named c =
    let nodes = plain_nodes c.args.nodes.now.items in
    omega (
      arith,
      length-graph_of c.args.links.now,
      ap length c.requires.graph,
      reference_count nodes,
      node_count-plain c.args.nodes.now.items,
      c.len-index-end.ensures,
      c.loop-index-test.true,
    )

pub leads_back-requires-clause-named : goal.leads_back-requires-clause-named
leads_back-requires-clause-named c =
    subst RefersWithin (sym c.requires.graph) (reference_within (plain_nodes c.args.nodes.now.items))

pub loop-index-preserved : goal.loop-index-preserved
loop-index-preserved c =
    back_push (graph_of c.args.links.now) c.loop-index.marks.items c.push.new.self.items c.in_ok-leads_back.field-0 c.loop-index.index
    c.loop-index.invariant.0 c.in_ok-push.ensures.items c.loop-index.invariant.1 c.in_ok-leads_back.ensures

pub returns-clause-exact : goal.returns-clause-exact
returns-clause-exact c rise =
    let nodes = plain_nodes c.args.nodes.now.items in
    marks_from nodes c.loop-index.marks.items rise
    (omega (arith, c.loop-index.invariant.0, c.loop-index-test.false, c.len-index-end.ensures, c.loop-index.auto.index-end, ids_length nodes, ids_count c.args.nodes.now.items))
    (subst (λ xs. LeadBack xs c.loop-index.marks.items) c.requires.graph c.loop-index.invariant.1)
