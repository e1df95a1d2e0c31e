use Rattle.std.proofs.Common.{◌≡◌, Option, None, sym, subst}
use Rattle.oe_dims.specs.Plain.{plain_rows}
use Rattle.oe_graph.specs.Indices.{AreNodesSorted}
use Rattle.oe_graph.specs.Plain.{plain_nodes}
use Rattle.oe_graph.specs.declared.fault.Fault.{Fault}
use Rattle.oe_graph.specs.declared.tree.Graph.{out-Graph}
use Rattle.oe_check.specs.Walked.{IsChecked}
use Rattle.oe_check.proofs.CheckLemmas.{none_stands, nodes_acyclic, nodes_resolved, all_kept, given_faultless}
use Rattle.oe_check.proofs.graph_check.check.Goals as goal

pub sort_nodes-requires : goal.sort_nodes-requires
sort_nodes-requires c = record { acyclic = nodes_acyclic c.args.graph.now c.requires.resolved }

pub walk_nodes-requires-clause-sorted : goal.walk_nodes-requires-clause-sorted
walk_nodes-requires-clause-sorted c =
    subst (AreNodesSorted (plain_nodes (out-Graph c.args.graph.now).nodes.items)) (sym c.as_slice-indices.ensures.value) c.in_ok-sorted.ensures.sorted

pub links_between-requires-clause-resolved : goal.links_between-requires-clause-resolved
links_between-requires-clause-resolved c = nodes_resolved c.args.graph.now c.requires.resolved

pub walk_nodes-requires-clause-resolved : goal.walk_nodes-requires-clause-resolved
walk_nodes-requires-clause-resolved c = nodes_resolved c.args.graph.now c.requires.resolved

pub of-requires : goal.of-requires
of-requires c =
    let graph = c.args.graph.now in
    let rows = plain_rows c.args.dims.now in
    let walk = c.in_ok-states.field-0 in
    let none : walk.found ≡ None = let one = c.in-None.is in let two = c.in_ok-states.found-is in cc in
    let sound = subst (λ (o : Option Fault). IsChecked rows (plain_nodes (out-Graph graph).nodes.items) walk.states.items o) none c.in_ok-states.ensures.checked in
    record {
      kept = all_kept graph c.requires.resolved rows c.in_ok-ids-in-None.ids.items walk.states.items c.in_ok-links-in-None.links.items
          c.in_ok-ids-in-None.ensures c.in_ok-states.ensures.states sound c.in_ok-links-in-None.ensures;
    }

pub returns-clause-faultless : goal.returns-clause-faultless
returns-clause-faultless c =
    let graph = c.args.graph.now in
    let rows = plain_rows c.args.dims.now in
    let walk = c.in_ok-states.field-0 in
    let none : walk.found ≡ None = let one = c.in-None.is in let two = c.in_ok-states.found-is in cc in
    let sound = subst (λ (o : Option Fault). IsChecked rows (plain_nodes (out-Graph graph).nodes.items) walk.states.items o) none c.in_ok-states.ensures.checked in
    given_faultless graph c.requires.resolved rows c.in_ok-ids-in-None.ids.items walk.states.items c.in_ok-links-in-None.links.items
    c.in_ok-ids-in-None.ensures c.in_ok-states.ensures.states sound c.in_ok-links-in-None.ensures c.of.result c.of.ensures

pub returns-clause-none : goal.returns-clause-none
returns-clause-none c =
    let graph = c.args.graph.now in
    let rows = plain_rows c.args.dims.now in
    let walk = c.in_ok-states.field-0 in
    let none : walk.found ≡ None = let one = c.in-None.is in let two = c.in_ok-states.found-is in cc in
    let sound = subst (λ (o : Option Fault). IsChecked rows (plain_nodes (out-Graph graph).nodes.items) walk.states.items o) none c.in_ok-states.ensures.checked in
    none_stands c.of.result
    (given_faultless graph c.requires.resolved rows c.in_ok-ids-in-None.ids.items walk.states.items c.in_ok-links-in-None.links.items
    c.in_ok-ids-in-None.ensures c.in_ok-states.ensures.states sound c.in_ok-links-in-None.ensures c.of.result c.of.ensures)
