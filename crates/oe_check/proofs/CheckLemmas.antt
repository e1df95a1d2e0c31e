-- What a check keeps of a graph, from what the walk over its nodes has found.
use Rattle.std.proofs.Common.{◌≡◌, ℕ, List, length, sym, ap, ◌∙◌, subst, false, []}
use Rattle.oe_dims.specs.declared.dims.DimsRow.{DimsRow}
use Rattle.oe_graph.specs.Plain.{plain_graph, plain_nodes}
use Rattle.oe_graph.specs.Printed.{ids_of, node_count}
use Rattle.oe_graph.specs.Read.{IsFaultless}
use Rattle.oe_graph.specs.References.{Leads}
use Rattle.oe_graph.specs.Resolved.{IsResolved}
use Rattle.oe_graph.specs.Tree.{Nodes, PlainGraph}
use Rattle.oe_graph.specs.declared.tree.Graph.{Graph, out-Graph}
use Rattle.oe_graph.proofs.ResolvedLemmas.{resolved_object}
use Rattle.oe_graph.proofs.PartLemmas.{graph_parts}
use Rattle.oe_order.specs.Graph.{graph_of}
use Rattle.oe_order.specs.declared.Links.{Links}
use Rattle.oe_expr.proofs.NodeLemmas.{node_is}
use Rattle.oe_expr.proofs.StateLemmas.{count_plain}
use Rattle.oe_check.specs.Checked.{CheckedGraph, AreFaultless, IsKept}
use Rattle.oe_check.specs.Links.{links_of}
use Rattle.oe_meanings.specs.Stands.{StandsInGraph, IsSound}
use Rattle.oe_check.specs.Walked.{AreResolved, AreSound, State}
use Rattle.oe_check.proofs.KeptLemmas.{faultless}
use Rattle.oe_check.proofs.StandsLemmas.{none_at_or_below}

-- no fault stands in a graph without one
pub none_stands : (c : CheckedGraph) → AreFaultless c → IsFaultless (StandsInGraph c.rows c.nodes)
none_stands c f code name stands =
    let there = node_is c.nodes stands.id stands.at.node stands.at.is_node in
    let sound : IsSound c.rows c.nodes stands.id = subst (IsSound c.rows c.nodes) there.1 (f.sound stands.at.node there.0) in
    none_at_or_below c.rows c.nodes stands.id sound code name stands.at

module _ (g : Graph) (is : IsResolved (plain_graph g)) where
  abbrev nodes : Nodes
  nodes = plain_nodes (out-Graph g).nodes.items

  nodes_are : (plain_graph g).nodes ≡ nodes
  nodes_are = ap (λ (p : PlainGraph). p.nodes) (graph_parts g)

  graph_resolved : AreResolved (plain_graph g).nodes
  graph_resolved = record { result = (plain_graph g).result; resolved = is }

  pub nodes_resolved : AreResolved nodes
  nodes_resolved = subst AreResolved nodes_are graph_resolved

  pub nodes_acyclic : (id : List ℕ) → ¬ Leads nodes id id
  nodes_acyclic = subst (λ (ns : Nodes). (id : List ℕ) → ¬ Leads ns id id) nodes_are (resolved_object false [] (plain_graph g) is).acyclic

  abbrev pub checked_graph : List DimsRow → CheckedGraph
  checked_graph rows = record { nodes = (plain_graph g).nodes; result = (plain_graph g).result; rows = rows }

  pub all_kept : (rows : List DimsRow) (ids : List (List ℕ)) (states : List State) (links : List Links)
      → ids ≡ ids_of nodes → length states ≡ length (out-Graph g).nodes.items → AreSound rows nodes states → graph_of links ≡ links_of nodes
      → IsKept (checked_graph rows) ids states links
  all_kept rows ids states links ids_are as_many sound links_are = record {
    resolved = graph_resolved;
    has_result = (resolved_object false [] (plain_graph g) is).has_result;
    ids_are = ids_are ∙ ap ids_of (sym nodes_are);
    as_many = as_many ∙ (sym (count_plain (out-Graph g).nodes.items) ∙ ap node_count (sym nodes_are));
    sound = subst (λ (ns : Nodes). AreSound rows ns states) (sym nodes_are) sound;
    links_are = links_are ∙ ap links_of (sym nodes_are);
  }

  -- and the graph that is given back has no fault
  pub given_faultless : (rows : List DimsRow) (ids : List (List ℕ)) (states : List State) (links : List Links)
      → ids ≡ ids_of nodes → length states ≡ length (out-Graph g).nodes.items → AreSound rows nodes states → graph_of links ≡ links_of nodes
      → (given : CheckedGraph) → given ≡ checked_graph rows → AreFaultless given
  given_faultless rows ids states links ids_are as_many sound links_are given same =
      subst AreFaultless (sym same) (faultless (checked_graph rows) ids states links (all_kept rows ids states links ids_are as_many sound links_are))
