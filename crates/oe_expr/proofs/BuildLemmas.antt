-- What the walk over the nodes of a callback says of the callback as a whole.
use Rattle.std.proofs.Common.{◌≡◌, ℕ, ◌<◌, Bool, true, List, length, Option, Some, None, sym, ap, ◌∙◌, subst, unwrap_or}
use Rattle.std.proofs.lemmas.Option.{get_or_from_slice_get, slice_get_within}
use Rattle.oe_cell.specs.declared.cell.Cell.{Cell}
use Rattle.oe_dims.specs.declared.kind.CellKind.{CellKind}
use Rattle.oe_dims.specs.declared.kind.CellKind.TheVariants.{Numbers}
use Rattle.oe_fold.specs.declared.reducer.Reducer.{Reducer}
use Rattle.oe_graph.specs.Faults.{IsLeast}
use Rattle.oe_graph.specs.Plain.{plain_graph, plain_nodes}
use Rattle.oe_graph.specs.Resolved.{IsResolvedObject, IsResolvedUnder}
use Rattle.oe_graph.specs.States.{state_at}
use Rattle.oe_graph.specs.Tree.{Nodes, PlainGraph, PlainNode}
use Rattle.oe_graph.specs.declared.code.Code.{Code}
use Rattle.oe_graph.specs.declared.fault.Fault.{Fault}
use Rattle.oe_graph.specs.declared.node_state.NodeState.TheVariants.{Unseen, Sound}
use Rattle.oe_graph.specs.declared.tree.Graph.{Graph, out-Graph}
use Rattle.oe_graph.proofs.ResolvedLemmas.{resolved_object, node_below}
use Rattle.oe_graph.proofs.PartLemmas.{graph_parts}
use Rattle.oe_expr.specs.Callback.{IsFaultlessCallback, StandsInCallbackAt, callback_of, callback_kind}
use Rattle.oe_expr.specs.Compiled.{IsCompiled, IsProgramOf}
use Rattle.oe_expr.specs.Folds.{single_reducer}
use Rattle.oe_expr.specs.NodeKinds.{graph_kind, kind_at}
use Rattle.oe_expr.specs.Nodes.{id_at, node_named}
use Rattle.oe_expr.specs.Scope.{PlainScope, scope_parameters}
use Rattle.oe_expr.specs.Stands.{IsSound, sound, StandsAt, StandsOnPath, own_fault}
use Rattle.oe_expr.specs.States.{State, kept_kind}
use Rattle.oe_expr.specs.Walked.{AreResolved, AreSound}
use Rattle.oe_expr.specs.declared.program.Program.{Program}
use Rattle.oe_expr.specs.declared.walk.Judged.{Judged}
use Rattle.oe_expr.proofs.KindLemmas.{keeps_kind}
use Rattle.oe_expr.proofs.NodeLemmas.{node_is, index_of_node, id_at_is}

-- ---- a graph by its parts

pub resolved_parts : (scope : PlainScope) (g : Graph) → IsResolvedUnder true (scope_parameters scope) (plain_graph g)
    → IsResolvedUnder true (scope_parameters scope) (record { nodes = plain_nodes (out-Graph g).nodes.items; result = (out-Graph g).result })
resolved_parts scope g is = subst (IsResolvedUnder true (scope_parameters scope)) (graph_parts g) is

pub are_resolved : (scope : PlainScope) (g : Graph) → IsResolvedUnder true (scope_parameters scope) (plain_graph g) → AreResolved scope (out-Graph g).nodes.items
are_resolved scope g is = record {
  result = (out-Graph g).result;
  resolved = resolved_object true (scope_parameters scope) (record { nodes = plain_nodes (out-Graph g).nodes.items; result = (out-Graph g).result }) (resolved_parts scope g is);
}

-- ---- where a fault stands

pub least_in : (scope : PlainScope) (context : Cell) (g : Graph) (path : List ℕ) (fault : Fault)
    → IsLeast (StandsOnPath scope context (plain_nodes (out-Graph g).nodes.items) path) fault → IsLeast (StandsInCallbackAt (callback_of (plain_graph g) scope context) path) fault
least_in scope context g path fault least =
    subst (λ (p : PlainGraph). IsLeast (StandsInCallbackAt (callback_of p scope context) path) fault) (sym (graph_parts g)) least

-- ---- where none stands

not_both : (scope : PlainScope) (context : Cell) (nodes : Nodes) (name : List ℕ) (code : Code)
    → IsSound scope context nodes name → StandsAt scope context nodes name code → ⊥
not_both scope context nodes name code (sound {n = m} is_named below own) s =
    let at : node_named name nodes ≡ Some s.node = s.is_node in
    let both : m ≡ s.node = cc in
    let one : own_fault scope context nodes s.node ≡ None = subst (λ (x : PlainNode). own_fault scope context nodes x ≡ None) both own in
    let two : None ≡ Some code = sym one ∙ s.first in
    absurd cc

module _ (scope : PlainScope) (context : Cell) (g : Graph) (states : List State) (order : List Judged)
    (resolved : IsResolvedUnder true (scope_parameters scope) (plain_graph g))
    (are : AreSound scope context (out-Graph g).nodes.items states order) where
  nodes_faultless : (path : List ℕ) (code : Code) (name : List ℕ) → StandsOnPath scope context (plain_nodes (out-Graph g).nodes.items) path code name → ⊥
  nodes_faultless path code name s =
      let there = node_is (plain_nodes (out-Graph g).nodes.items) s.id s.at.node s.at.is_node in
      let index = index_of_node (plain_nodes (out-Graph g).nodes.items) s.at.node there.0 in
      let one = are.each index.0 s.at.node index.1 in
      not_both scope context (plain_nodes (out-Graph g).nodes.items) s.id code
      (subst (IsSound scope context (plain_nodes (out-Graph g).nodes.items)) there.1 one.2.sound) s.at

  pub faultless : IsFaultlessCallback (callback_of (plain_graph g) scope context)
  faultless = subst (λ (p : PlainGraph). IsFaultlessCallback (callback_of p scope context)) (sym (graph_parts g)) nodes_faultless

  result_is : IsResolvedObject true (scope_parameters scope) (plain_nodes (out-Graph g).nodes.items) (out-Graph g).result
  result_is = resolved_object true (scope_parameters scope) (record { nodes = plain_nodes (out-Graph g).nodes.items; result = (out-Graph g).result }) (resolved_parts scope g resolved)

  pub result_within : (out-Graph g).result < length states
  result_within =
      let there = node_below (plain_nodes (out-Graph g).nodes.items) (out-Graph g).result result_is.has_result in
      let one = are.each (out-Graph g).result there.node there.is_there in
      slice_get_within states (out-Graph g).result (Sound one.0) one.1

  pub kind_is : unwrap_or (kept_kind (state_at states (out-Graph g).result)) Numbers ≡ callback_kind (callback_of (plain_graph g) scope context)
  kind_is =
      let there = node_below (plain_nodes (out-Graph g).nodes.items) (out-Graph g).result result_is.has_result in
      let one = are.each (out-Graph g).result there.node there.is_there in
      let state : state_at states (out-Graph g).result ≡ Sound one.0 = get_or_from_slice_get states (out-Graph g).result (Sound one.0) Unseen one.1 in
      let named : id_at (out-Graph g).result (plain_nodes (out-Graph g).nodes.items) ≡ there.node.id = id_at_is (plain_nodes (out-Graph g).nodes.items) (out-Graph g).result there.node there.is_there in
      let kind : kind_at scope context (plain_nodes (out-Graph g).nodes.items) (id_at (out-Graph g).result (plain_nodes (out-Graph g).nodes.items)) ≡ one.0 =
      ap (kind_at scope context (plain_nodes (out-Graph g).nodes.items)) named ∙ one.2.kind_is in
      ap (λ s. unwrap_or (kept_kind s) Numbers) state
      ∙ (sym (ap (λ k. unwrap_or k Numbers) kind)
      ∙ sym (ap (λ (p : PlainGraph). unwrap_or (graph_kind scope context p) Numbers) (graph_parts g)))

  pub compiled : (kind : CellKind) (reducer : Option (Reducer × Bool)) (program : Program) → kind ≡ unwrap_or (kept_kind (state_at states (out-Graph g).result)) Numbers
      → IsProgramOf (callback_of (record { nodes = plain_nodes (out-Graph g).nodes.items; result = (out-Graph g).result }) scope context) program
      → reducer ≡ single_reducer (plain_nodes (out-Graph g).nodes.items)
      → IsCompiled (callback_of (plain_graph g) scope context) kind reducer program
  compiled kind reducer program is program_of reducer_of = record {
    kind_is = is ∙ kind_is;
    reducer_is = reducer_of ∙ ap (λ (p : PlainGraph). single_reducer p.nodes) (sym (graph_parts g));
    keeps_kind = keeps_kind (callback_of (plain_graph g) scope context) resolved faultless;
    is_program_of = subst (λ (p : PlainGraph). IsProgramOf (callback_of p scope context) program) (sym (graph_parts g)) program_of;
  }
