-- In a valid callback the value of each node is its operation on the values of the nodes that it refers to, and no others are.
use Rattle.std.proofs.Common.{◌≡◌, ℕ, true, [], List, Option, Some, None, Contains, refl, sym, ap, ◌∙◌, subst, true≢false}
use Rattle.std.specs.Prelude.{IsSome, is_some}
use Rattle.std.specs.Option.{option_and_then, option_map_or}
use Rattle.oe_cell.specs.declared.cell.Cell.{Cell}
use Rattle.oe_cell.specs.declared.cell.Cell.TheVariants.{Empty}
use Rattle.oe_graph.specs.Printed.{ids_of}
use Rattle.oe_graph.specs.Resolved.{IsResolvedObject}
use Rattle.oe_graph.specs.Tree.{Nodes, PlainNode}
use Rattle.oe_graph.specs.declared.code.Code.{Code}
use Rattle.oe_graph.specs.declared.code.Code.TheVariants.{ProcessParameterInvalid}
use Rattle.oe_graph.proofs.ResolvedLemmas.{resolved_object, result_node}
use Rattle.oe_expr.specs.Callback.{Callback}
use Rattle.oe_expr.specs.Laws.{IsValidCallback, UnfoldsAtNode, UnfoldAtNodes}
use Rattle.oe_expr.specs.NodeKinds.{kind_at, request_kind}
use Rattle.oe_expr.specs.Nodes.{node_named, result_id}
use Rattle.oe_expr.specs.Requests.{CellRequest, cell_request_at}
use Rattle.oe_expr.specs.Rows.{request_fault}
use Rattle.oe_expr.specs.Scope.{Environment, scope_parameters}
use Rattle.oe_expr.specs.Stands.{IsSound, sound, StandsAt, own_fault}
use Rattle.oe_expr.specs.Value.{node_value, node_value_at, request_value}
use Rattle.oe_expr.proofs.KindLemmas.{each_sound}
use Rattle.oe_expr.proofs.NodeLemmas.{node_is, node_there, index_of_node, id_at_is, id_within}
use Rattle.oe_expr.proofs.RequestLemmas.{value_looks_down}
use Rattle.oe_expr.proofs.SoundLemmas.{kind_unfolds, value_unfolds}

-- ---- names and nodes

-- the node of a name has its id
has_id : (nodes : Nodes) (name : List ℕ) (n : PlainNode) → node_named name nodes ≡ Some n → Contains (ids_of nodes) name
has_id nodes name n named =
    let there = node_is nodes name n named in
    let index = index_of_node nodes n there.0 in
    subst (Contains (ids_of nodes)) there.1 (id_within nodes index.0 n index.1)

-- an id has its node
is_there : (nodes : Nodes) (name : List ℕ) → Contains (ids_of nodes) name → IsSome (node_named name nodes)
is_there nodes name has = by (node_named name nodes) refl
  where
    by : (o : Option PlainNode) → node_named name nodes ≡ o → IsSome (node_named name nodes)
    by None e = absurd (node_there nodes name has e)
    by (Some n) e = rw e refl

-- the node that is there
the_node : (nodes : Nodes) (name : List ℕ) → IsSome (node_named name nodes) → (n : PlainNode) × (node_named name nodes ≡ Some n)
the_node nodes name some = by (node_named name nodes) refl
  where
    by : (o : Option PlainNode) → node_named name nodes ≡ o → (n : PlainNode) × (node_named name nodes ≡ Some n)
    by None e = absurd (true≢false (sym (subst (λ (o : Option PlainNode). is_some o ≡ true) e some)))
    by (Some n) e = (n, e)

-- ---- one callback

module _ (c : Callback) (valid : IsValidCallback c) where
  is : IsResolvedObject true (scope_parameters c.scope) c.graph.nodes c.graph.result
  is = resolved_object true (scope_parameters c.scope) c.graph valid.resolved

  none_stands : (code : Code) (name : List ℕ) → StandsAt c.scope c.context c.graph.nodes name code → ⊥
  none_stands code name s = valid.faultless [] code name (record { id = name; at = s; is_named = refl })

  node_sound : (name : List ℕ) → Contains (ids_of c.graph.nodes) name → IsSound c.scope c.context c.graph.nodes name
  node_sound name has = each_sound c.scope c.context c.graph.nodes c.graph.result is none_stands name has

  own_none : (name : List ℕ) (n : PlainNode) → node_named name c.graph.nodes ≡ Some n → IsSound c.scope c.context c.graph.nodes name
      → own_fault c.scope c.context c.graph.nodes n ≡ None
  own_none name n named (sound {n = m} is_named below own) =
      let both : m ≡ n = cc in
      subst (λ (x : PlainNode). own_fault c.scope c.context c.graph.nodes x ≡ None) both own

  -- a node without a fault asks for an operation
  asked : (n : PlainNode) → own_fault c.scope c.context c.graph.nodes n ≡ None → (r : CellRequest) × (cell_request_at n ≡ Some r)
  asked n own = by (cell_request_at n) refl
    where
      by : (o : Option CellRequest) → cell_request_at n ≡ o → (r : CellRequest) × (cell_request_at n ≡ Some r)
      by None e =
          let none : Some ProcessParameterInvalid ≡ None =
          subst (λ (o : Option CellRequest). option_map_or (request_fault c.scope c.context (kind_at c.scope c.context c.graph.nodes)) o (Some ProcessParameterInvalid) ≡ None) e own in
          absurd cc
      by (Some r) e = (r, e)

  node_unfolds : (name : List ℕ) (n : PlainNode) → node_named name c.graph.nodes ≡ Some n → UnfoldsAtNode c name n
  node_unfolds name n named =
      let its = asked n (own_none name n named (node_sound name (has_id c.graph.nodes name n named))) in
      record {
        request = its.0;
        asks = its.1;
        refers = λ other refers. is_there c.graph.nodes other ((is.each n (node_is c.graph.nodes name n named).0).names_nodes other refers);
        value = λ e.
            value_unfolds c.scope c.context c.graph.nodes is.acyclic e name n named
            ∙ ap (λ (o : Option CellRequest). option_map_or (request_value e (node_value_at e c.graph.nodes)) o Empty) its.1;
        kind =
            kind_unfolds c.scope c.context c.graph.nodes is.acyclic name n named
            ∙ ap (option_and_then (request_kind c.scope c.context (kind_at c.scope c.context c.graph.nodes))) its.1;
      }

  result_there : IsSome (node_named (result_id c.graph) c.graph.nodes)
  result_there =
      let nodes = c.graph.nodes in
      let there = result_node nodes c.graph.result is in
      let named : result_id c.graph ≡ there.node.id = id_at_is nodes c.graph.result there.node there.is_there in
      is_there nodes (result_id c.graph) (subst (Contains (ids_of nodes)) (sym named) (id_within nodes c.graph.result there.node there.is_there))

  -- by the way down from the node
  only_sound : (e : Environment) (at : List ℕ → Cell) → ((name : List ℕ) (n : PlainNode) → node_named name c.graph.nodes ≡ Some n → at name ≡ node_value e at n)
      → (name : List ℕ) → IsSound c.scope c.context c.graph.nodes name → at name ≡ node_value_at e c.graph.nodes name
  only_sound e at unfolds name (sound {n = m} is_named below own) =
      unfolds name m is_named
      ∙ value_looks_down e m at (node_value_at e c.graph.nodes) (λ other refers. only_sound e at unfolds other (below other refers))
      ∙ sym (value_unfolds c.scope c.context c.graph.nodes is.acyclic e name m is_named)

  only_value : (e : Environment) (at : List ℕ → Cell) → ((name : List ℕ) (n : PlainNode) → node_named name c.graph.nodes ≡ Some n → at name ≡ node_value e at n)
      → (name : List ℕ) → IsSome (node_named name c.graph.nodes) → at name ≡ node_value_at e c.graph.nodes name
  only_value e at unfolds name some =
      let its = the_node c.graph.nodes name some in
      only_sound e at unfolds name (node_sound name (has_id c.graph.nodes name its.0 its.1))

pub unfold_at_nodes : UnfoldAtNodes
unfold_at_nodes = record {
  each = λ c valid name n named. node_unfolds c valid name n named;
  result = λ c valid. result_there c valid;
  only = λ c valid e at unfolds name some. only_value c valid e at unfolds name some;
}
