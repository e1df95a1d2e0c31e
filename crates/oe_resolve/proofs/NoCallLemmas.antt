-- Where no call is left in the expanded graph, none is in the one with defaults, at any depth of callbacks.
use Rattle.std.proofs.Common.{◌≡◌, ℕ, Bool, true, false, List, [], map, Contains, Option, Some, None, refl, sym, ap, ◌∙◌}
use Rattle.oe_graph.specs.References.{each_node}
use Rattle.oe_graph.specs.Resolved.{IsScopedWithin, itself, inside, scope_inside}
use Rattle.oe_graph.specs.Tree.{Nodes, PlainGraph, PlainNode, PlainStored}
use Rattle.oe_calls.specs.HasCall.{nodes_call}
use Rattle.oe_calls.specs.Calls as calls
use Rattle.oe_calls.specs.Calls.{callee, Calls, HoldsNode}
use Rattle.oe_resolve.specs.Defaults.{nodes_with_defaults, resolved}
use Rattle.oe_calls.specs.Rounds.{expanded}
use Rattle.oe_resolve.proofs.ResolvingLemmas.{within_before, node_before}
use Rattle.oe_calls.proofs.UncalledLemmas.{node_uncalled, within_uncalled}

-- the graph object in which a node stands that another holds
record StandsIn (m : PlainNode) (outer_in_callback : Bool) (outer_scope : List (List ℕ)) (outer : Nodes) (outer_result : ℕ) : Type 0 where
  pub in_callback : Bool
  pub scope : List (List ℕ)
  pub nodes : Nodes
  pub result : ℕ
  pub within : IsScopedWithin in_callback scope nodes result outer_in_callback outer_scope outer outer_result
  pub has : Contains (each_node nodes) m

held : (n m : PlainNode) → HoldsNode n m → (in_callback : Bool) (scope : List (List ℕ)) (nodes : Nodes) (result : ℕ)
    → Contains (each_node nodes) n → StandsIn m in_callback scope nodes result
held n m calls.itself in_callback scope nodes result has =
    record { in_callback = in_callback; scope = scope; nodes = nodes; result = result; within = itself; has = has }
held n m (calls.by_callback {k = k} {g = g} is_callback there rest) in_callback scope nodes result has =
    let deep = held k m rest true (scope_inside n scope) g.nodes g.result there in
    record {
      in_callback = deep.in_callback;
      scope = deep.scope;
      nodes = deep.nodes;
      result = deep.result;
      within = inside has is_callback deep.within;
      has = deep.has;
    }

pub calls_none : (stored : List PlainStored) (g : PlainGraph) → nodes_call stored (expanded stored g).nodes ≡ false
    → (n : PlainNode) (s : PlainStored) → Contains (each_node (resolved stored g).nodes) n → ¬ Calls stored n s
calls_none stored g no_call n s has call =
    let e = expanded stored g in
    let at = held n call.caller call.holds false [] (nodes_with_defaults e.nodes) e.result has in
    let w = within_before at.in_callback at.scope at.nodes at.result false [] (nodes_with_defaults e.nodes) e.result e.nodes at.within refl in
    let m = node_before w.before at.nodes call.caller w.is_with_defaults at.has in
    let none = (node_uncalled stored w.before m.of
    (within_uncalled stored at.in_callback at.scope w.before at.result false [] e.nodes e.result w.within no_call) m.has).0 in
    let same : callee stored call.caller.namespace call.caller.process_id ≡ None =
    ap (λ (k : PlainNode). callee stored k.namespace k.process_id) (sym m.is) ∙ none in
    let both : None ≡ Some s = sym same ∙ call.calls in
    absurd cc
