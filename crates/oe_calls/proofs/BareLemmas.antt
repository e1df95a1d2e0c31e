-- How much the nodes of callbacks hold without their arguments, also where calls give way to graphs.
use Rattle.std.proofs.Common.{◌≡◌, ◌+◌, ℕ, Bool, true, false, if◌then◌else◌, List, [], ◌∷◌, Option, Some, None, is_some, option_map, refl, sym, ap, ◌∙◌, subst, arith}
use denote.Bor.{Bor}
use Rattle.oe_dims.specs.Names.{is_name_before}
use Rattle.oe_graph.specs.Plain.{plain_node, plain_nodes, plain_stored}
use Rattle.oe_graph.specs.Tree.{Named, Nodes, no_nodes, node, PlainGraph, PlainNode, PlainStored}
use Rattle.oe_graph.specs.declared.stored.StoredProcess.{StoredProcess}
use Rattle.oe_graph.specs.declared.tree.Graph.{out-Graph}
use Rattle.oe_graph.specs.declared.tree.Node.{Node}
use Rattle.oe_graph.proofs.PartLemmas.{graph_parts, node_parts}
use Rattle.oe_calls.specs.Calls.{callee}
use Rattle.oe_calls.specs.Substituted.{values_given, substituted_nodes}
use Rattle.oe_calls.specs.Renamed.{renamed_nodes}
use Rattle.oe_calls.specs.Rounds.{cleared_nodes, under_id, put_node, put_nodes, opened, round_named, round_nodes}
use Rattle.oe_calls.specs.Sizes.{size_bare, size_bare_nodes, opened_bare, round_bare}
use Rattle.oe_calls.specs.declared.sizes.Measure.{Measure}

module _ (m : Measure) where
  pub bare_known : (ids : List (List ℕ)) (ns : Nodes) → size_bare_nodes m (cleared_nodes ids ns) ≡ size_bare_nodes m ns
  bare_known ids no_nodes = refl
  bare_known ids (node id p s args rest) = ap (λ n. size_bare m id p + n) (bare_known ids rest)

  pub bare_substituted : (stored : List PlainStored) (values : Named) (ns : Nodes)
      → size_bare_nodes m (substituted_nodes stored values ns) ≡ size_bare_nodes m ns
  bare_substituted stored values no_nodes = refl
  bare_substituted stored values (node id p s args rest) = ap (λ n. size_bare m id p + n) (bare_substituted stored values rest)

  bare_opened : (stored : List PlainStored) (n : PlainNode) (o : Option PlainStored)
      → size_bare_nodes m (opened stored n o) ≡ opened_bare m n.id n.process_id o
  bare_opened stored n None = omega arith
  bare_opened stored n (Some s) =
      bare_substituted stored (values_given s.parameters n.arguments) (renamed_nodes (under_id n.id) s.graph.nodes)

  put_by : (before : Bool) (n : PlainNode) (id p : List ℕ) (s : Option (List ℕ)) (args : Named) (rest : Nodes)
      → size_bare_nodes m (put_node n rest) ≡ size_bare m n.id n.process_id + size_bare_nodes m rest
      → size_bare_nodes m
      (if before then node id p s args (put_node n rest) else node n.id n.process_id n.namespace n.arguments (node id p s args rest))
      ≡ size_bare m n.id n.process_id + (size_bare m id p + size_bare_nodes m rest)
  put_by true n id p s args rest later = omega (arith, later)
  put_by false n id p s args rest later = refl

  bare_put : (n : PlainNode) (ns : Nodes) → size_bare_nodes m (put_node n ns) ≡ size_bare m n.id n.process_id + size_bare_nodes m ns
  bare_put n no_nodes = refl
  bare_put n (node id p s args rest) = put_by (is_name_before id n.id) n id p s args rest (bare_put n rest)

  bare_put_nodes : (ns found : Nodes) → size_bare_nodes m (put_nodes ns found) ≡ size_bare_nodes m ns + size_bare_nodes m found
  bare_put_nodes no_nodes found = omega arith
  bare_put_nodes (node id p s args rest) found =
      let n : PlainNode = record { id = id; process_id = p; namespace = s; arguments = args } in
      let later = bare_put_nodes rest (put_node n found) in
      let here = bare_put n found in
      omega (arith, later, here)

  bare_round : (stored : List PlainStored) (all ns found : Nodes)
      → size_bare_nodes m (round_nodes stored all ns found) ≡ size_bare_nodes m found + round_bare m stored ns
  bare_round stored all no_nodes found = omega arith
  bare_round stored all (node id p s args rest) found =
      let n : PlainNode = record { id = id; process_id = p; namespace = s; arguments = round_named stored (is_some (callee stored s p)) all args } in
      let more = opened stored n (callee stored s p) in
      let later = bare_round stored all rest (put_nodes more found) in
      let here = bare_put_nodes more found in
      let one = bare_opened stored n (callee stored s p) in
      omega (arith, later, here, one)

  -- a graph object after a round
  pub bare_round_all : (stored : List PlainStored) (ns : Nodes)
      → size_bare_nodes m (round_nodes stored ns ns no_nodes) ≡ round_bare m stored ns
  bare_round_all stored ns =
      let is = bare_round stored ns ns no_nodes in
      omega (arith, is)

-- of a node of the code
pub bare_parts : (m : Measure) (n : Node) → size_bare m (plain_node n).id (plain_node n).process_id ≡ size_bare m n.id n.process_id
bare_parts m n = ap (λ (k : PlainNode). size_bare m k.id k.process_id) (node_parts n)

pub under_parts : (m : Measure) (call : List ℕ) (n : Node)
    → size_bare m (under_id call (plain_node n).id) (plain_node n).process_id ≡ size_bare m (under_id call n.id) n.process_id
under_parts m call n = ap (λ (k : PlainNode). size_bare m (under_id call k.id) k.process_id) (node_parts n)

pub opened_parts : (m : Measure) (stored : List PlainStored) (n : Node)
    → opened_bare m (plain_node n).id (plain_node n).process_id (callee stored (plain_node n).namespace (plain_node n).process_id)
    ≡ opened_bare m n.id n.process_id (callee stored n.namespace n.process_id)
opened_parts m stored n =
    ap (λ (k : PlainNode). opened_bare m k.id k.process_id (callee stored k.namespace k.process_id)) (node_parts n)

-- ---- what stands in place of a node of the code

pub callee_none : (o : Option (Bor StoredProcess)) (found : Option PlainStored) → option_map (λ (s : Bor StoredProcess). plain_stored s.now) o ≡ found
    → ((s : Bor StoredProcess) → o ≡ Some s → ⊥) → found ≡ None
callee_none None found is none = sym is
callee_none (Some s) found is none = absurd (none s refl)

pub bare_uncalled : (m : Measure) (stored : List PlainStored) (n : Node) (o : Option (Bor StoredProcess)) (budget left : ℕ)
    → option_map (λ (s : Bor StoredProcess). plain_stored s.now) o ≡ callee stored n.namespace n.process_id
    → ((s : Bor StoredProcess) → o ≡ Some s → ⊥)
    → budget ≡ left + size_bare m n.id n.process_id
    → budget ≡ left + opened_bare m n.id n.process_id (callee stored n.namespace n.process_id)
bare_uncalled m stored n o budget left is none taken =
    subst (λ p. budget ≡ left + opened_bare m n.id n.process_id p)
    (sym (callee_none o (callee stored n.namespace n.process_id) is none)) taken

pub bare_called : (m : Measure) (stored : List PlainStored) (n : Node) (o : Option (Bor StoredProcess)) (process : Bor StoredProcess)
    (budget left : ℕ)
    → option_map (λ (s : Bor StoredProcess). plain_stored s.now) o ≡ callee stored n.namespace n.process_id → o ≡ Some process
    → budget ≡ left + size_bare_nodes m (renamed_nodes (under_id n.id) (plain_nodes (out-Graph process.now.graph).nodes.items))
    → budget ≡ left + opened_bare m n.id n.process_id (callee stored n.namespace n.process_id)
bare_called m stored n o process budget left is found taken =
    let called : callee stored n.namespace n.process_id ≡ Some (plain_stored process.now) =
    sym is ∙ ap (option_map (λ (s : Bor StoredProcess). plain_stored s.now)) found in
    subst (λ p. budget ≡ left + opened_bare m n.id n.process_id p) (sym called)
    (subst (λ (h : PlainGraph). budget ≡ left + size_bare_nodes m (renamed_nodes (under_id n.id) h.nodes))
    (sym (graph_parts process.now.graph)) taken)
