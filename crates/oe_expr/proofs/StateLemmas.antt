-- The nodes of a callback by their names and their indices.
use Rattle.std.proofs.Common.{◌≡◌, ℕ, zero, suc, ◌+◌, ◌<◌, Bool, true, false, cond, List, [], ◌∷◌, map, length, slice_get, get_or, Option, Some, None, option_map, refl, sym, ap, ◌∙◌, subst, true≢false, add-one}
use Rattle.std.specs.Option.{option_and_then, option_map_or}
use Rattle.std.proofs.lemmas.Option.{slice_get-map}
use Rattle.oe_dims.specs.Names.{same_name}
use Rattle.oe_dims.proofs.IndexLemmas.{index_where_none}
use Rattle.oe_dims.proofs.OrderLemmas.{same_name_is, same_name_refl}
use Rattle.oe_graph.specs.Plain.{plain_node, plain_nodes}
use Rattle.oe_graph.specs.Printed.{node_count}
use Rattle.oe_graph.specs.References.{each_node}
use Rattle.oe_graph.specs.States.{IsNodeAt, state_at}
use Rattle.oe_graph.specs.Tree.{PlainNode}
use Rattle.oe_graph.specs.declared.node_state.NodeState.TheVariants.{Unseen}
use Rattle.oe_graph.specs.declared.tree.Node.{Node}
use Rattle.oe_graph.proofs.PartLemmas.{node_parts}
use Rattle.oe_graph.proofs.ResolvedLemmas.{NodeAt, node_unique}
use Rattle.oe_graph.proofs.StateLemmas.{within_nodes}
use Rattle.oe_expr.specs.Nodes.{node_named}
use Rattle.oe_expr.specs.States.{State, index_named, state_named}
use Rattle.oe_expr.specs.Walked.{AreResolved}
use Rattle.oe_expr.specs.Scope.{PlainScope}

-- ---- nodes by their parts

pub plain_id : (n : Node) → (plain_node n).id ≡ n.id
plain_id n = ap (λ (p : PlainNode). p.id) (node_parts n)

pub each_plain : (nodes : List Node) → each_node (plain_nodes nodes) ≡ map plain_node nodes
each_plain [] = refl
each_plain (n ∷ nodes) = ap (λ (rest : List PlainNode). plain_node n ∷ rest) (each_plain nodes)

pub count_plain : (nodes : List Node) → node_count (plain_nodes nodes) ≡ length nodes
count_plain [] = refl
count_plain (n ∷ nodes) = ap suc (count_plain nodes)

pub node_at_index : (nodes : List Node) (k : ℕ) (n : Node) → slice_get nodes k ≡ Some n → IsNodeAt (plain_nodes nodes) k (plain_node n)
node_at_index nodes k n is =
    ap (λ ns. slice_get ns k) (each_plain nodes) ∙ (slice_get-map plain_node nodes k ∙ ap (option_map plain_node) is)

pub node_within : (nodes : List Node) (k : ℕ) (n : PlainNode) → IsNodeAt (plain_nodes nodes) k n → k < length nodes
node_within nodes k n is = subst (λ c. k < c) (count_plain nodes) (within_nodes (plain_nodes nodes) k n is)

-- ---- nodes by their names

pub shift : (p : PlainNode) (rest : List PlainNode) (o : Option ℕ)
    → option_and_then (slice_get (p ∷ rest)) (option_map (λ n. n + 1) o) ≡ option_and_then (slice_get rest) o
shift p rest None = refl
shift p rest (Some k) = ap (slice_get (p ∷ rest)) (add-one k)

pub found_node : (nodes : List Node) (name : List ℕ)
    → node_named name (plain_nodes nodes) ≡ option_and_then (slice_get (each_node (plain_nodes nodes))) (index_named nodes name)
found_node [] name = refl
found_node (x ∷ xs) name = by (same_name x.id name) refl (found_node xs name)
  where
    by : (b : Bool) → same_name x.id name ≡ b
        → node_named name (plain_nodes xs) ≡ option_and_then (slice_get (each_node (plain_nodes xs))) (index_named xs name)
        → node_named name (plain_nodes (x ∷ xs)) ≡ option_and_then (slice_get (each_node (plain_nodes (x ∷ xs)))) (index_named (x ∷ xs) name)
    by true e rest =
        let same : same_name (plain_node x).id name ≡ true = ap (λ id. same_name id name) (plain_id x) ∙ e in
        rw (same, e) refl
    by false e rest =
        let same : same_name (plain_node x).id name ≡ false = ap (λ id. same_name id name) (plain_id x) ∙ e in
        rw (same, e) (rest ∙ sym (shift (plain_node x) (each_node (plain_nodes xs)) (index_named xs name)))

-- a name that no node has
pub none_named : (nodes : List Node) (name : List ℕ)
    → ((k : ℕ) (d : Node) → k < length nodes → same_name (get_or nodes k d).id name ≡ false) → index_named nodes name ≡ None
none_named [] name none = refl
none_named (x ∷ xs) name none = index_where_none (λ (n : Node). same_name n.id name) (x ∷ xs) x (λ k below. none k x below)

-- what an index that is found says
found_there : (nodes : List Node) (name : List ℕ) (k : ℕ) → index_named nodes name ≡ Some k
    → (n : Node) × (slice_get nodes k ≡ Some n) × (n.id ≡ name)
found_there [] name k e = absurd cc
found_there (x ∷ xs) name k e = by (same_name x.id name) refl e (found_there xs name)
  where
    later : (o : Option ℕ) → index_named xs name ≡ o → option_map (λ n. n + 1) o ≡ Some k
        → ((j : ℕ) → index_named xs name ≡ Some j → (n : Node) × (slice_get xs j ≡ Some n) × (n.id ≡ name))
        → (n : Node) × (slice_get (x ∷ xs) k ≡ Some n) × (n.id ≡ name)
    later None is e rest = absurd cc
    later (Some j) is e rest =
        let one : j + 1 ≡ k = cc in
        let at : suc j ≡ k = sym (add-one j) ∙ one in
        let there = rest j is in
        (there.0, ap (slice_get (x ∷ xs)) (sym at) ∙ there.1, there.2)

    by : (b : Bool) → same_name x.id name ≡ b → cond b (Some 0) (option_map (λ n. n + 1) (index_named xs name)) ≡ Some k
        → ((j : ℕ) → index_named xs name ≡ Some j → (n : Node) × (slice_get xs j ≡ Some n) × (n.id ≡ name))
        → (n : Node) × (slice_get (x ∷ xs) k ≡ Some n) × (n.id ≡ name)
    by true same e rest =
        let at : 0 ≡ k = cc in
        (x, ap (slice_get (x ∷ xs)) (sym at), sym (same_name_is x.id name same))
    by false same e rest = later (index_named xs name) refl e rest

none_there : (nodes : List Node) (name : List ℕ) → index_named nodes name ≡ None → (k : ℕ) (n : PlainNode)
    → IsNodeAt (plain_nodes nodes) k n → n.id ≡ name → ⊥
none_there [] name none k n is same = absurd cc
none_there (x ∷ xs) name none k n is same = by (same_name x.id name) refl none k is (none_there xs name)
  where
    rest_none : (o : Option ℕ) → option_map (λ n. n + 1) o ≡ None → o ≡ None
    rest_none None e = refl
    rest_none (Some j) e = absurd cc

    by : (b : Bool) → same_name x.id name ≡ b → cond b (Some 0) (option_map (λ n. n + 1) (index_named xs name)) ≡ None
        → (k : ℕ) → IsNodeAt (plain_nodes (x ∷ xs)) k n
        → (index_named xs name ≡ None → (k : ℕ) (n : PlainNode) → IsNodeAt (plain_nodes xs) k n → n.id ≡ name → ⊥) → ⊥
    by true e none k is rest = absurd cc
    by false e none zero is rest =
        let first : plain_node x ≡ n = cc in
        let id : x.id ≡ name = sym (plain_id x) ∙ (ap (λ (p : PlainNode). p.id) first ∙ same) in
        true≢false (sym (same_name_refl name) ∙ (ap (λ i. same_name i name) (sym id) ∙ e))
    by false e none (suc j) is rest = rest (rest_none (index_named xs name) none) j n is same

module _ (scope : PlainScope) (nodes : List Node) (is : AreResolved scope nodes) where
  at_id : (k : ℕ) (n : PlainNode) (name : List ℕ) → IsNodeAt (plain_nodes nodes) k n → n.id ≡ name → NodeAt (plain_nodes nodes) name
  at_id k n name at same = record {
    index = k;
    below = within_nodes (plain_nodes nodes) k n at;
    node = n;
    is_there = at;
    is_named = same;
  }

  -- the index of a node's name is its own
  pub index_of : (k : ℕ) (n : PlainNode) → IsNodeAt (plain_nodes nodes) k n → index_named nodes n.id ≡ Some k
  unfolding at_id
  index_of k n at = by (index_named nodes n.id) refl
    where
      by : (o : Option ℕ) → index_named nodes n.id ≡ o → index_named nodes n.id ≡ Some k
      by None e = absurd (none_there nodes n.id e k n at refl)
      by (Some j) e =
          let there = found_there nodes n.id j e in
          let same : j ≡ k =
          node_unique (plain_nodes nodes) is.result n.id is.resolved
          (at_id j (plain_node there.0) n.id (node_at_index nodes j there.0 there.1) (plain_id there.0 ∙ there.2))
          (at_id k n n.id at refl) in
          e ∙ ap Some same

  pub named_at : (k : ℕ) (n : PlainNode) → IsNodeAt (plain_nodes nodes) k n → node_named n.id (plain_nodes nodes) ≡ Some n
  named_at k n at =
      found_node nodes n.id ∙ (ap (option_and_then (slice_get (each_node (plain_nodes nodes)))) (index_of k n at) ∙ at)

  -- the state of a node's name is its own
  pub state_of_id : (states : List State) (k : ℕ) (n : PlainNode) → IsNodeAt (plain_nodes nodes) k n
      → state_named nodes states n.id ≡ state_at states k
  state_of_id states k n at = ap (λ o. option_map_or (λ j. state_at states j) o Unseen) (index_of k n at)
