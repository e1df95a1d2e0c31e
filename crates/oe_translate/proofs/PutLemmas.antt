-- Nodes that are put in order: found by their names, and no others than these.
use Rattle.std.proofs.Common.{◌≡◌, ◌≢◌, ◌⊎◌, inl, inr, ℕ, ◌||◌, Bool, true, false, if◌then◌else◌, List, [], ◌∷◌, Option, Some, Contains, refl, sym, ap, ◌∙◌, subst, true≢false}
use Rattle.std.specs.List.{list_any}
use Rattle.oe_dims.specs.Names.{same_name, is_name_before}
use Rattle.oe_dims.proofs.NameOrderLemmas.{not_before_itself}
use Rattle.oe_dims.proofs.OrderLemmas.{same_name_is}
use Rattle.oe_graph.specs.References.{each_node}
use Rattle.oe_graph.specs.Tree.{Named, Nodes, no_nodes, node, PlainNode}
use Rattle.oe_expr.specs.Nodes.{node_named}
use Rattle.oe_calls.specs.Rounds.{put_node}
use Rattle.oe_calls.proofs.Along.{there_cases, in_first, later_there}

-- a test of names that differ fails
pub differ : (a b : List ℕ) → a ≢ b → same_name a b ≡ false
differ a b apart = by (same_name a b) refl
  where
    by : (x : Bool) → same_name a b ≡ x → x ≡ false
    by true e = absurd (apart (sym (same_name_is a b e)))
    by false e = refl

-- ---- the node of a name

put_if : (before here own : Bool) (id p : List ℕ) (s : Option (List ℕ)) (a : Named) (n : PlainNode) (rest : Nodes) (name : List ℕ)
    → (before ≡ true → here ≡ true → own ≡ true → ⊥) → same_name id name ≡ here → same_name n.id name ≡ own
    → node_named name (put_node n rest) ≡ (if own then Some n else node_named name rest)
    → node_named name (if before then node id p s a (put_node n rest) else node n.id n.process_id n.namespace n.arguments (node id p s a rest))
    ≡ (if own then Some n else (if here then Some (record { id = id; process_id = p; namespace = s; arguments = a }) else node_named name rest))
put_if true true true id p s a n rest name apart h o later = absurd (apart refl refl refl)
put_if true true false id p s a n rest name apart h o later = rw h refl
put_if true false own id p s a n rest name apart h o later = rw h later
put_if false here own id p s a n rest name apart h o later = rw (o, h) refl

pub named_put : (n : PlainNode) (ns : Nodes) (name : List ℕ)
    → node_named name (put_node n ns) ≡ (if same_name n.id name then Some n else node_named name ns)
named_put n no_nodes name = refl
named_put n (node id p s a rest) name =
    put_if (is_name_before id n.id) (same_name id name) (same_name n.id name) id p s a n rest name apart refl refl (named_put n rest name)
  where
    apart : is_name_before id n.id ≡ true → same_name id name ≡ true → same_name n.id name ≡ true → ⊥
    apart before here own =
        let same : n.id ≡ id = sym (same_name_is n.id name own) ∙ same_name_is id name here in
        true≢false (sym (subst (λ x. is_name_before id x ≡ true) same before) ∙ not_before_itself id)

-- ---- what holds of none of them

or_turned : (a b c : Bool) → (a || (b || c)) ≡ (b || (a || c))
or_turned true true c = refl
or_turned true false c = refl
or_turned false b c = refl

any_if : (before : Bool) (test : PlainNode → Bool) (m n : PlainNode) (rest : Nodes)
    → list_any test (each_node (put_node n rest)) ≡ (test n || list_any test (each_node rest))
    → list_any test (each_node (if before then node m.id m.process_id m.namespace m.arguments (put_node n rest)
    else node n.id n.process_id n.namespace n.arguments (node m.id m.process_id m.namespace m.arguments rest)))
    ≡ (test n || (test m || list_any test (each_node rest)))
any_if true test m n rest later = ap (λ b. test m || b) later ∙ or_turned (test m) (test n) (list_any test (each_node rest))
any_if false test m n rest later = refl

pub any_put : (test : PlainNode → Bool) (n : PlainNode) (ns : Nodes)
    → list_any test (each_node (put_node n ns)) ≡ (test n || list_any test (each_node ns))
any_put test n no_nodes = refl
any_put test n (node id p s a rest) =
    any_if (is_name_before id n.id) test (record { id = id; process_id = p; namespace = s; arguments = a }) n rest (any_put test n rest)

-- ---- each of them

in_if : (before : Bool) (m n : PlainNode) (rest : Nodes) (z : PlainNode)
    → (Contains (each_node (put_node n rest)) z → (n ≡ z) ⊎ Contains (each_node rest) z)
    → Contains (each_node (if before then node m.id m.process_id m.namespace m.arguments (put_node n rest)
    else node n.id n.process_id n.namespace n.arguments (node m.id m.process_id m.namespace m.arguments rest))) z
    → (n ≡ z) ⊎ Contains (m ∷ each_node rest) z
in_if true m n rest z later has =
    elim (there_cases m (each_node (put_node n rest)) z has) as (λ _. (n ≡ z) ⊎ Contains (m ∷ each_node rest) z) [
      | inl is ↦ inr (in_first m (each_node rest) z is)
      | inr there ↦ elim (later there) as (λ _. (n ≡ z) ⊎ Contains (m ∷ each_node rest) z) [
        | inl is ↦ inl is
        | inr old ↦ inr (later_there m (each_node rest) z old)
      ]
    ]
in_if false m n rest z later has = there_cases n (m ∷ each_node rest) z has

pub in_put : (n : PlainNode) (ns : Nodes) (z : PlainNode) → Contains (each_node (put_node n ns)) z → (n ≡ z) ⊎ Contains (each_node ns) z
in_put n no_nodes z has = there_cases n [] z has
in_put n (node id p s a rest) z has =
    in_if (is_name_before id n.id) (record { id = id; process_id = p; namespace = s; arguments = a }) n rest z (in_put n rest z) has
