-- Where no references lead from a node back to itself, the recursion down the references unfolds at each node.
use Rattle.std.proofs.Common.{◌≡◌, ℕ, zero, suc, ◌+◌, ◌≤◌, ◌∷◌, [], List, Bool, true, false, Option, Some, None, refl, sym, ap, ◌∙◌, subst, length, slice_get, slice_index_or, ◌<◌, Contains, arith, bytes_eq, true≢false, ◌||◌, if◌then◌else◌}
use Rattle.std.specs.List.{AllByRecursion, list_any, IsDistinct}
use Rattle.std.specs.Cmp.Lexicographic.{nat_list_eq_equiv}
use Rattle.std.proofs.lemmas.List.Elements.{Contains-push, Contains-append_left, Contains-append_right}
use Rattle.std.proofs.lemmas.Option.{slice_get_within, slice_get-get_or, get_or_from_slice_get}
use Rattle.std.proofs.lemmas.Map.Keys.{IsDistinct-cons}
use Rattle.std.proofs.lemmas.Map.Made.{length-le_from_is_member}
use Rattle.oe_dims.specs.Names.{same_name}
use Rattle.oe_dims.proofs.OrderLemmas.{same_name-bytes_eq, same_name_is, same_name_refl}
use Rattle.oe_graph.specs.Printed.{node_count, ids_of}
use Rattle.oe_graph.specs.References.{each_node, references_named, Refers, Leads, refers, onwards}
use Rattle.oe_graph.specs.Tree.{Nodes, no_nodes, node, PlainNode}
use Rattle.oe_graph.proofs.ResolvedLemmas.{length-ids_of}
use Rattle.oe_expr.specs.Nodes.{node_named, id_at, within_turns, down_from, LooksDown, UnfoldsAt}

-- ---- the node of a name

first_of : (n : PlainNode) (ns : List PlainNode) → Contains (n ∷ ns) n
first_of n ns = Contains-append_left (n ∷ []) ns n (Contains-push [] n)

later_of : (m : PlainNode) (ns : List PlainNode) (n : PlainNode) → Contains ns n → Contains (m ∷ ns) n
later_of m ns n h = Contains-append_right (m ∷ []) ns n h

pub node_is : (nodes : Nodes) (name : List ℕ) (n : PlainNode) → node_named name nodes ≡ Some n → Contains (each_node nodes) n × (n.id ≡ name)
node_is no_nodes name n e = absurd cc
node_is (node id process_id namespace arguments rest) name n e = by (same_name id name) refl e (node_is rest name n)
  where
    by : (b : Bool) → same_name id name ≡ b → (if b then Some (record { id = id; process_id = process_id; namespace = namespace; arguments = arguments }) else node_named name rest) ≡ Some n
        → (node_named name rest ≡ Some n → Contains (each_node rest) n × (n.id ≡ name))
        → Contains (each_node (node id process_id namespace arguments rest)) n × (n.id ≡ name)
    by true t found rest_is =
        let same : record { id = id; process_id = process_id; namespace = namespace; arguments = arguments } ≡ n = cc in (
          subst (λ (k : PlainNode). Contains (each_node (node id process_id namespace arguments rest)) k) same (first_of _ (each_node rest)),
          sym (ap (λ (k : PlainNode). k.id) same) ∙ sym (same_name_is id name t),
        )
    by false f found rest_is = let deeper = rest_is found in (later_of _ (each_node rest) n deeper.0, deeper.1)

in_ids : (nodes : Nodes) (name : List ℕ) (n : PlainNode) → node_named name nodes ≡ Some n → list_any (bytes_eq name) (ids_of nodes) ≡ true
in_ids no_nodes name n e = absurd cc
in_ids (node id process_id namespace arguments rest) name n e = by (same_name id name) refl e (in_ids rest name n)
  where
    by : (b : Bool) → same_name id name ≡ b → (if b then Some (record { id = id; process_id = process_id; namespace = namespace; arguments = arguments }) else node_named name rest) ≡ Some n
        → (node_named name rest ≡ Some n → list_any (bytes_eq name) (ids_of rest) ≡ true)
        → list_any (bytes_eq name) (ids_of (node id process_id namespace arguments rest)) ≡ true
    by true t found rest_is =
        let same : name ≡ id = same_name_is id name t in
        let here : bytes_eq name id ≡ true = same_name-bytes_eq name id ∙ (ap (λ k. same_name k id) same ∙ same_name_refl id) in
        rw here refl
    by false f found rest_is = by_rest (bytes_eq name id) (rest_is found)
      where
        by_rest : (b : Bool) → list_any (bytes_eq name) (ids_of rest) ≡ true → (b || list_any (bytes_eq name) (ids_of rest)) ≡ true
        by_rest true h = refl
        by_rest false h = h

-- an id of a graph object has its node
pub node_there : (nodes : Nodes) (name : List ℕ) → Contains (ids_of nodes) name → node_named name nodes ≡ None → ⊥
node_there no_nodes name has none = let below : has.0 < 0 = has.1 in absurd (omega arith)
node_there (node id process_id namespace arguments rest) name has none =
    by (same_name id name) refl none has.0 has.1 has.2 (λ later none. node_there rest name later none)
  where
    by : (b : Bool) → same_name id name ≡ b → (if b then Some (record { id = id; process_id = process_id; namespace = namespace; arguments = arguments }) else node_named name rest) ≡ None
        → (k : ℕ) → k < length (ids_of (node id process_id namespace arguments rest)) → slice_index_or (ids_of (node id process_id namespace arguments rest)) k name ≡ name
        → (Contains (ids_of rest) name → node_named name rest ≡ None → ⊥) → ⊥
    by true same none k below is later = absurd cc
    by false same none zero below is later = true≢false (sym (same_name_refl name) ∙ (ap (λ i. same_name i name) (sym is) ∙ same))
    by false same none (suc k) below is later = later (k, omega arith, is) none

-- the node at an index, by its name
pub id_at_is : (nodes : Nodes) (k : ℕ) (n : PlainNode) → slice_get (each_node nodes) k ≡ Some n → id_at k nodes ≡ n.id
id_at_is no_nodes k n at = absurd cc
id_at_is (node id process_id namespace arguments rest) zero n at =
    let same : record { id = id; process_id = process_id; namespace = namespace; arguments = arguments } ≡ n = cc in
    ap (λ (m : PlainNode). m.id) same
id_at_is (node id process_id namespace arguments rest) (suc k) n at = id_at_is rest k n at

pub contains_node : (ns : Nodes) (k : ℕ) (n : PlainNode) → slice_get (each_node ns) k ≡ Some n → Contains (each_node ns) n
contains_node ns k n at = (k, slice_get_within (each_node ns) k n at, get_or_from_slice_get (each_node ns) k n n at)

pub index_of_node : (ns : Nodes) (n : PlainNode) → Contains (each_node ns) n → (k : ℕ) × (slice_get (each_node ns) k ≡ Some n)
index_of_node ns n has = (has.0, slice_get-get_or (each_node ns) has.0 n has.1 ∙ ap Some has.2)

pub id_within : (ns : Nodes) (k : ℕ) (n : PlainNode) → slice_get (each_node ns) k ≡ Some n → Contains (ids_of ns) n.id
id_within no_nodes k n at = absurd cc
id_within (node id p s args rest) zero n at =
    let same : record { id = id; process_id = p; namespace = s; arguments = args } ≡ n = cc in
    (0, omega arith, ap (λ (m : PlainNode). m.id) same)
id_within (node id p s args rest) (suc k) n at =
    let later = id_within rest k n at in
    let below = later.1 in
    (suc later.0, omega arith, later.2)

module _ (nodes : Nodes) where
  leads_on : {a b c : List ℕ} → Leads nodes a b → Refers nodes b c → Leads nodes a c
  leads_on (refers r) s = onwards r (refers s)
  leads_on (onwards r l) s = onwards r (leads_on l s)

  -- a way down the references from a node, of one node more than the number says
  abbrev Chain : ℕ → List ℕ → Type 0
  Chain zero name = (n : PlainNode) × (node_named name nodes ≡ Some n)
  Chain (suc k) name = (n : PlainNode) × (node_named name nodes ≡ Some n) × ((other : List ℕ) × Contains (references_named n.arguments) other × Chain k other)

  refers_to : {name other : List ℕ} {n : PlainNode} → node_named name nodes ≡ Some n → Contains (references_named n.arguments) other → Refers nodes name other
  refers_to {name} {other} {n} is h =
      let there = node_is nodes name n is in
      record { from = n; is_node = there.0; is_named = there.1; refers = h }

  -- ---- a chain has as many nodes at most as there are, since all of it differ

  abbrev Each : (List ℕ → Type 0) → List (List ℕ) → Type 0
  Each P names = AllByRecursion P names

  each_map : (P Q : List ℕ → Type 0) (names : List (List ℕ)) → ((name : List ℕ) → P name → Q name) → Each P names → Each Q names
  each_map P Q [] f h = tt
  each_map P Q (name ∷ names) f h = (f name h.0, each_map P Q names f h.1)

  abbrev in_nodes : List ℕ → Type 0
  in_nodes name = list_any (bytes_eq name) (ids_of nodes) ≡ true

  members : (names : List (List ℕ)) → Each in_nodes names → (q : List ℕ) → list_any (bytes_eq q) names ≡ true → in_nodes q
  members [] h q m = absurd (true≢false (sym m))
  members (name ∷ names) h q m = by (bytes_eq q name) refl m (members names h.1 q)
    where
      by : (b : Bool) → bytes_eq q name ≡ b → (b || list_any (bytes_eq q) names) ≡ true → (list_any (bytes_eq q) names ≡ true → in_nodes q) → in_nodes q
      by true t found rest_is = subst in_nodes (same_name_is q name (sym (same_name-bytes_eq q name) ∙ t)) h.0
      by false f found rest_is = rest_is found

  module _ (acyclic : (id : List ℕ) → Leads nodes id id → ⊥) where
    differs : (q name : List ℕ) → Leads nodes q name → bytes_eq name q ≡ false
    differs q name l = by (bytes_eq name q) refl
      where
        by : (b : Bool) → bytes_eq name q ≡ b → b ≡ false
        by true t = absurd (acyclic q (subst (λ k. Leads nodes q k) (sym (same_name_is name q (sym (same_name-bytes_eq name q) ∙ t))) l))
        by false f = refl

    few : (names : List (List ℕ)) → IsDistinct bytes_eq names → Each in_nodes names → length names ≤ node_count nodes
    few names distinct inside =
        let some = length-le_from_is_member nat_list_eq_equiv names (ids_of nodes) distinct (members names inside) in
        let count = length-ids_of nodes in
        omega arith

    long : (k : ℕ) (name : List ℕ) (seen : List (List ℕ)) → IsDistinct bytes_eq seen → Each (λ q. Leads nodes q name) seen → Each in_nodes seen
        → Chain k name → suc k + length seen ≤ node_count nodes
    long zero name seen distinct leads inside c =
        let all = few (name ∷ seen) (IsDistinct-cons bytes_eq name seen (each_map (λ q. Leads nodes q name) (λ q. bytes_eq name q ≡ false) seen (λ q l. differs q name l) leads) distinct) (in_ids nodes name c.0 c.1, inside) in
        omega arith
    long (suc k) name seen distinct leads inside c =
        let step : Refers nodes name c.2.0 = refers_to c.1 c.2.1 in
        let rest = long k c.2.0 (name ∷ seen) (IsDistinct-cons bytes_eq name seen (each_map (λ q. Leads nodes q name) (λ q. bytes_eq name q ≡ false) seen (λ q l. differs q name l) leads) distinct)
        (refers step, each_map (λ q. Leads nodes q name) (λ q. Leads nodes q c.2.0) seen (λ q l. leads_on l step) leads) (in_ids nodes name c.0 c.1, inside) c.2.2 in
        omega arith

    no_chain : (name : List ℕ) → Chain (node_count nodes) name → ⊥
    unfolding IsDistinct
    no_chain name c =
        let bound = long (node_count nodes) name [] tt tt tt c in
        absurd (omega arith)

  -- ---- the turns that are enough

  module _ {A : Type 0} (other : A) (step : (List ℕ → A) → PlainNode → A) (looks : LooksDown step) where
    stable : (k : ℕ) (name : List ℕ) → (Chain k name → ⊥) → within_turns k other step nodes name ≡ within_turns (suc k) other step nodes name
    stable zero name nay = by (node_named name nodes) refl
      where
        by : (found : Option PlainNode) → node_named name nodes ≡ found
            → within_turns zero other step nodes name ≡ within_turns (suc zero) other step nodes name
        by None e = rw e refl
        by (Some n) e = absurd (nay (n, e))
    stable (suc k) name nay = by (node_named name nodes) refl (stable k)
      where
        by : (found : Option PlainNode) → node_named name nodes ≡ found
            → ((r : List ℕ) → (Chain k r → ⊥) → within_turns k other step nodes r ≡ within_turns (suc k) other step nodes r)
            → within_turns (suc k) other step nodes name ≡ within_turns (suc (suc k)) other step nodes name
        by None e below = rw e refl
        by (Some n) e below = rw e (looks n _ _ (λ r h. below r (λ c. nay (n, e, (r, h, c)))))

    pub unfolds : ((id : List ℕ) → Leads nodes id id → ⊥) → (name : List ℕ) → UnfoldsAt other step nodes name
    unfolding down_from
    unfolds acyclic name n e =
        stable (node_count nodes) name (no_chain acyclic name) ∙ rw e refl
