-- Nodes found by their ids.
use Rattle.std.proofs.Common.{◌≡◌, ◌≢◌, ℕ, zero, suc, ◌+◌, ◌<◌, ◌≤◌, ◌⊎◌, inl, inr, true, false, List, [], ◌∷◌, Option, Some, None, Contains, length, get_or, slice_get, drop, refl, sym, ap, ◌∙◌, subst, true≢false, arith}
use Rattle.oe_graph.proofs.ElementLemmas.{index_there, same_some}
use Rattle.oe_dims.specs.Indices.{index_where}
use Rattle.oe_dims.specs.Names.{same_name, is_name_before, names_rise}
use Rattle.oe_dims.proofs.DistinctLemmas.{names_rise-sorted}
use Rattle.oe_dims.proofs.IndexLemmas.{index_where_passes, index_where_within}
use Rattle.oe_dims.proofs.NameOrderLemmas.{before_trans, head_before, names_sorted, not_before_itself, tail_rises}
use Rattle.oe_dims.proofs.OrderLemmas.{same_name_is, same_name_refl}
use Rattle.oe_dims.proofs.ReaderLemmas.{IsUnrepeated-names, found_there}
use Rattle.oe_graph.specs.Indices.{index_named}
use Rattle.oe_graph.specs.Plain.{plain_nodes}
use Rattle.oe_graph.specs.Printed.{ids_of, node_count}
use Rattle.oe_graph.specs.References.{each_node}
use Rattle.oe_graph.specs.Tree.{Nodes, no_nodes, node, PlainNode}
use Rattle.oe_graph.specs.declared.tree.Node.{Node}
use Rattle.oe_graph.proofs.PartLemmas.{node_parts}

-- ---- ids of nodes

pub ids_count : (ns : List Node) → length (ids_of (plain_nodes ns)) ≡ length ns
ids_count [] = refl
ids_count (n ∷ ns) = let rest : length (ids_of (plain_nodes ns)) ≡ length ns = ids_count ns in omega arith

pub node_count-plain : (ns : List Node) → node_count (plain_nodes ns) ≡ length ns
node_count-plain [] = refl
node_count-plain (n ∷ ns) = ap suc (node_count-plain ns)

pub ids_length : (nodes : Nodes) → length (ids_of nodes) ≡ length (each_node nodes)
ids_length no_nodes = refl
ids_length (node id p s args rest) = let longer : length (ids_of rest) ≡ length (each_node rest) = ids_length rest in omega arith

pub each_count : (nodes : Nodes) → length (each_node nodes) ≡ node_count nodes
each_count no_nodes = refl
each_count (node id p s args rest) = ap suc (each_count rest)

-- the id at the index of a node
pub id_there : (nodes : Nodes) (a : ℕ) (n : PlainNode) → slice_get (each_node nodes) a ≡ Some n → slice_get (ids_of nodes) a ≡ Some n.id
id_there no_nodes a n is = absurd cc
id_there (node id p s args rest) zero n is =
    let same : record { id = id; process_id = p; namespace = s; arguments = args } ≡ n = cc in
    ap (λ (m : PlainNode). Some m.id) same
id_there (node id p s args rest) (suc a) n is = id_there rest a n is

-- the node at an index has an id
pub id_by : (ns : List Node) (i : ℕ) (n : Node) (id : List ℕ) → i < length ns → n ≡ get_or ns i n → same_name n.id id ≡ true
    → slice_get (ids_of (plain_nodes ns)) i ≡ Some id
id_by [] i n id below is same = absurd (omega arith)
id_by (m ∷ ns) zero n id below is same =
    ap Some (ap (λ (k : PlainNode). k.id) (node_parts m) ∙ ap (λ (k : Node). k.id) (sym is) ∙ sym (same_name_is n.id id same))
id_by (m ∷ ns) (suc i) n id below is same = id_by ns i n id (omega arith) is same

-- the id of the node at an index
pub id_at_index : (ns : List Node) (i : ℕ) (n : Node) → i < length ns → n ≡ get_or ns i n
    → slice_get (ids_of (plain_nodes ns)) i ≡ Some n.id
id_at_index ns i n below is = id_by ns i n n.id below is (same_name_refl n.id)

-- ---- an id has one index

not_later : (a : List ℕ) (names : List (List ℕ)) → names_rise (a ∷ names) ≡ true → (j : ℕ) → slice_get names j ≡ Some a → ⊥
not_later a names rise j is = true≢false (sym (head_before a names rise j a is) ∙ not_before_itself a)

pub one_index : (names : List (List ℕ)) → names_rise names ≡ true → (i j : ℕ) (n : List ℕ)
    → slice_get names i ≡ Some n → slice_get names j ≡ Some n → i ≡ j
one_index [] rise i j n is_i is_j = absurd cc
one_index (a ∷ names) rise zero zero n is_i is_j = refl
one_index (a ∷ names) rise zero (suc j) n is_i is_j =
    let same : a ≡ n = cc in
    absurd (not_later a names rise j (subst (λ m. slice_get names j ≡ Some m) (sym same) is_j))
one_index (a ∷ names) rise (suc i) zero n is_i is_j =
    let same : a ≡ n = cc in
    absurd (not_later a names rise i (subst (λ m. slice_get names i ≡ Some m) (sym same) is_i))
one_index (a ∷ names) rise (suc i) (suc j) n is_i is_j = ap suc (one_index names (tail_rises a names rise) i j n is_i is_j)

-- each later name stands behind the first
pub rises_before : (a : List ℕ) (names : List (List ℕ)) (b : List ℕ) → names_rise (a ∷ names) ≡ true → Contains names b
    → is_name_before a b ≡ true
rises_before a names b rise has = let at = index_there names b has in head_before a names rise at.index b at.is_there

-- ---- where ids rise

pub below_or_not : (k n : ℕ) → (k < n) ⊎ (n ≤ k)
below_or_not k zero = inr (omega arith)
below_or_not zero (suc n) = inl (omega arith)
below_or_not (suc k) (suc n) = elim (below_or_not k n) [ inl less ↦ inl (omega arith) | inr more ↦ inr (omega arith) ]

apart : (names : List (List ℕ)) → names_rise names ≡ true → (i j : ℕ) (a b : List ℕ) → i < j
    → slice_get names i ≡ Some a → slice_get names j ≡ Some b → is_name_before a b ≡ true
apart [] rise i j a b less is_i is_j = absurd cc
apart (n ∷ names) rise i zero a b less is_i is_j = absurd (omega arith)
apart (n ∷ names) rise zero (suc j) a b less is_i is_j =
    let same : n ≡ a = cc in subst (λ m. is_name_before m b ≡ true) same (head_before n names rise j b is_j)
apart (n ∷ names) rise (suc i) (suc j) a b less is_i is_j = apart names (tail_rises n names rise) i j a b (omega arith) is_i is_j

-- an id stands above the index of a name before it, and not above that of any other
pub stands_above : (names : List (List ℕ)) → names_rise names ≡ true → (i k : ℕ) (m id : List ℕ) → slice_get names i ≡ Some m
    → is_name_before m id ≡ true → slice_get names k ≡ Some id → i + 1 ≤ k
stands_above names rise i k m id middle before is = elim (below_or_not i k) [
  | inl less ↦ omega (arith, less)
  | inr more ↦ elim (below_or_not k i) [
    | inl less ↦ absurd (true≢false (sym (before_trans id m id (apart names rise k i id m less is middle) before) ∙ not_before_itself id))
    | inr less ↦
        let here : i ≡ k = omega (arith, more, less) in
        let same : m ≡ id = same_some m id (slice_get names k) (subst (λ j. slice_get names j ≡ Some m) here middle) is in
        absurd (true≢false (sym (subst (λ n. is_name_before n id ≡ true) same before) ∙ not_before_itself id))
  ]
]

pub stands_within : (names : List (List ℕ)) → names_rise names ≡ true → (i k : ℕ) (m id : List ℕ) → slice_get names i ≡ Some m
    → is_name_before m id ≡ false → slice_get names k ≡ Some id → k ≤ i
stands_within names rise i k m id middle not_before is = elim (below_or_not i k) [
  | inl less ↦ absurd (true≢false (sym (apart names rise i k m id less middle is) ∙ not_before))
  | inr more ↦ more
]

-- ---- the index of an id

-- what stands at the index of an id
pub named_there : (nodes : Nodes) (id : List ℕ) (k : ℕ) → index_named nodes id ≡ Some k → slice_get (ids_of nodes) k ≡ Some id
named_there nodes id k is =
    let found = index_where_passes (λ (other : List ℕ). same_name other id) (ids_of nodes) k is in
    found.1 ∙ ap Some (sym (same_name_is found.0 id found.2))

pub named_within : (nodes : Nodes) (id : List ℕ) (k : ℕ) → index_named nodes id ≡ Some k → k < node_count nodes
named_within nodes id k is =
    let below = index_where_within (λ (other : List ℕ). same_name other id) (ids_of nodes) k is in
    let long : length (ids_of nodes) ≡ node_count nodes = ids_length nodes ∙ each_count nodes in
    omega arith

-- among ids that rise, the index at which an id stands is the one that is found
pub found_at : (ids : List (List ℕ)) (k : ℕ) (id : List ℕ) → names_rise ids ≡ true → slice_get ids k ≡ Some id
    → index_where (λ (other : List ℕ). same_name other id) ids ≡ Some k
found_at ids k id rise at =
    found_there (λ (a b : List ℕ). same_name b a) same_name_refl (λ a b is. sym (same_name_is b a is)) ids
    (IsUnrepeated-names ids (sym (names_rise-sorted ids (names_sorted ids rise)) ∙ rise)) id k _ refl at

-- an id has no index that may stand at one index alone, and does not stand there
pub absent_at : (ids : List (List ℕ)) (i : ℕ) (id : List ℕ) → ((k : ℕ) → slice_get ids k ≡ Some id → i ≡ k)
    → slice_get ids i ≢ Some id → None ≡ index_where (λ (other : List ℕ). same_name other id) ids
absent_at ids i id only missed = by (index_where (λ (other : List ℕ). same_name other id) ids) refl
  where
    by : (o : Option ℕ) → index_where (λ (other : List ℕ). same_name other id) ids ≡ o → None ≡ o
    by None is = refl
    by (Some k) is =
        let found = index_where_passes (λ (other : List ℕ). same_name other id) ids k is in
        let at : slice_get ids k ≡ Some id = found.1 ∙ ap Some (sym (same_name_is found.0 id found.2)) in
        absurd (missed (subst (λ j. slice_get ids j ≡ Some id) (sym (only k at)) at))

-- ---- whether ids rise

pub rise_end : (ns : List Node) (k : ℕ) → length ns ≤ k + 1 → names_rise (ids_of (plain_nodes (drop k ns))) ≡ true
rise_end [] zero short = refl
rise_end [] (suc k) short = refl
rise_end (n ∷ []) zero short = refl
rise_end (n ∷ m ∷ ns) zero short = absurd (omega arith)
rise_end (n ∷ ns) (suc k) short = rise_end ns k (omega arith)
