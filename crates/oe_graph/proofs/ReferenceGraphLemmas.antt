-- The references between the nodes of a graph object: by index, and where they lead.
use Rattle.std.proofs.Common.{◌≡◌, ◌<◌, ℕ, zero, suc, ◌+◌, ◌&&◌, inl, inr, Bool, true, false, List, [], ◌∷◌, ◌++◌, append_assoc, Option, Some, None, Contains, length, map, take, get_or, slice_get, refl, sym, ap, ◌∙◌, subst, arith}
use Rattle.std.specs.Option.{option_to_list}
use Rattle.std.specs.Prelude.{is_some}
use Rattle.std.proofs.lemmas.List.{length-map, map-append}
use Rattle.std.proofs.lemmas.List.Elements.{Contains-append_left, Contains-append_right, Contains-append_cases}
use Rattle.oe_memory.proofs.Lists.{first_of, first_or_later, later_of, take_next}
use Rattle.oe_graph.proofs.ElementLemmas.{index_there, same_some, there_at}
use Rattle.oe_dims.specs.Names.{names_rise}
use Rattle.oe_graph.specs.Indices.{AreNodesSorted, index_named, indices_named, are_known, reference_node, reference_graph}
use Rattle.oe_graph.specs.Plain.{plain_node}
use Rattle.oe_graph.specs.Printed.{ids_of, node_count}
use Rattle.oe_graph.specs.References as graph
use Rattle.oe_graph.specs.References.{each_node, references_named, Refers, Leads}
use Rattle.oe_graph.specs.Tree.{Nodes, PlainNode, nodes_from_list}
use Rattle.oe_graph.specs.declared.tree.Node.{Node}
use Rattle.oe_graph.proofs.SearchLemmas.{each_count, found_at, id_there, named_there, named_within, one_index}
use Rattle.oe_order.specs.Graph as order
use Rattle.oe_order.specs.Graph.{arguments, graph_of, is_load, IsAcyclic, RefersWithin, Reaches}
use Rattle.oe_order.specs.Sorted.{AreAllSorted, AreNoLoads, AreSorted}
use Rattle.oe_order.specs.declared.Links.{Links}
use Rattle.oe_order.proofs.Graphs.{length-graph_of}

-- ---- the nodes, one by one

pub each_nodes : (ns : List PlainNode) → each_node (nodes_from_list ns) ≡ ns
each_nodes [] = refl
each_nodes (n ∷ ns) = ap (λ ms. n ∷ ms) (each_nodes ns)

pub nodes_next : (ns : List Node) (i : ℕ) (n : Node) → i < length ns → n ≡ get_or ns i n
    → map plain_node (take (i + 1) ns) ≡ map plain_node (take i ns) ++ plain_node n ∷ []
nodes_next ns i n below is = ap (map plain_node) (take_next ns i n below is) ∙ map-append plain_node (take i ns) (n ∷ [])

-- ---- the indices of references, one after the other

module _ (nodes : Nodes) where
  indices_more : (r s : List (List ℕ)) → indices_named nodes (r ++ s) ≡ indices_named nodes r ++ indices_named nodes s
  indices_more [] s = refl
  indices_more (id ∷ r) s =
      ap (λ xs. option_to_list (index_named nodes id) ++ xs) (indices_more r s)
      ∙ sym (append_assoc (option_to_list (index_named nodes id)) (indices_named nodes r) (indices_named nodes s))

  -- the indices of more references, behind those of the first ones
  pub pushed_more : (r s : List (List ℕ)) (old mid new : List ℕ) → mid ≡ old ++ indices_named nodes r
      → new ≡ mid ++ indices_named nodes s → new ≡ old ++ indices_named nodes (r ++ s)
  pushed_more r s old mid new first second =
      second
      ∙ ap (λ xs. xs ++ indices_named nodes s) first
      ∙ append_assoc old (indices_named nodes r) (indices_named nodes s)
      ∙ ap (λ xs. old ++ xs) (sym (indices_more r s))

  true_last : (b : Bool) → b ≡ (b && true)
  true_last true = refl
  true_last false = refl

  swapped : (a b c : Bool) → (a && (b && c)) ≡ (b && (a && c))
  swapped true b c = refl
  swapped false true c = refl
  swapped false false c = refl

  known_both : (r s : List (List ℕ)) → are_known nodes (r ++ s) ≡ (are_known nodes s && are_known nodes r)
  known_both [] s = true_last (are_known nodes s)
  known_both (id ∷ r) s =
      ap (λ b. is_some (index_named nodes id) && b) (known_both r s)
      ∙ swapped (is_some (index_named nodes id)) (are_known nodes s) (are_known nodes r)

  -- where the references of one more argument all name nodes, and where one does not
  pub known_more : (r s : List (List ℕ)) → are_known nodes s ≡ true → are_known nodes r ≡ are_known nodes (r ++ s)
  known_more r s is = sym (known_both r s ∙ ap (λ b. b && are_known nodes r) is)

  pub unknown_more : (r s : List (List ℕ)) → are_known nodes s ≡ false → false ≡ are_known nodes (r ++ s)
  unknown_more r s is = sym (known_both r s ∙ ap (λ b. b && are_known nodes r) is)

  -- one reference
  pub pushed_one : (id : List ℕ) (k : ℕ) (old new : List ℕ) → Some k ≡ index_named nodes id → new ≡ old ++ k ∷ []
      → new ≡ old ++ indices_named nodes (id ∷ [])
  pushed_one id k old new is pushed = pushed ∙ ap (λ o. old ++ (option_to_list o ++ [])) is

  pub known_one : (id : List ℕ) (k : ℕ) → Some k ≡ index_named nodes id → true ≡ are_known nodes (id ∷ [])
  known_one id k is = ap (λ o. is_some o && true) is

  pub pushed_none : (id : List ℕ) (old : List ℕ) → None ≡ index_named nodes id → old ++ [] ≡ old ++ indices_named nodes (id ∷ [])
  pushed_none id old is = ap (λ (o : Option ℕ). old ++ (option_to_list o ++ [])) is

  pub unknown_one : (id : List ℕ) → None ≡ index_named nodes id → false ≡ are_known nodes (id ∷ [])
  unknown_one id is = ap (λ (o : Option ℕ). is_some o && true) is

  -- an index among those of references is that of one of them
  none_among : (b : ℕ) → Contains [] b → ⊥
  none_among b has = let below : has.0 < 0 = has.1 in absurd (omega arith)

  of_option : (o : Option ℕ) (b : ℕ) → Contains (option_to_list o) b → o ≡ Some b
  of_option None b has = absurd (none_among b has)
  of_option (Some k) b has = elim (first_or_later k [] b has.0 has.1 has.2) [
    | inl is ↦ ap Some is
    | inr later ↦ absurd (none_among b later)
  ]

  pub indices_from : (r : List (List ℕ)) (b : ℕ) → Contains (indices_named nodes r) b
      → (id : List ℕ) × Contains r id × (index_named nodes id ≡ Some b)
  indices_from [] b has = absurd (none_among b has)
  indices_from (id ∷ r) b has = elim (Contains-append_cases (option_to_list (index_named nodes id)) (indices_named nodes r) b has) [
    | inl here ↦ (id, first_of id r, of_option (index_named nodes id) b here)
    | inr there ↦ let one = indices_from r b there in (one.0, later_of id r one.0 one.1, one.2)
  ]

  no_id : (id : List ℕ) → Contains [] id → ⊥
  no_id id has = let below : has.0 < 0 = has.1 in absurd (omega arith)

  pub indices_to : (r : List (List ℕ)) (id : List ℕ) (b : ℕ) → Contains r id → index_named nodes id ≡ Some b
      → Contains (indices_named nodes r) b
  indices_to [] id b has is = absurd (no_id id has)
  indices_to (x ∷ r) id b has is = elim (first_or_later x r id has.0 has.1 has.2) [
    | inl same ↦ Contains-append_left (option_to_list (index_named nodes x)) (indices_named nodes r) b
        (subst (λ o. Contains (option_to_list o) b) (sym (ap (index_named nodes) same ∙ is)) (first_of b []))
    | inr later ↦ Contains-append_right (option_to_list (index_named nodes x)) (indices_named nodes r) b (indices_to r id b later is)
  ]

-- ---- nodes of a graph by index that are made of the nodes of a graph object

module _ (f : PlainNode → order.Node) where
  pub arguments_of : (ns : List PlainNode) (k : ℕ) (n : PlainNode) → slice_get ns k ≡ Some n
      → arguments (map f ns) k ≡ (f n).arguments
  arguments_of [] k n at = absurd cc
  arguments_of (m ∷ ns) zero n at = let same : m ≡ n = cc in ap (λ (x : PlainNode). (f x).arguments) same
  arguments_of (m ∷ ns) (suc k) n at = arguments_of ns k n at

  -- where an index has references, it is that of a node
  pub referring : (ns : List PlainNode) (a b : ℕ) → Contains (arguments (map f ns) a) b
      → (n : PlainNode) × (slice_get ns a ≡ Some n) × Contains (f n).arguments b
  referring [] a b has = let below : has.0 < 0 = has.1 in absurd (omega arith)
  referring (m ∷ ns) zero b has = (m, refl, has)
  referring (m ∷ ns) (suc a) b has = referring ns a b has

-- ---- the graph of the references

none_loads : (nodes : Nodes) (ns : List PlainNode) (k : ℕ) → is_load (map (reference_node nodes) ns) k ≡ false
none_loads nodes [] k = refl
none_loads nodes (n ∷ ns) zero = refl
none_loads nodes (n ∷ ns) (suc k) = none_loads nodes ns k

pub reference_no_loads : (nodes : Nodes) → AreNoLoads (reference_graph nodes)
reference_no_loads nodes k = none_loads nodes (each_node nodes) k

pub reference_count : (nodes : Nodes) → length (reference_graph nodes) ≡ node_count nodes
reference_count nodes = length-map (each_node nodes) (reference_node nodes) ∙ each_count nodes

pub reference_within : (nodes : Nodes) → RefersWithin (reference_graph nodes)
reference_within nodes a b has =
    let from = referring (reference_node nodes) (each_node nodes) a b has in
    let one = indices_from nodes (references_named from.0.arguments) b from.2 in
    let below = named_within nodes one.0 b one.2 in
    let count = reference_count nodes in
    omega arith

module _ (nodes : Nodes) where
  step_back : (a b : ℕ) (id : List ℕ) → Contains (arguments (reference_graph nodes) a) b → slice_get (ids_of nodes) a ≡ Some id
      → (to : List ℕ) × (slice_get (ids_of nodes) b ≡ Some to) × Refers nodes id to
  step_back a b id has named =
      let from = referring (reference_node nodes) (each_node nodes) a b has in
      let n = from.0 in
      let one = indices_from nodes (references_named n.arguments) b from.2 in (
        one.0,
        named_there nodes one.0 b one.2,
        record {
          from = n;
          is_node = there_at (each_node nodes) a n from.1;
          is_named = same_some n.id id (slice_get (ids_of nodes) a) (id_there nodes a n from.1) named;
          refers = one.1;
        },
      )

  -- what leads by index leads by id
  pub leads_from : (a b : ℕ) (id to : List ℕ) → Reaches (reference_graph nodes) a b → slice_get (ids_of nodes) a ≡ Some id
      → slice_get (ids_of nodes) b ≡ Some to → Leads nodes id to
  leads_from a b id to (order.refers has) named named_to =
      let next = step_back a b id has named in
      subst (λ name. Leads nodes id name) (same_some next.0 to (slice_get (ids_of nodes) b) next.1 named_to)
      (graph.refers next.2)
  leads_from a c id to (order.onwards {b = b} has rest) named named_to =
      let next = step_back a b id has named in
      graph.onwards next.2 (leads_from b c next.0 to rest next.1 named_to)

  starting : (a b : ℕ) → Reaches (reference_graph nodes) a b → (n : PlainNode) × (slice_get (each_node nodes) a ≡ Some n)
  starting a b (order.refers has) =
      let from = referring (reference_node nodes) (each_node nodes) a b has in (from.0, from.1)
  starting a c (order.onwards {b = b} has rest) =
      let from = referring (reference_node nodes) (each_node nodes) a b has in (from.0, from.1)

  module _ (acyclic : (id : List ℕ) → Leads nodes id id → ⊥) where
    reference_acyclic : IsAcyclic (reference_graph nodes)
    reference_acyclic a reaches =
        let from = starting a a reaches in
        let named : slice_get (ids_of nodes) a ≡ Some from.0.id = id_there nodes a from.0 from.1 in
        acyclic from.0.id (leads_from a a from.0.id from.0.id reaches named named)

    -- the nodes are sorted where their links are, since no references lead back
    pub nodes_sorted : (links : List Links) (indices : List ℕ) → graph_of links ≡ reference_graph nodes
        → AreAllSorted (graph_of links) indices
        → (IsAcyclic (graph_of links) → (n : ℕ) → n < length links → Contains indices n) → AreNodesSorted nodes indices
    nodes_sorted links indices is are all = record {
      sorted = subst (λ xs. AreSorted xs indices) is are.sorted;
      all = λ index below.
          all (subst IsAcyclic (sym is) reference_acyclic) index
          (let long : length links ≡ node_count nodes = sym (length-graph_of links) ∙ (ap length is ∙ reference_count nodes) in
          omega arith);
    }

  module _ (rise : names_rise (ids_of nodes) ≡ true) where
    step_on : (a : ℕ) (id to : List ℕ) → slice_get (ids_of nodes) a ≡ Some id → Refers nodes id to → Contains (ids_of nodes) to
        → (b : ℕ) × Contains (arguments (reference_graph nodes) a) b × (slice_get (ids_of nodes) b ≡ Some to)
    step_on a id to named r there =
        let at = index_there (each_node nodes) r.from r.is_node in
        let same : at.index ≡ a =
        one_index (ids_of nodes) rise at.index a id
        (id_there nodes at.index r.from at.is_there ∙ ap Some r.is_named) named in
        let end = index_there (ids_of nodes) to there in
        let has : Contains (indices_named nodes (references_named r.from.arguments)) end.index =
        indices_to nodes (references_named r.from.arguments) to end.index r.refers
        (found_at (ids_of nodes) end.index to rise end.is_there) in (
          end.index,
          subst (λ k. Contains (arguments (reference_graph nodes) k) end.index) same
              (subst (λ xs. Contains xs end.index)
              (sym (arguments_of (reference_node nodes) (each_node nodes) at.index r.from at.is_there)) has),
          end.is_there,
        )

    starts : (id to : List ℕ) → Refers nodes id to → Contains (ids_of nodes) id
    starts id to r =
        let at = index_there (each_node nodes) r.from r.is_node in
        there_at (ids_of nodes) at.index id (id_there nodes at.index r.from at.is_there ∙ ap Some r.is_named)

    lead_start : (id to : List ℕ) → Leads nodes id to → Contains (ids_of nodes) id
    lead_start id to (graph.refers r) = starts id to r
    lead_start id to (graph.onwards {b = next} r rest) = starts id next r

    -- and what leads by id leads by index
    pub reaches_from : (a b : ℕ) (id to : List ℕ) → Leads nodes id to → slice_get (ids_of nodes) a ≡ Some id
        → slice_get (ids_of nodes) b ≡ Some to → Reaches (reference_graph nodes) a b
    reaches_from a b id to (graph.refers r) named named_to =
        let next = step_on a id to named r (there_at (ids_of nodes) b to named_to) in
        order.refers (subst (λ k. Contains (arguments (reference_graph nodes) a) k)
        (one_index (ids_of nodes) rise next.0 b to next.2 named_to) next.1)
    reaches_from a b id to (graph.onwards {b = middle} r rest) named named_to =
        let next = step_on a id middle named r (lead_start middle to rest) in
        order.onwards next.1 (reaches_from next.0 b middle to rest next.2 named_to)
