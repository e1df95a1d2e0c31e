-- The callback of running sums: of the nodes that are something else and refer to none that is, the first has the least
-- fault.
use Rattle.std.proofs.Common.{◌≡◌, ℕ, zero, suc, ◌+◌, ◌<◌, ◌≤◌, Bool, true, false, ◌&&◌, if◌then◌else◌, true≢false, List, [], ◌∷◌, ◌++◌, Option, Some, None, is_some, is_none, Ordering, Less, Equal, Greater, nat_cmp, length, map, drop, get_or, slice_get, Contains, inl, inr, refl, sym, ap, ◌∙◌, subst, arith}
use Rattle.std.specs.Prelude.{codes, option_and_then, option_map, unwrap_or}
use Rattle.std.specs.Cmp.Lexicographic.{slice_cmp}
use Rattle.std.specs.Ordering.{ordering_then, is_lt}
use Rattle.std.proofs.lemmas.Bool.{and_parts}
use Rattle.std.proofs.lemmas.Cmp.{nat_cmp_total, tied_itself}
use Rattle.std.proofs.lemmas.List.{at_drop_more, drop_all, get_or-map}
use Rattle.std.proofs.lemmas.Option.{get_or_from_slice_get, slice_get-map, slice_get_within}
use Rattle.oe_dims.specs.Names.{is_name_before, names_rise, same_name}
use Rattle.oe_dims.proofs.NameOrderLemmas.{before_trans, tail_rises}
use Rattle.oe_expr.specs.Nodes.{node_named}
use Rattle.oe_expr.specs.Requests.{flag_in, passes, read}
use Rattle.oe_graph.specs.Faults.{is_before, IsLeastFault}
use Rattle.oe_graph.specs.Form.{callback_name, node_name}
use Rattle.oe_graph.specs.Indices.{are_known, index_named, indices_named, reference_graph}
use Rattle.oe_graph.specs.Plain.{plain_graph, plain_named, plain_node, plain_nodes}
use Rattle.oe_graph.specs.Printed.{ids_of}
use Rattle.oe_graph.specs.References.{each_node, references_named}
use Rattle.oe_graph.specs.Tree.{Named, Nodes, no_nodes, node, PlainGraph, PlainNode}
use Rattle.oe_graph.specs.declared.code.Code.{Code}
use Rattle.oe_graph.specs.declared.code.Code.TheVariants.{ProcessParameterInvalid}
use Rattle.oe_graph.specs.declared.fault.Fault.{Fault}
use Rattle.oe_graph.specs.declared.tree.Graph.{Graph, out-Graph}
use Rattle.oe_graph.specs.declared.tree.Node.{Node}
use Rattle.oe_graph.proofs.LeastLemmas.{IsLeastFault-iff, before_not_after, not_before_itself}
use Rattle.oe_graph.proofs.PartLemmas.{graph_parts, node_parts}
use Rattle.oe_graph.proofs.ReferenceGraphLemmas.{reference_count}
use Rattle.oe_graph.proofs.StateLemmas.{references_at}
use Rattle.oe_order.specs.Graph.{graph_of}
use Rattle.oe_order.specs.declared.Links.{Links}
use Rattle.oe_order.proofs.Graphs.{length-graph_of}
use Rattle.oe_expr.proofs.StateLemmas.{count_plain, each_plain, node_at_index, plain_id, shift}
use Rattle.oe_requests.proofs.InsideLemmas.{begins}
use Rattle.oe_requests.specs.RunningSums.{is_data, running_sum_at, ignores_nulls, are_sums_at, are_sums_named, fault_stands_at, StandsInSums, AreSums, IsSumsFault}
use Rattle.oe_memory.proofs.Lists.{first_of, first_or_later, later_of}

-- ---- names in order

abbrev the_id : PlainNode → List ℕ
the_id n = n.id

no_node : (n : PlainNode) → Contains [] n → ⊥
no_node n has = let below : has.0 < 0 = has.1 in absurd (omega arith)

later_before : (a : List ℕ) (ns : List PlainNode) (n : PlainNode) → names_rise (a ∷ map the_id ns) ≡ true → Contains ns n → is_name_before a n.id ≡ true
later_before a [] n rise has = absurd (no_node n has)
later_before a (m ∷ ns) n rise has =
    let parts = and_parts (is_name_before a m.id) (names_rise (m.id ∷ map the_id ns)) rise in
    elim (first_or_later m ns n has.0 has.1 has.2) [
      | inl is ↦ subst (λ (x : PlainNode). is_name_before a x.id ≡ true) is parts.0
      | inr later ↦ before_trans a m.id n.id parts.0 (later_before m.id ns n parts.1 later)
    ]

same_front : (front a b : List ℕ) → slice_cmp nat_cmp (front ++ a) (front ++ b) ≡ slice_cmp nat_cmp a b
same_front [] a b = refl
same_front (c ∷ front) a b = let same : nat_cmp c c ≡ Equal = tied_itself nat_cmp_total c in rw same (same_front front a b)

leads_by : (o p : Ordering) → is_lt o ≡ true → is_lt (ordering_then o p) ≡ true
leads_by Less p is = refl
leads_by Equal p is = absurd (true≢false (sym is))
leads_by Greater p is = absurd (true≢false (sym is))

-- ---- the callback of the node of an id

module _ (id : List ℕ) where
  abbrev pub sum_name : List ℕ → List ℕ
  sum_name inner = node_name (callback_name id (codes "process")) inner

  abbrev pub sum_fault : List ℕ → Fault
  sum_fault inner = record { code = ProcessParameterInvalid; node = sum_name inner }

  names_same : (a b : List ℕ) → slice_cmp nat_cmp (sum_name a) (sum_name b) ≡ slice_cmp nat_cmp a b
  names_same a b =
      let argument = codes "process" in
      ap (λ xs. slice_cmp nat_cmp xs (sum_name b)) (begins id argument a)
      ∙ (ap (slice_cmp nat_cmp (id ++ 47 ∷ (argument ++ 47 ∷ a))) (begins id argument b)
      ∙ same_front id (47 ∷ (argument ++ 47 ∷ a)) (47 ∷ (argument ++ 47 ∷ b)))

  earlier : (a b : List ℕ) → is_name_before a b ≡ true → is_before (sum_fault a) (sum_fault b) ≡ true
  earlier a b is = leads_by (slice_cmp nat_cmp (sum_name a) (sum_name b)) Equal (ap is_lt (names_same a b) ∙ is)

  -- a fault of one of these nodes, which are among all
  record OfSums (all : Nodes) (ns : List PlainNode) (f : Fault) : Type 0 where
    node : PlainNode
    is_node : Contains ns node
    stands : fault_stands_at all node ≡ true
    is : f ≡ sum_fault node.id

  -- the fault of the first of these nodes that has one
  pub data First (all : Nodes) : List PlainNode → Option Fault → Type 0 where
    at_end : First all [] None
    skip : {n : PlainNode} {ns : List PlainNode} {o : Option Fault} → fault_stands_at all n ≡ false → First all ns o → First all (n ∷ ns) o
    here : {n : PlainNode} {ns : List PlainNode} → fault_stands_at all n ≡ true → First all (n ∷ ns) (Some (sum_fault n.id))

  module _ (all : Nodes) where
    further : (n : PlainNode) (ns : List PlainNode) (f : Fault) → OfSums all ns f → OfSums all (n ∷ ns) f
    further n ns f s = record { node = s.node; is_node = later_of n ns s.node s.is_node; stands = s.stands; is = s.is }

    later_only : (n : PlainNode) (ns : List PlainNode) (f : Fault) → fault_stands_at all n ≡ false → OfSums all (n ∷ ns) f → OfSums all ns f
    later_only n ns f fine s = elim (first_or_later n ns s.node s.is_node.0 s.is_node.1 s.is_node.2) [
      | inl same ↦ absurd (true≢false (sym s.stands ∙ (sym (ap (fault_stands_at all) same) ∙ fine)))
      | inr later ↦ record { node = s.node; is_node = later; stands = s.stands; is = s.is }
    ]

    first_least : (ns : List PlainNode) (o : Option Fault) → names_rise (map the_id ns) ≡ true → First all ns o → IsLeastFault (OfSums all ns) o
    first_least ns o rise at_end = λ f s. no_node s.node s.is_node
    first_least ns o rise (skip {n = n} {ns = ms} fine rest) =
        IsLeastFault-iff (OfSums all ms) (OfSums all (n ∷ ms)) o (further n ms) (λ f s. later_only n ms f fine s)
        (first_least ms o (tail_rises n.id (map the_id ms) rise) rest)
    first_least ns o rise (here {n = n} {ns = ms} stands) = (
      record { node = n; is_node = first_of n ms; stands = stands; is = refl },
      λ f s. subst (λ (x : Fault). is_before x (sum_fault n.id) ≡ false) (sym s.is)
          (elim (first_or_later n ms s.node s.is_node.0 s.is_node.1 s.is_node.2) [
            | inl same ↦ subst (λ (m : PlainNode). is_before (sum_fault m.id) (sum_fault n.id) ≡ false) same (not_before_itself (sum_fault n.id))
            | inr later ↦ before_not_after (sum_fault n.id) (sum_fault s.node.id) (earlier n.id s.node.id (later_before n.id ms s.node rise later))
          ]),
    )

  module _ (g : PlainGraph) where
    to_stands : (f : Fault) → OfSums g.nodes (each_node g.nodes) f → StandsInSums g id f.code f.node
    to_stands f s = record {
      node = s.node;
      is_node = s.is_node;
      stands = s.stands;
      code_is = ap (λ (x : Fault). x.code) s.is;
      name_is = ap (λ (x : Fault). x.node) s.is;
    }

    of_stands : (code : Code) (name : List ℕ) → StandsInSums g id code name → OfSums g.nodes (each_node g.nodes) (record { code = code; node = name })
    of_stands code name s = record {
      node = s.node;
      is_node = s.is_node;
      stands = s.stands;
      is = ap (λ (c : Code). record { code = c; node = name }) s.code_is ∙ ap (λ (x : List ℕ). record { code = ProcessParameterInvalid; node = x }) s.name_is;
    }

    sums_fault_is : (o : Option Fault) → IsLeastFault (OfSums g.nodes (each_node g.nodes)) o → IsSumsFault g id o
    sums_fault_is None none = λ code name s. none (record { code = code; node = name }) (of_stands code name s)
    sums_fault_is (Some f) least = record { stands = to_stands f least.0; least = λ other s. least.1 other (of_stands other.code other.node s) }

    -- no fault stands in the callback of another node either
    pub are_sums : IsSumsFault g id None → AreSums g
    are_sums none other code name s =
        none ProcessParameterInvalid (sum_name s.node.id)
        (record { node = s.node; is_node = s.is_node; stands = s.stands; code_is = refl; name_is = refl })

ids_are : (ns : List Node) → ids_of (plain_nodes ns) ≡ map the_id (map plain_node ns)
ids_are [] = refl
ids_are (n ∷ ns) = ap (λ xs. (plain_node n).id ∷ xs) (ids_are ns)

pub first_sum : (id : List ℕ) (ns : List Node) (index : ℕ) (o : Option Fault) → names_rise (ids_of (plain_nodes ns)) ≡ true
    → First id (plain_nodes ns) (map plain_node ns) o → IsSumsFault (record { nodes = plain_nodes ns; result = index }) id o
first_sum id ns index o rise first =
    sums_fault_is id (record { nodes = plain_nodes ns; result = index }) o
    (subst (λ ms. IsLeastFault (OfSums id (plain_nodes ns) ms) o) (sym (each_plain ns))
    (first_least id (plain_nodes ns) (map plain_node ns) o (ap names_rise (sym (ids_are ns)) ∙ rise) first))

-- ---- a loop over nodes

module _ (id : List ℕ) (all : Nodes) (ns : List Node) (i : ℕ) (n : Node) where
  -- from the nodes behind one to that one and them
  first_from : (o : Option Fault) → i < length ns → n ≡ get_or ns i n
      → First id all (plain_node n ∷ map plain_node (drop (i + 1) ns)) o → First id all (map plain_node (drop i ns)) o
  first_from o more is =
      subst (λ ms. First id all ms o)
      (sym (at_drop_more (map plain_node) ns i n more ∙ ap (λ (m : Node). map plain_node (m ∷ drop (i + 1) ns)) (sym is)))

  skip_node : (o : Option Fault) → i < length ns → n ≡ get_or ns i n → fault_stands_at all (plain_node n) ≡ false
      → First id all (map plain_node (drop (i + 1) ns)) o → First id all (map plain_node (drop i ns)) o
  skip_node o more is fine rest = first_from o more is (skip fine rest)

  pub stop_node : (fault : Fault) → i < length ns → n ≡ get_or ns i n → fault_stands_at all (plain_node n) ≡ true
      → fault ≡ sum_fault id n.id → First id all (map plain_node (drop i ns)) (Some fault)
  stop_node fault more is stands named =
      first_from (Some fault) more is
      (subst (λ f. First id all (plain_node n ∷ map plain_node (drop (i + 1) ns)) (Some f))
      (sym (named ∙ ap (sum_fault id) (sym (plain_id n)))) (here stands))

some_node : (ns : List Node) (i : ℕ) → i < length ns → (n : Node) × (slice_get ns i ≡ Some n)
some_node [] i below = absurd (omega arith)
some_node (n ∷ ns) zero below = (n, refl)
some_node (n ∷ ns) (suc i) below = some_node ns i (omega arith)

-- where no fault stands at the node of an index
pub skip_index : (id : List ℕ) (all : Nodes) (ns : List Node) (i : ℕ) (o : Option Fault) → i < length ns
    → ((n : Node) → slice_get ns i ≡ Some n → fault_stands_at all (plain_node n) ≡ false)
    → First id all (map plain_node (drop (i + 1) ns)) o → First id all (map plain_node (drop i ns)) o
skip_index id all ns i o more fine rest =
    let there = some_node ns i more in
    skip_node id all ns i there.0 o more (sym (get_or_from_slice_get ns i there.0 there.0 there.1)) (fine there.0 there.1) rest

pub end_nodes : (id : List ℕ) (all : Nodes) (ns : List Node) (i : ℕ) → length ns ≤ i → First id all (map plain_node (drop i ns)) None
end_nodes id all ns i past = subst (λ (ms : List Node). First id all (map plain_node ms) None) (sym (drop_all i ns past)) at_end

-- ---- what a node refers to, by names and by indices

named_at : (nodes : Nodes) (name : List ℕ) → node_named name nodes ≡ option_and_then (slice_get (each_node nodes)) (index_named nodes name)
named_at no_nodes name = refl
named_at (node id process_id namespace arguments rest) name = by (same_name id name) refl (named_at rest name)
  where
    by : (b : Bool) → same_name id name ≡ b
        → node_named name rest ≡ option_and_then (slice_get (each_node rest)) (index_named rest name)
        → node_named name (node id process_id namespace arguments rest)
        ≡ option_and_then (slice_get (each_node (node id process_id namespace arguments rest)))
        (index_named (node id process_id namespace arguments rest) name)
    by true e later = rw e refl
    by false e later =
        rw e (later ∙ sym (shift (record { id = id; process_id = process_id; namespace = namespace; arguments = arguments })
        (each_node rest) (index_named rest name)))

swapped : (a b c : Bool) → (a && (b && c)) ≡ (b && (a && c))
swapped true b c = refl
swapped false true c = refl
swapped false false c = refl

-- the nodes of these names are running sums where each is a node and those at their indices are
pub by_indices : (nodes : Nodes) (names : List (List ℕ))
    → are_sums_named nodes names ≡ (are_known nodes names && are_sums_at nodes (indices_named nodes names))
by_indices nodes [] = refl
by_indices nodes (name ∷ names) = by (index_named nodes name) refl (by_indices nodes names)
  where
    by : (o : Option ℕ) → index_named nodes name ≡ o
        → are_sums_named nodes names ≡ (are_known nodes names && are_sums_at nodes (indices_named nodes names))
        → are_sums_named nodes (name ∷ names)
        ≡ (are_known nodes (name ∷ names) && are_sums_at nodes (indices_named nodes (name ∷ names)))
    by None e later =
        let at : node_named name nodes ≡ None = named_at nodes name ∙ ap (option_and_then (slice_get (each_node nodes))) e in
        rw (at, e) refl
    by (Some k) e later =
        let sum : Bool = is_some (option_and_then running_sum_at (slice_get (each_node nodes) k)) in
        let at : node_named name nodes ≡ slice_get (each_node nodes) k =
        named_at nodes name ∙ ap (option_and_then (slice_get (each_node nodes))) e in
        rw (at, e)
        (ap (λ b. sum && b) later ∙ swapped sum (are_known nodes names) (are_sums_at nodes (indices_named nodes names)))

-- the node at an index is a running sum where that of the graph there is
pub sum_there : (ns : List Node) (k : ℕ) (o : Option Node) → slice_get ns k ≡ o
    → is_some (option_and_then (λ n. running_sum_at (plain_node n)) o)
    ≡ is_some (option_and_then running_sum_at (slice_get (each_node (plain_nodes ns)) k))
sum_there ns k o at =
    sym (ap (λ ms. is_some (option_and_then running_sum_at (slice_get ms k))) (each_plain ns)
    ∙ (ap (λ m. is_some (option_and_then running_sum_at m)) (slice_get-map plain_node ns k ∙ ap (option_map plain_node) at)
    ∙ by o))
  where
    by : (o : Option Node) → is_some (option_and_then running_sum_at (option_map plain_node o))
        ≡ is_some (option_and_then (λ n. running_sum_at (plain_node n)) o)
    by None = refl
    by (Some n) = refl

pub sums_next : (nodes : Nodes) (indices : List ℕ) (i : ℕ) → i < length indices
    → are_sums_at nodes (drop i indices)
    ≡ (is_some (option_and_then running_sum_at (slice_get (each_node nodes) (get_or indices i 0))) && are_sums_at nodes (drop (i + 1) indices))
sums_next nodes indices i within = at_drop_more (are_sums_at nodes) indices i 0 within

-- ---- the node of an index, whose references were read

pub links_count : (ns : List Node) (links : List Links) → graph_of links ≡ reference_graph (plain_nodes ns) → length links ≡ length ns
links_count ns links is =
    sym (length-graph_of links) ∙ (ap length is ∙ (reference_count (plain_nodes ns) ∙ count_plain ns))

module _ (ns : List Node) (i : ℕ) (n : Node) (at : slice_get ns i ≡ Some n) where
  abbrev all : Nodes
  all = plain_nodes ns

  abbrev refs : List (List ℕ)
  refs = references_named (plain_node n).arguments

  within : i < length ns
  within = slice_get_within ns i n at

  -- what is read at the index is the node
  pub same_node : (m : Node) → m ≡ get_or ns i m → m ≡ n
  same_node m is = is ∙ get_or_from_slice_get ns i n m at

  pub known_is : (read : List Bool) (b : Bool) → read ≡ map (λ (m : Node). are_known all (references_named (plain_node m).arguments)) ns
      → b ≡ get_or read i b → b ≡ are_known all refs
  known_is read b is got =
      let knows : Node → Bool = (λ (m : Node). are_known all (references_named (plain_node m).arguments)) in
      got
      ∙ (ap (λ (bs : List Bool). get_or bs i b) is
      ∙ (get_or-map knows ns i n b within ∙ ap knows (get_or_from_slice_get ns i n n at)))

  pub link_is : (links : List Links) (link : Links) → graph_of links ≡ reference_graph all → link ≡ get_or links i link
      → link.arguments.items ≡ indices_named all refs
  link_is links link is got = references_at all links i (plain_node n) link is (subst (λ k. i < k) (sym (links_count ns links is)) within) got (node_at_index ns i n at)

  no_other : (b : Bool) → (b && false) ≡ false
  no_other true = refl
  no_other false = refl

  -- a reference names no node
  pub of_unknown : are_known all refs ≡ false → false ≡ fault_stands_at all (plain_node n)
  of_unknown unknown =
      let none : are_sums_named all refs ≡ false = by_indices all refs ∙ ap (λ b. b && are_sums_at all (indices_named all refs)) unknown in
      sym (ap (λ b. is_none (running_sum_at (plain_node n)) && b) none ∙ no_other (is_none (running_sum_at (plain_node n))))

  pub of_sums : (b : Bool) (indices : List ℕ) → is_none (running_sum_at (plain_node n)) ≡ true → are_known all refs ≡ true
      → indices ≡ indices_named all refs → b ≡ are_sums_at all indices → b ≡ fault_stands_at all (plain_node n)
  of_sums b indices other known is sums =
      sums
      ∙ (ap (are_sums_at all) is
      ∙ sym (ap (λ c. c && are_sums_named all refs) other
      ∙ (by_indices all refs ∙ ap (λ c. c && are_sums_at all (indices_named all refs)) known)))

-- ---- the graph of a callback

module _ (g : Graph) where
  pub of_graph : (id : List ℕ) (o : Option Fault)
      → IsSumsFault (record { nodes = plain_nodes (out-Graph g).nodes.items; result = (out-Graph g).result }) id o → IsSumsFault (plain_graph g) id o
  of_graph id o = subst (λ (x : PlainGraph). IsSumsFault x id o) (sym (graph_parts g))

  -- its result node decides on nulls
  pub by_result : (o : Option Node) → slice_get (out-Graph g).nodes.items (out-Graph g).result ≡ o
      → unwrap_or (option_and_then (λ n. running_sum_at (plain_node n)) o) true ≡ ignores_nulls (plain_graph g)
  by_result o at =
      let ns = (out-Graph g).nodes.items in
      let k = (out-Graph g).result in
      sym (ap ignores_nulls (graph_parts g)
      ∙ (ap (λ ms. unwrap_or (option_and_then running_sum_at (slice_get ms k)) true) (each_plain ns)
      ∙ (ap (λ m. unwrap_or (option_and_then running_sum_at m) true) (slice_get-map plain_node ns k ∙ ap (option_map plain_node) at)
      ∙ by o)))
    where
      by : (o : Option Node) → unwrap_or (option_and_then running_sum_at (option_map plain_node o)) true
          ≡ unwrap_or (option_and_then (λ n. running_sum_at (plain_node n)) o) true
      by None = refl
      by (Some n) = refl

-- ---- one node by its parts

module _ (n : Node) where
  abbrev given : Named
  given = plain_named n.arguments.items

  abbrev sum_by : Bool → Bool → Option Bool
  sum_by named has = if named && has then read flag_in (codes "ignore_nodata") given else None

  sum_is : running_sum_at (plain_node n) ≡ sum_by (same_name n.process_id (codes "cumsum")) (passes is_data (codes "data") given)
  sum_is = ap running_sum_at (node_parts n)

  pub of_another : same_name n.process_id (codes "cumsum") ≡ false → None ≡ running_sum_at (plain_node n)
  of_another other = sym (sum_is ∙ ap (λ b. sum_by b (passes is_data (codes "data") given)) other)

  pub of_other_cells : same_name n.process_id (codes "cumsum") ≡ true → passes is_data (codes "data") given ≡ false → None ≡ running_sum_at (plain_node n)
  of_other_cells named other =
      sym (sum_is ∙ (ap (λ b. sum_by b (passes is_data (codes "data") given)) named ∙ ap (sum_by true) other))

  pub by_flag : same_name n.process_id (codes "cumsum") ≡ true → passes is_data (codes "data") given ≡ true
      → read flag_in (codes "ignore_nodata") given ≡ running_sum_at (plain_node n)
  by_flag named has = sym (sum_is ∙ (ap (λ b. sum_by b (passes is_data (codes "data") given)) named ∙ ap (sum_by true) has))
