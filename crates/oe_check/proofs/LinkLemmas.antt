-- The nodes of a graph by the indices of their names, and the links between them as the graph of a run.
use Rattle.std.proofs.Common.{◌≡◌, ◌≢◌, inl, inr, ℕ, zero, suc, ◌+◌, ◌<◌, ◌^◌, Bool, true, false, cond, if◌then◌else◌, List, [], ◌∷◌, ◌++◌, take, map, length, get_or, slice_get, slice_index_or, Contains, Option, Some, None, option_map, Ok, Err, refl, sym, ap, ◌∙◌, subst, arith, codes}
use Rattle.std.specs.Cmp.Lexicographic.{slice_cmp}
use Rattle.std.specs.FinMap.{slice_cmp-IsAntisymmetric, nat_cmp-IsAntisymmetric}
use Rattle.std.specs.List.Sorted.{IsSortedBy, IsBinarySearchResult}
use Rattle.std.specs.Option.{option_and_then, option_to_list}
use Rattle.std.specs.Ordering.{nat_cmp}
use Rattle.std.specs.Prelude.{unwrap_or}
use Rattle.std.specs.declared.cmp.Ordering.{Ordering}
use Rattle.std.specs.declared.cmp.Ordering.TheVariants.{Less, Equal, Greater}
use Rattle.std.proofs.lemmas.Bool.{cases_lt}
use Rattle.std.proofs.lemmas.Cmp.{nat_list_cmp_total, tied_itself}
use Rattle.std.proofs.lemmas.List.{length-map, get_or-map, map-append}
use Rattle.std.proofs.lemmas.List.Sorted.{searchable_from_sorted}
use Rattle.std.proofs.lemmas.Option.{slice_get-get_or, slice_get-map, slice_get_within}
use Rattle.oe_dims.proofs.IndexLemmas.{index_where_none}
use Rattle.oe_dims.proofs.OrderLemmas.{same_name_is}
use Rattle.oe_dims.specs.Indices.{index_where}
use Rattle.oe_dims.specs.Names.{same_name, is_name_before, names_rise}
use Rattle.oe_dims.proofs.NameOrderLemmas.{names_sorted}
use Rattle.oe_graph.proofs.ReferenceGraphLemmas.{arguments_of, reference_count, referring}
use Rattle.oe_graph.proofs.ResolvedLemmas.{NodeAt, node_of_id, node_referred, resolved_object}
use Rattle.oe_graph.proofs.SearchLemmas.{each_count, found_at, id_there}
use Rattle.oe_graph.specs.Indices.{indices_named, reference_graph}
use Rattle.oe_graph.specs.Plain.{plain_node, plain_nodes}
use Rattle.oe_graph.specs.Printed.{ids_of, node_count}
use Rattle.oe_graph.specs.References.{each_node, references_named, Refers, Leads}
use Rattle.oe_graph.specs.References as graph
use Rattle.oe_graph.specs.Resolved.{IsResolvedObject}
use Rattle.oe_graph.specs.States.{IsNodeAt}
use Rattle.oe_graph.specs.Tree.{Nodes, no_nodes, node, PlainNode}
use Rattle.oe_graph.specs.declared.tree.Node.{Node}
use Rattle.oe_expr.specs.Nodes.{node_named}
use Rattle.oe_expr.proofs.NodeLemmas.{contains_node}
use Rattle.oe_graph.proofs.StateLemmas.{within_nodes}
use Rattle.oe_expr.proofs.StateLemmas.{plain_id, each_plain, count_plain, node_at_index, shift}
use Rattle.oe_order.specs.Graph as order
use Rattle.oe_order.specs.Graph.{graph_of, arguments, RefersWithin, Reaches, IsAcyclic}
use Rattle.oe_order.specs.declared.Links.{Links}
use Rattle.oe_order.proofs.Graphs.{length-graph_of}
use Rattle.oe_check.specs.Links.{index_named, index_referred, link_of, links_of, AreNamed, loaded_collection}
use Rattle.oe_check.specs.Walked.{AreResolved, IsNodeOf}
use Rattle.oe_check.specs.Checked.{CheckedGraph, collection_of_node}
use Rattle.oe_memory.proofs.Lists.{first_of, later_of, take_next}
use Rattle.oe_graph.proofs.ElementLemmas.{index_there}

-- ---- ids of nodes

pub ids_plain : (nodes : List Node) → ids_of (plain_nodes nodes) ≡ map (λ (n : Node). n.id) nodes
ids_plain [] = refl
ids_plain (n ∷ nodes) =
    ap (λ (id : List ℕ). id ∷ ids_of (plain_nodes nodes)) (plain_id n)
    ∙ ap (λ (ids : List (List ℕ)). n.id ∷ ids) (ids_plain nodes)

-- the index of a node among nodes whose ids rise
pub index_of_node : (nodes : Nodes) (k : ℕ) (n : PlainNode) → names_rise (ids_of nodes) ≡ true → IsNodeAt nodes k n
    → index_named nodes n.id ≡ Some k
index_of_node nodes k n rise at = found_at (ids_of nodes) k n.id rise (id_there nodes k n at)

-- ---- a search by halves

module _ (nodes : List Node) (name : List ℕ) (rise : names_rise (ids_of (plain_nodes nodes)) ≡ true) where
  nodes_sorted : IsSortedBy (λ (m n : Node). is_name_before m.id n.id) nodes
  nodes_sorted k d low high =
      let ids = map (λ (n : Node). n.id) nodes in
      let long : length ids ≡ length nodes = length-map nodes (λ (n : Node). n.id) in
      let one : get_or ids k d.id ≡ (get_or nodes k d).id = get_or-map (λ (n : Node). n.id) nodes k d d.id (omega arith) in
      let two : get_or ids (k + 1) d.id ≡ (get_or nodes (k + 1) d).id = get_or-map (λ (n : Node). n.id) nodes (k + 1) d d.id high in
      let sorted_ids : IsSortedBy is_name_before ids = names_sorted ids (ap names_rise (sym (ids_plain nodes)) ∙ rise) in
      let here : is_name_before (get_or ids (k + 1) d.id) (get_or ids k d.id) ≡ false = sorted_ids k d.id low (omega arith) in
      rw (one, two) at here

  id_read : (k : ℕ) (d : Node) → k < length nodes → slice_get (ids_of (plain_nodes nodes)) k ≡ Some (get_or nodes k d).id
  id_read k d within =
      let at : slice_get nodes k ≡ Some (get_or nodes k d) = slice_get-get_or nodes k d within in
      ap (λ ids. slice_get ids k) (ids_plain nodes)
      ∙ (slice_get-map (λ (n : Node). n.id) nodes k ∙ ap (option_map (λ (n : Node). n.id)) at)

  some_node : (k : ℕ) → k < length nodes → Node
  some_node k within = by nodes within
    where
      by : (ns : List Node) → k < length ns → Node
      by [] below = absurd (omega arith)
      by (n ∷ ns) below = n

  pub search_found : (k : ℕ) → k < length nodes → IsBinarySearchResult (λ (n : Node). slice_cmp nat_cmp n.id name) nodes (Ok k)
      → k ≡ index_referred (plain_nodes nodes) name
  search_found k within found =
      let d = some_node k within in
      let is : (get_or nodes k d).id ≡ name = slice_cmp-IsAntisymmetric nat_cmp-IsAntisymmetric _ _ (found d) in
      sym (ap (λ o. unwrap_or o 0) (found_at (ids_of (plain_nodes nodes)) k name rise (id_read k d within ∙ ap Some is)))

  -- no order is both that of a name and itself and another
  not_tied : (other : List ℕ) (o : Ordering) → slice_cmp nat_cmp other name ≡ o → o ≢ Equal → other ≢ name
  not_tied other o is differs same =
      differs (sym is ∙ (ap (λ (a : List ℕ). slice_cmp nat_cmp a name) same ∙ tied_itself nat_list_cmp_total name))

  pub search_none : (i : ℕ) → IsBinarySearchResult (λ (n : Node). slice_cmp nat_cmp n.id name) nodes (Err i)
      → Contains (ids_of (plain_nodes nodes)) name → ⊥
  search_none i parted has =
      let halves = parted (searchable_from_sorted nat_list_cmp_total (λ (n : Node). n.id) nodes name nodes_sorted) in
      let ids : ids_of (plain_nodes nodes) ≡ map (λ (n : Node). n.id) nodes = ids_plain nodes in
      let long : length (map (λ (n : Node). n.id) nodes) ≡ length nodes = length-map nodes (λ (n : Node). n.id) in
      let k = has.0 in
      let within : k < length nodes = subst (λ c. k < c) (ap length ids ∙ long) has.1 in
      let d = some_node k within in
      let is : (get_or nodes k d).id ≡ name =
      sym (get_or-map (λ (n : Node). n.id) nodes k d name within) ∙ (ap (λ xs. get_or xs k name) (sym ids) ∙ has.2) in
      elim (cases_lt k i) [
        | inl t ↦ not_tied (get_or nodes k d).id Less (halves.0 k d (omega arith) t) (λ e. absurd cc) is
        | inr f ↦ not_tied (get_or nodes k d).id Greater (halves.1 k d f within) (λ e. absurd cc) is
      ]

-- ---- an id that no node has

none_named : (ids : List (List ℕ)) (name : List ℕ) → (Contains ids name → ⊥)
    → index_where (λ (id : List ℕ). same_name id name) ids ≡ None
none_named ids name nay = index_where_none (λ (id : List ℕ). same_name id name) ids name (λ k within. by k within (same_name (get_or ids k name) name) refl)
  where
    by : (k : ℕ) → k < length ids → (b : Bool) → same_name (get_or ids k name) name ≡ b → b ≡ false
    by k within true same = absurd (nay (k, within, sym (same_name_is (get_or ids k name) name same)))
    by k within false same = refl

pub none_referred : (nodes : Nodes) (name : List ℕ) → (Contains (ids_of nodes) name → ⊥) → 0 ≡ index_referred nodes name
none_referred nodes name nay = sym (ap (λ o. unwrap_or o 0) (none_named (ids_of nodes) name nay))

-- and one that a node has
pub referred_within : (nodes : List Node) (name : List ℕ) → names_rise (ids_of (plain_nodes nodes)) ≡ true
    → Contains (ids_of (plain_nodes nodes)) name → index_referred (plain_nodes nodes) name < length nodes
referred_within nodes name rise has =
    let all = plain_nodes nodes in
    let there = node_of_id all name has in
    let is : index_named all there.node.id ≡ Some there.index = index_of_node all there.index there.node rise there.is_there in
    let same : index_referred all name ≡ there.index =
    subst (λ m. index_referred all m ≡ there.index) there.is_named (ap (λ o. unwrap_or o 0) is) in
    let below = there.below in
    let count = count_plain nodes in
    omega arith

-- ---- nodes by their names

found_node : (nodes : Nodes) (name : List ℕ)
    → node_named name nodes ≡ option_and_then (slice_get (each_node nodes)) (index_named nodes name)
found_node no_nodes name = refl
found_node (node id p s args rest) name = by (same_name id name) refl (found_node rest name)
  where
    x : PlainNode
    x = record { id = id; process_id = p; namespace = s; arguments = args }

    by : (b : Bool) → same_name id name ≡ b
        → node_named name rest ≡ option_and_then (slice_get (each_node rest)) (index_named rest name)
        → (if b then Some x else node_named name rest)
        ≡ option_and_then (slice_get (x ∷ each_node rest)) (cond b (Some 0) (option_map (λ n. n + 1) (index_named rest name)))
    by true e next = refl
    by false e next = next ∙ sym (shift x (each_node rest) (index_named rest name))

-- ---- resolved nodes

module _ (nodes : Nodes) (is : AreResolved nodes) where
  pub object : IsResolvedObject false [] nodes is.result
  object = resolved_object false [] (record { nodes = nodes; result = is.result }) is.resolved

  pub rises : names_rise (ids_of nodes) ≡ true
  rises = object.ids_rise

  pub few : node_count nodes < 2 ^ 32
  few = let most = object.fits in omega arith

  -- what a node refers to is a node
  pub names_nodes : (n : PlainNode) → IsNodeOf nodes n → AreNamed nodes (references_named n.arguments)
  names_nodes n has name refers = (object.each n has).names_nodes name refers

  pub referred : (k : ℕ) (n : PlainNode) (name : List ℕ) → IsNodeAt nodes k n → Contains (references_named n.arguments) name
      → NodeAt nodes name
  referred k n name at refers = node_referred nodes is.result n name object (contains_node nodes k n at) refers

  -- the index of a node's name is its own
  pub index_of : (k : ℕ) (n : PlainNode) → IsNodeAt nodes k n → index_named nodes n.id ≡ Some k
  index_of k n at = index_of_node nodes k n rises at

  pub named_at : (k : ℕ) (n : PlainNode) → IsNodeAt nodes k n → node_named n.id nodes ≡ Some n
  named_at k n at = found_node nodes n.id ∙ (ap (option_and_then (slice_get (each_node nodes))) (index_of k n at) ∙ at)

  -- the index that stands for the name of a node
  pub index_is : (name : List ℕ) (there : NodeAt nodes name) → index_referred nodes name ≡ there.index
  index_is name there =
      subst (λ m. index_referred nodes m ≡ there.index) there.is_named
      (ap (λ o. unwrap_or o 0) (index_of there.index there.node there.is_there))

  pub one_node : (n : PlainNode) (k : ℕ) (m : PlainNode) → IsNodeAt nodes k n → node_named n.id nodes ≡ Some m → n ≡ m
  one_node n k m at is_named = let named = named_at k n at in cc

-- ---- links along the nodes

-- a node that is read at an index stands there
pub node_read : (nodes : List Node) (i : ℕ) (n : Node) → i < length nodes → n ≡ get_or nodes i n
    → IsNodeAt (plain_nodes nodes) i (plain_node n)
node_read nodes i n within is = node_at_index nodes i n (slice_get-get_or nodes i n within ∙ ap Some (sym is))

-- and is one of the nodes
pub node_item : (nodes read : List Node) (i : ℕ) (n : Node) → read ≡ nodes → i < length read → n ≡ get_or read i n
    → IsNodeOf (plain_nodes nodes) (plain_node n)
node_item nodes read i n same within is =
    let at : slice_get read i ≡ Some n = slice_get-get_or read i n within ∙ ap Some (sym is) in
    contains_node (plain_nodes nodes) i (plain_node n) (node_at_index nodes i n (ap (λ ns. slice_get ns i) (sym same) ∙ at))

graph_last : (xs : List Links) (x : Links)
    → graph_of (xs ++ x ∷ []) ≡ graph_of xs ++ record { load = x.load; arguments = x.arguments.items } ∷ []
graph_last [] x = refl
graph_last (y ∷ xs) x = ap (λ ys. record { load = y.load; arguments = y.arguments.items } ∷ ys) (graph_last xs x)

pub links_next : (all : Nodes) (nodes : List Node) (i : ℕ) (n : Node) (links new : List Links) (link : Links)
    → i < length nodes → n ≡ get_or nodes i n
    → graph_of links ≡ map (link_of all) (map plain_node (take i nodes))
    → new ≡ links ++ link ∷ []
    → record { load = link.load; arguments = link.arguments.items } ≡ link_of all (plain_node n)
    → graph_of new ≡ map (link_of all) (map plain_node (take (i + 1) nodes))
links_next all nodes i n links new link within is before pushed one =
    let more : map plain_node (take (i + 1) nodes) ≡ map plain_node (take i nodes) ++ plain_node n ∷ [] =
    ap (map plain_node) (take_next nodes i n within is) ∙ map-append plain_node (take i nodes) (n ∷ []) in
    ap graph_of pushed
    ∙ (graph_last links link
    ∙ (ap (λ (x : order.Node). graph_of links ++ x ∷ []) one
    ∙ (ap (λ xs. xs ++ link_of all (plain_node n) ∷ []) before
    ∙ (sym (map-append (link_of all) (map plain_node (take i nodes)) (plain_node n ∷ []))
    ∙ ap (map (link_of all)) (sym more)))))

-- where each of these names is that of a node, its index is the one that is meant
indices_referred : (nodes : Nodes) (names : List (List ℕ)) → names_rise (ids_of nodes) ≡ true → AreNamed nodes names
    → indices_named nodes names ≡ map (index_referred nodes) names
indices_referred nodes [] rise named = refl
indices_referred nodes (name ∷ names) rise named =
    let there = index_there (ids_of nodes) name (named name (first_of name names)) in
    let is : index_named nodes name ≡ Some there.index = found_at (ids_of nodes) there.index name rise there.is_there in
    ap (λ o. option_to_list o ++ indices_named nodes names) is
    ∙ (ap (λ xs. there.index ∷ xs) (indices_referred nodes names rise (λ other has. named other (later_of name names other has)))
    ∙ ap (λ k. k ∷ map (index_referred nodes) names) (sym (ap (λ o. unwrap_or o 0) is)))

-- one node by its parts
pub link_parts : (all : Nodes) (is : AreResolved all) (n : PlainNode) → IsNodeOf all n → (load : Bool) (arguments : List ℕ)
    → load ≡ same_name n.process_id (codes "load_collection")
    → arguments ≡ indices_named all (references_named n.arguments)
    → record { load = load; arguments = arguments } ≡ link_of all n
link_parts all is n has load arguments loads refers =
    let object = resolved_object false [] (record { nodes = all; result = is.result }) is.resolved in
    ap (λ (b : Bool). record { load = b; arguments = arguments }) loads
    ∙ ap (λ (xs : List ℕ). record { load = same_name n.process_id (codes "load_collection"); arguments = xs })
    (refers ∙ indices_referred all (references_named n.arguments) object.ids_rise (λ name refers_to. (object.each n has).names_nodes name refers_to))

pub references_length : (nodes : List Node) (links : List Links) → graph_of links ≡ reference_graph (plain_nodes nodes)
    → length links ≡ length nodes
references_length nodes links is =
    sym (length-graph_of links) ∙ (ap length is ∙ (reference_count (plain_nodes nodes) ∙ count_plain nodes))

pub links_all : (nodes : List Node) → map (link_of (plain_nodes nodes)) (map plain_node nodes) ≡ links_of (plain_nodes nodes)
links_all nodes = ap (map (link_of (plain_nodes nodes))) (sym (each_plain nodes))

-- ---- what the links of all nodes say of one

pub links_length : (nodes : Nodes) (links : List Links) → graph_of links ≡ links_of nodes → length links ≡ node_count nodes
links_length nodes links is =
    sym (length-graph_of links) ∙ (ap length is ∙ (length-map (each_node nodes) (link_of nodes) ∙ each_count nodes))

pub links_arguments : (nodes : Nodes) (k : ℕ) (n : PlainNode) → IsNodeAt nodes k n
    → arguments (links_of nodes) k ≡ map (index_referred nodes) (references_named n.arguments)
links_arguments nodes k n at = arguments_of (link_of nodes) (each_node nodes) k n at

-- ---- the graph of the links

-- an index among those of names is that of one of them
one_index : (f : List ℕ → ℕ) (names : List (List ℕ)) (b : ℕ) → Contains (map f names) b
    → (name : List ℕ) × Contains names name × (f name ≡ b)
one_index f [] b has = let below : has.0 < 0 = has.1 in absurd (omega arith)
one_index f (name ∷ names) b has = by has.0 has.1 has.2 (λ later. one_index f names b later)
  where
    by : (k : ℕ) → k < length (map f (name ∷ names)) → slice_index_or (map f (name ∷ names)) k b ≡ b
        → (Contains (map f names) b → (other : List ℕ) × Contains names other × (f other ≡ b))
        → (other : List ℕ) × Contains (name ∷ names) other × (f other ≡ b)
    by zero below is later = (name, first_of name names, is)
    by (suc k) below is later =
        let one = later (k, omega arith, is) in (one.0, later_of name names one.0 one.1, one.2)

module _ (nodes : Nodes) (is : AreResolved nodes) where
  -- a link leads from a node to one that it refers to
  record IsLink (a b : ℕ) : Type 0 where
    pub from : PlainNode
    pub to : PlainNode
    pub is_from : IsNodeAt nodes a from
    pub is_to : IsNodeAt nodes b to
    pub refers : Refers nodes from.id to.id

  is_link : (a b : ℕ) → Contains (arguments (links_of nodes) a) b → IsLink a b
  is_link a b has =
      let from = referring (link_of nodes) (each_node nodes) a b has in
      let one = one_index (index_referred nodes) (references_named from.0.arguments) b from.2 in
      let there = referred nodes is a from.0 one.0 from.1 one.1 in
      let same : there.index ≡ b = sym (index_is nodes is one.0 there) ∙ one.2 in
      record {
        from = from.0;
        to = there.node;
        is_from = from.1;
        is_to = subst (λ k. IsNodeAt nodes k there.node) same there.is_there;
        refers = record {
          from = from.0;
          is_node = contains_node nodes a from.0 from.1;
          is_named = refl;
          refers = subst (Contains (references_named from.0.arguments)) (sym there.is_named) one.1;
        };
      }

  -- each reference of the links is to a node
  pub refers_within : RefersWithin (links_of nodes)
  refers_within a b has =
      let link = is_link a b has in
      let long : length (links_of nodes) ≡ node_count nodes = length-map (each_node nodes) (link_of nodes) ∙ each_count nodes in
      subst (λ c. b < c) (sym long) (within_nodes nodes b link.to link.is_to)

  record IsWay (a b : ℕ) : Type 0 where
    pub from : PlainNode
    pub to : PlainNode
    pub is_from : IsNodeAt nodes a from
    pub is_to : IsNodeAt nodes b to
    pub leads : Leads nodes from.id to.id

  is_way : (a b : ℕ) → Reaches (links_of nodes) a b → IsWay a b
  is_way a b (order.refers has) =
      let link = is_link a b has in
      record { from = link.from; to = link.to; is_from = link.is_from; is_to = link.is_to; leads = graph.refers link.refers }
  is_way a c (order.onwards {b = b} has rest) =
      let link = is_link a b has in
      let way = is_way b c rest in
      let same : way.from ≡ link.to = let one = way.is_from in let two = link.is_to in cc in
      record {
        from = link.from;
        to = way.to;
        is_from = link.is_from;
        is_to = way.is_to;
        leads = graph.onwards link.refers (subst (λ (n : PlainNode). Leads nodes n.id way.to.id) same way.leads);
      }

  -- and no references lead from a node back to itself
  pub is_acyclic : IsAcyclic (links_of nodes)
  is_acyclic a reaches =
      let way = is_way a a reaches in
      let same : way.to ≡ way.from = let one = way.is_from in let two = way.is_to in cc in
      (object nodes is).acyclic way.from.id (subst (λ (n : PlainNode). Leads nodes way.from.id n.id) same way.leads)

-- a node that loads a collection is one of the graph
pub node_there : (c : CheckedGraph) (index : ℕ) (id : List ℕ) → collection_of_node c index ≡ Some id → index < node_count c.nodes
node_there c index id loads = by (slice_get (each_node c.nodes) index) refl loads
  where
    by : (o : Option PlainNode) → slice_get (each_node c.nodes) index ≡ o → option_and_then loaded_collection o ≡ Some id → index < node_count c.nodes
    by None is e = absurd cc
    by (Some n) is e = subst (λ (count : ℕ). index < count) (each_count c.nodes) (slice_get_within (each_node c.nodes) index n is)
