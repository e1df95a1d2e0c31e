-- What a resolved graph gives the layers above: its references name nodes of the graph object, each argument that the
-- catalogue asks for is there, and references end.
use Rattle.std.proofs.Common.{◌≡◌, ◌≢◌, ℕ, zero, suc, ◌+◌, ◌<◌, ◌||◌, Bool, true, false, if◌then◌else◌, List, [], ◌∷◌, ◌++◌, length, slice_get, slice_index_or, Contains, Decides, Option, Some, refl, sym, ap, ◌∙◌, subst, true≢false, arith}
use Rattle.std.specs.Cmp.{IsEquivalence}
use Rattle.std.specs.List.{IsDistinct, AllByRecursion}
use Rattle.std.specs.Set.{is_member}
use Rattle.std.proofs.lemmas.List.Elements.{Contains-append_left, Contains-append_right}
use Rattle.std.proofs.lemmas.Map.Made.{length-le_from_is_member, is_member-Decides}
use Rattle.std.proofs.lemmas.Bool.{and_parts}
use Rattle.oe_dims.specs.Names.{same_name, is_name_before, names_rise}
use Rattle.oe_dims.proofs.OrderLemmas.{same_name_is, same_name_refl}
use Rattle.oe_dims.proofs.NameOrderLemmas.{before_trans, not_before_itself}
use Rattle.oe_graph.specs.Catalogue.{Process, process_named}
use Rattle.oe_graph.specs.Printed.{ids_of, names_of, node_count}
use Rattle.oe_graph.specs.References.{each_node, argument_named, references_in, references_named, parameters_in, parameters_named, callbacks_in, callbacks_named, Refers, Leads, refers, onwards, Chain, none, more}
use Rattle.oe_graph.specs.Resolved.{IsResolvedNode, IsResolvedObject, IsResolvedUnder, IsScopedWithin, itself, inside, scope_inside, parameter_names}
use Rattle.oe_graph.specs.Tree.{Argument, Named, no_named, named, Nodes, no_nodes, node, PlainGraph, PlainNode}
use Rattle.oe_graph.proofs.NamesLemmas.{same_name-sym}

-- ---- references name nodes

-- a node of a graph object by its index, with this id
pub record NodeAt (nodes : Nodes) (id : List ℕ) : Type 0 where
  pub index : ℕ
  pub below : index < node_count nodes
  pub node : PlainNode
  pub is_there : slice_get (each_node nodes) index ≡ Some node
  pub is_named : node.id ≡ id

pub length-ids_of : (nodes : Nodes) → length (ids_of nodes) ≡ node_count nodes
length-ids_of no_nodes = refl
length-ids_of (node id p n a rest) = let more : length (ids_of rest) ≡ node_count rest = length-ids_of rest in omega arith

next_node : (id p : List ℕ) (n : Option (List ℕ)) (a : Named) (rest : Nodes) (name : List ℕ)
    → NodeAt rest name → NodeAt (node id p n a rest) name
next_node id p n a rest name at = record {
  index = suc at.index;
  below = let below = at.below in omega arith;
  node = at.node;
  is_there = at.is_there;
  is_named = at.is_named;
}

node_at : (nodes : Nodes) (name : List ℕ) (k : ℕ) → k < length (ids_of nodes) → slice_index_or (ids_of nodes) k name ≡ name
    → NodeAt nodes name
node_at no_nodes name k below is = absurd (omega arith)
node_at (node id p n a rest) name zero below is = record {
  index = 0;
  below = omega arith;
  node = record { id = id; process_id = p; namespace = n; arguments = a };
  is_there = refl;
  is_named = is;
}
node_at (node id p n a rest) name (suc k) below is = next_node id p n a rest name (node_at rest name k (omega arith) is)

-- an id of a graph object is that of a node at an index
pub node_of_id : (nodes : Nodes) (id : List ℕ) → Contains (ids_of nodes) id → NodeAt nodes id
node_of_id nodes id has = node_at nodes id has.0 has.1 has.2

-- a reference in a node of a resolved graph object
pub node_referred : {in_callback : Bool} {scope : List (List ℕ)} (nodes : Nodes) (result : ℕ) (n : PlainNode) (id : List ℕ)
    → IsResolvedObject in_callback scope nodes result → Contains (each_node nodes) n
    → Contains (references_named n.arguments) id → NodeAt nodes id
node_referred nodes result n id is has refers_to = node_of_id nodes id ((is.each n has).names_nodes id refers_to)

-- ---- each argument is there

pub record ArgumentAt (name : List ℕ) (arguments : Named) : Type 0 where
  pub argument : Argument
  pub is_there : argument_named name arguments ≡ Some argument

either_argument : (name k : List ℕ) (a : Argument) (rest : Named) (same : Bool) → same_name k name ≡ same
    → (same ≡ false → ArgumentAt name rest) → ArgumentAt name (named k a rest)
either_argument name k a rest true is later =
    record { argument = a; is_there = ap (λ b. if b then Some a else argument_named name rest) is }
either_argument name k a rest false is later =
    let there = later refl in
    record {
      argument = there.argument;
      is_there = ap (λ b. if b then Some a else argument_named name rest) is ∙ there.is_there;
    }

argument_at : (name : List ℕ) (arguments : Named) (k : ℕ) → k < length (names_of arguments)
    → slice_index_or (names_of arguments) k name ≡ name → ArgumentAt name arguments
argument_at name no_named k below is = absurd (omega arith)
argument_at name (named j a rest) zero below is =
    either_argument name j a rest (same_name j name) refl
    (λ other. absurd (true≢false (sym (subst (λ m. same_name m name ≡ true) (sym is) (same_name_refl name)) ∙ other)))
argument_at name (named j a rest) (suc k) below is =
    either_argument name j a rest (same_name j name) refl (λ other. argument_at name rest k (omega arith) is)

-- an argument that its names have
pub argument_of_name : (name : List ℕ) (arguments : Named) → Contains (names_of arguments) name → ArgumentAt name arguments
argument_of_name name arguments has = argument_at name arguments has.0 has.1 has.2

same_process : (o : Option Process) (p q : Process) → o ≡ Some p → o ≡ Some q → p ≡ q
same_process o p q a b = let both : Some p ≡ Some q = sym a ∙ b in cc

-- a parameter of the process of a resolved node
pub argument_of_parameter : {in_callback : Bool} {scope ids : List (List ℕ)} (n : PlainNode) (p : Process) (name : List ℕ)
    → IsResolvedNode in_callback scope ids n → process_named n.process_id ≡ Some p → Contains (parameter_names p) name
    → ArgumentAt name n.arguments
argument_of_parameter n p name is process has =
    argument_of_name name n.arguments (is.has_each name
    (subst (λ (q : Process). Contains (parameter_names q) name) (same_process (process_named n.process_id) p is.process process is.is_process) has))

-- what stands in an argument stands in the node

module _ {X : Type 0} (inside : Argument → List X) (among : Named → List X)
    (among_more : (k : List ℕ) (a : Argument) (rest : Named) → among (named k a rest) ≡ inside a ++ among rest) where
  in_either : (name k : List ℕ) (a b : Argument) (rest : Named) (x : X) (same : Bool) → same_name k name ≡ same
      → argument_named name (named k a rest) ≡ Some b → Contains (inside b) x
      → (argument_named name rest ≡ Some b → Contains (among rest) x) → Contains (inside a ++ among rest) x
  in_either name k a b rest x true is there has later =
      let found : Some a ≡ Some b = sym (ap (λ c. if c then Some a else argument_named name rest) is) ∙ there in
      let same : a ≡ b = cc in
      Contains-append_left (inside a) (among rest) x (subst (λ c. Contains (inside c) x) (sym same) has)
  in_either name k a b rest x false is there has later =
      Contains-append_right (inside a) (among rest) x
      (later (sym (ap (λ c. if c then Some a else argument_named name rest) is) ∙ there))

  in_named : (name : List ℕ) (arguments : Named) (b : Argument) (x : X) → argument_named name arguments ≡ Some b
      → Contains (inside b) x → Contains (among arguments) x
  in_named name no_named b x there has = absurd cc
  in_named name (named k a rest) b x there has =
      subst (λ xs. Contains xs x) (sym (among_more k a rest))
      (in_either name k a b rest x (same_name k name) refl there has (λ later. in_named name rest b x later has))

pub references_of_argument : (name : List ℕ) (arguments : Named) (a : Argument) (id : List ℕ)
    → argument_named name arguments ≡ Some a → Contains (references_in a) id → Contains (references_named arguments) id
references_of_argument = in_named references_in references_named (λ k a rest. refl)

pub parameters_of_argument : (name : List ℕ) (arguments : Named) (a : Argument) (p : List ℕ)
    → argument_named name arguments ≡ Some a → Contains (parameters_in a) p → Contains (parameters_named arguments) p
parameters_of_argument = in_named parameters_in parameters_named (λ k a rest. refl)

pub callbacks_of_argument : (name : List ℕ) (arguments : Named) (a : Argument) (g : PlainGraph)
    → argument_named name arguments ≡ Some a → Contains (callbacks_in a) g → Contains (callbacks_named arguments) g
callbacks_of_argument = in_named callbacks_in callbacks_named (λ k a rest. refl)

-- ---- references end

pub Leads-end : (nodes : Nodes) (a b c : List ℕ) → Leads nodes a b → Refers nodes b c → Leads nodes a c
Leads-end nodes a b c (refers one) next = onwards one (refers next)
Leads-end nodes a b c (onwards one rest) next = onwards one (Leads-end nodes _ b c rest next)

-- one more reference at the end of a chain
pub Chain-end : (nodes : Nodes) (count : ℕ) (a b c : List ℕ) → Chain nodes count a b → Refers nodes b c
    → Chain nodes (suc count) a c
Chain-end nodes count a b c none next = more next none
Chain-end nodes count a b c (more one rest) next = more one (Chain-end nodes _ _ b c rest next)

-- the ids that a chain goes through
through : (nodes : Nodes) (count : ℕ) (a b : List ℕ) → Chain nodes count a b → List (List ℕ)
through nodes count a b none = a ∷ []
through nodes count a b (more one rest) = a ∷ through nodes _ _ b rest

length-through : (nodes : Nodes) (count : ℕ) (a b : List ℕ) (chain : Chain nodes count a b)
    → length (through nodes count a b chain) ≡ suc count
unfolding through
length-through nodes count a b none = refl
length-through nodes count a b (more one rest) = let shorter = length-through nodes _ _ b rest in omega (arith, shorter)

congruent : (x y z : List ℕ) → same_name x y ≡ true → same_name x z ≡ same_name y z
congruent x y z is = ap (λ n. same_name n z) (sym (same_name_is x y is))

same_name_laws : IsEquivalence same_name
same_name_laws = record { refl = same_name_refl; symm = same_name-sym; congr = congruent }

same_name_tells : (a b : List ℕ) → Decides (same_name a b) (a ≡ b)
same_name_tells a b = (λ is. sym (same_name_is a b is), λ is. subst (λ n. same_name a n ≡ true) is (same_name_refl a))

member_of : (xs : List (List ℕ)) (q : List ℕ) → Contains xs q → is_member same_name xs q ≡ true
member_of xs q has = (is_member-Decides same_name_tells xs q).1 has

-- in a graph object without a cycle, whose references name its nodes
module _ (nodes : Nodes) (acyclic : (id : List ℕ) → ¬ Leads nodes id id)
    (names : (a b : List ℕ) → Refers nodes a b → Contains (ids_of nodes) b) where
  not_same : (a b : List ℕ) (same : Bool) → same_name a b ≡ same → Leads nodes a b → same ≡ false
  not_same a b true is leads = absurd (acyclic a (subst (Leads nodes a) (same_name_is a b is) leads))
  not_same a b false is leads = refl

  apart : (x : List ℕ) (count : ℕ) (a b : List ℕ) (chain : Chain nodes count a b) → Leads nodes x a
      → AllByRecursion (λ y. same_name x y ≡ false) (through nodes count a b chain)
  unfolding through
  apart x count a b none leads = (not_same x a (same_name x a) refl leads, tt)
  apart x count a b (more one rest) leads =
      (not_same x a (same_name x a) refl leads, apart x _ _ b rest (Leads-end nodes x a _ leads one))

  distinct : (count : ℕ) (a b : List ℕ) (chain : Chain nodes count a b)
      → IsDistinct same_name (through nodes count a b chain)
  unfolding through IsDistinct
  distinct count a b none = (tt, tt)
  distinct count a b (more one rest) = (apart a _ _ b rest (refers one), distinct _ _ b rest)

  has_id : (a q : List ℕ) → Contains (ids_of nodes) a → same_name q a ≡ true → is_member same_name (ids_of nodes) q ≡ true
  has_id a q has is = member_of (ids_of nodes) q (subst (Contains (ids_of nodes)) (same_name_is q a is) has)

  either_by : (a q : List ℕ) (same among : Bool) → same_name q a ≡ same → Contains (ids_of nodes) a → (same || among) ≡ true
      → (among ≡ true → is_member same_name (ids_of nodes) q ≡ true) → is_member same_name (ids_of nodes) q ≡ true
  either_by a q true among is has one later = has_id a q has is
  either_by a q false among is has one later = later one

  either_id : (a q : List ℕ) (among : Bool) → Contains (ids_of nodes) a → (same_name q a || among) ≡ true
      → (among ≡ true → is_member same_name (ids_of nodes) q ≡ true) → is_member same_name (ids_of nodes) q ≡ true
  either_id a q among has one later = either_by a q (same_name q a) among refl has one later

  all_ids : (count : ℕ) (a b : List ℕ) (chain : Chain nodes count a b) → Contains (ids_of nodes) a
      → (q : List ℕ) → is_member same_name (through nodes count a b chain) q ≡ true
      → is_member same_name (ids_of nodes) q ≡ true
  unfolding through
  all_ids count a b none has q is = either_id a q (is_member same_name [] q) has is (λ no_more. absurd (true≢false (sym no_more)))
  all_ids count a b (more one rest) has q is =
      either_id a q (is_member same_name (through nodes _ _ b rest) q) has is (all_ids _ _ b rest (names a _ one) q)

  -- a chain from a node has fewer references than there are nodes
  pub chain_ends : (count : ℕ) (a b : List ℕ) → Chain nodes count a b → Contains (ids_of nodes) a → count < node_count nodes
  chain_ends count a b chain has =
      let shorter = length-le_from_is_member same_name_laws (through nodes count a b chain) (ids_of nodes)
      (distinct count a b chain) (all_ids count a b chain has) in
      omega (arith, shorter, length-through nodes count a b chain, length-ids_of nodes)

target_named : {in_callback : Bool} {scope : List (List ℕ)} (nodes : Nodes) (result : ℕ)
    → IsResolvedObject in_callback scope nodes result → (a b : List ℕ) → Refers nodes a b → Contains (ids_of nodes) b
target_named nodes result is a b one = (is.each one.from one.is_node).names_nodes b one.refers

-- so a walk along the references of a resolved graph object ends
pub references_end : {in_callback : Bool} {scope : List (List ℕ)} (nodes : Nodes) (result : ℕ) (count : ℕ) (a b : List ℕ)
    → IsResolvedObject in_callback scope nodes result → Chain nodes count a b → Contains (ids_of nodes) a
    → count < node_count nodes
references_end nodes result count a b is chain has =
    chain_ends nodes is.acyclic (target_named nodes result is) count a b chain has

-- ---- graph objects within a graph

-- the graph object itself
pub resolved_object : (in_callback : Bool) (scope : List (List ℕ)) (g : PlainGraph) → IsResolvedUnder in_callback scope g
    → IsResolvedObject in_callback scope g.nodes g.result
resolved_object in_callback scope g is = is in_callback scope g.nodes g.result itself

-- a callback of a node of it
pub resolved_callback : (in_callback : Bool) (scope : List (List ℕ)) (g : PlainGraph) (n : PlainNode) (inner : PlainGraph)
    → IsResolvedUnder in_callback scope g → Contains (each_node g.nodes) n → Contains (callbacks_named n.arguments) inner
    → IsResolvedUnder true (scope_inside n scope) inner
resolved_callback in_callback scope g n inner is has calls =
    λ deep_in_callback deep_scope nodes result within. is deep_in_callback deep_scope nodes result (inside has calls within)

-- and a graph whose own object and whose callbacks are resolved
within_parts : (deep : Bool) (deep_scope : List (List ℕ)) (nodes : Nodes) (result : ℕ) (in_callback : Bool)
    (scope : List (List ℕ)) (outer : Nodes) (outer_result : ℕ)
    → IsScopedWithin deep deep_scope nodes result in_callback scope outer outer_result
    → IsResolvedObject in_callback scope outer outer_result
    → ((n : PlainNode) (inner : PlainGraph) → Contains (each_node outer) n → Contains (callbacks_named n.arguments) inner
    → IsResolvedUnder true (scope_inside n scope) inner)
    → IsResolvedObject deep deep_scope nodes result
within_parts deep deep_scope nodes result in_callback scope outer outer_result itself own callbacks = own
within_parts deep deep_scope nodes result in_callback scope outer outer_result (inside {n = n} {g = g} has calls within) own callbacks =
    callbacks n g has calls deep deep_scope nodes result within

pub resolved_from_parts : (in_callback : Bool) (scope : List (List ℕ)) (g : PlainGraph)
    → IsResolvedObject in_callback scope g.nodes g.result
    → ((n : PlainNode) (inner : PlainGraph) → Contains (each_node g.nodes) n → Contains (callbacks_named n.arguments) inner
    → IsResolvedUnder true (scope_inside n scope) inner)
    → IsResolvedUnder in_callback scope g
resolved_from_parts in_callback scope g own callbacks =
    λ deep deep_scope nodes result within. within_parts deep deep_scope nodes result in_callback scope g.nodes g.result within own callbacks

-- ---- an id names one node

head_before : (a : List ℕ) (rest : Nodes) → names_rise (a ∷ ids_of rest) ≡ true → (j : ℕ) (n : PlainNode)
    → slice_get (each_node rest) j ≡ Some n → is_name_before a n.id ≡ true
head_before a no_nodes rise j n is = absurd cc
head_before a (node b p s args rest) rise zero n is =
    let same : record { id = b; process_id = p; namespace = s; arguments = args } ≡ n = cc in
    subst (λ (m : PlainNode). is_name_before a m.id ≡ true) same ((and_parts _ _ rise).0)
head_before a (node b p s args rest) rise (suc j) n is =
    let parts = and_parts _ _ rise in
    before_trans a b n.id parts.0 (head_before b rest parts.1 j n is)

tail_rises : (a : List ℕ) (rest : Nodes) → names_rise (a ∷ ids_of rest) ≡ true → names_rise (ids_of rest) ≡ true
tail_rises a no_nodes rise = refl
tail_rises a (node b p s args rest) rise = (and_parts _ _ rise).1

-- the first node has no later node's id
not_later : (a : List ℕ) (rest : Nodes) → names_rise (a ∷ ids_of rest) ≡ true → (j : ℕ) (n : PlainNode)
    → slice_get (each_node rest) j ≡ Some n → a ≢ n.id
not_later a rest rise j n is same =
    true≢false (sym (head_before a rest rise j n is) ∙ subst (λ m. is_name_before a m ≡ false) same (not_before_itself a))

first_id : (b p : List ℕ) (s : Option (List ℕ)) (args : Named) (m : PlainNode)
    → Some (record { id = b; process_id = p; namespace = s; arguments = args }) ≡ Some m → b ≡ m.id
first_id b p s args m is =
    let same : record { id = b; process_id = p; namespace = s; arguments = args } ≡ m = cc in
    ap (λ (x : PlainNode). x.id) same

one_index : (nodes : Nodes) → names_rise (ids_of nodes) ≡ true → (i j : ℕ) (m n : PlainNode)
    → slice_get (each_node nodes) i ≡ Some m → slice_get (each_node nodes) j ≡ Some n → m.id ≡ n.id → i ≡ j
one_index no_nodes rise i j m n is_m is_n same = absurd cc
one_index (node b p s args rest) rise zero zero m n is_m is_n same = refl
one_index (node b p s args rest) rise zero (suc j) m n is_m is_n same =
    absurd (not_later b rest rise j n is_n (first_id b p s args m is_m ∙ same))
one_index (node b p s args rest) rise (suc i) zero m n is_m is_n same =
    absurd (not_later b rest rise i m is_m (first_id b p s args n is_n ∙ sym same))
one_index (node b p s args rest) rise (suc i) (suc j) m n is_m is_n same =
    ap suc (one_index rest (tail_rises b rest rise) i j m n is_m is_n same)

-- of two nodes with one id in a resolved graph object
pub node_unique : {in_callback : Bool} {scope : List (List ℕ)} (nodes : Nodes) (result : ℕ) (id : List ℕ)
    → IsResolvedObject in_callback scope nodes result → (one other : NodeAt nodes id) → one.index ≡ other.index
node_unique nodes result id is one other =
    one_index nodes is.ids_rise one.index other.index one.node other.node one.is_there other.is_there
    (one.is_named ∙ sym other.is_named)

-- ---- a node at an index

pub record SomeNode (nodes : Nodes) (index : ℕ) : Type 0 where
  pub node : PlainNode
  pub is_there : slice_get (each_node nodes) index ≡ Some node

pub node_below : (nodes : Nodes) (index : ℕ) → index < node_count nodes → SomeNode nodes index
node_below no_nodes index below = absurd (omega arith)
node_below (node id p s args rest) zero below =
    record { node = record { id = id; process_id = p; namespace = s; arguments = args }; is_there = refl }
node_below (node id p s args rest) (suc index) below =
    let there = node_below rest index (omega arith) in record { node = there.node; is_there = there.is_there }

-- the result node of a resolved graph object
pub result_node : {in_callback : Bool} {scope : List (List ℕ)} (nodes : Nodes) (result : ℕ)
    → IsResolvedObject in_callback scope nodes result → SomeNode nodes result
result_node nodes result is = node_below nodes result is.has_result
