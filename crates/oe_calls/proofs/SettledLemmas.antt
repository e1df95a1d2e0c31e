-- A round changes nothing where no stored process is called.
use Rattle.std.proofs.Common.{◌≡◌, ℕ, zero, suc, ◌+◌, ◌<◌, Bool, true, false, ◌||◌, cond, if◌then◌else◌, List, [], ◌∷◌, ◌++◌, ◌⊎◌, inl, inr, Option, Some, None, is_some, option_and_then, find, Contains, length, map, refl, sym, ap, ◌∙◌, subst, true≢false, arith}
use Rattle.std.proofs.lemmas.List.Elements.{Contains-push_cases}
use Rattle.oe_dims.specs.Names.{same_name, is_name_before, names_rise}
use Rattle.oe_dims.proofs.OrderLemmas.{same_name_is, same_name_refl}
use Rattle.oe_dims.proofs.NameOrderLemmas.{not_before_itself, tail_rises}
use Rattle.oe_graph.specs.Printed.{ids_of, node_count}
use Rattle.oe_graph.specs.References.{each_node}
use Rattle.oe_graph.specs.Tree.{Argument, null, flag, whole, inexact, text, list, object, from_node, from_parameter, callback, ListValues, no_arguments, argument, Named, no_named, named, Nodes, no_nodes, node, PlainGraph, PlainNode, PlainStored}
use Rattle.oe_calls.specs.HasCall.{nodes_call, named_call, calls, each_call}
use Rattle.oe_calls.specs.Calls.{callee}
use Rattle.oe_calls.specs.Rounds.{put_node, put_nodes, opened, round_nodes, round_named, round_argument, round_each, round, landed, landing, id_at, index_of, callback_with_result, graph_with_result}
use Rattle.oe_calls.proofs.Along.{first_there, later_there, none_there, there_cases}
use Rattle.oe_graph.proofs.SearchLemmas.{rises_before}
use Rattle.oe_calls.proofs.PlaceLemmas.{Place}
use Rattle.oe_calls.proofs.OrderLemmas.{Ordered, OrderedEach, OrderedNamed, OrderedNodes, IsInOrder}

or_none : (a b : Bool) → a || b ≡ false → (a ≡ false) × (b ≡ false)
or_none true b is = absurd (true≢false is)
or_none false b is = (refl, is)

-- ---- nodes behind others

joined : Nodes → Nodes → Nodes
joined no_nodes ms = ms
joined (node id p s args rest) ms = node id p s args (joined rest ms)

joined_next : (found : Nodes) (id p : List ℕ) (s : Option (List ℕ)) (args : Named) (rest : Nodes)
    → joined (joined found (node id p s args no_nodes)) rest ≡ joined found (node id p s args rest)
unfolding joined
joined_next no_nodes id p s args rest = refl
joined_next (node i q t more found) id p s args rest = ap (node i q t more) (joined_next found id p s args rest)

joined_none : (found : Nodes) → joined found no_nodes ≡ found
unfolding joined
joined_none no_nodes = refl
joined_none (node id p s args rest) = ap (node id p s args) (joined_none rest)

joined_first : (ms : Nodes) → joined no_nodes ms ≡ ms
unfolding joined
joined_first ms = refl

ids_pushed : (found : Nodes) (id p : List ℕ) (s : Option (List ℕ)) (args : Named)
    → ids_of (joined found (node id p s args no_nodes)) ≡ ids_of found ++ id ∷ []
unfolding joined
ids_pushed no_nodes id p s args = refl
ids_pushed (node i q t more rest) id p s args = ap (λ ids. i ∷ ids) (ids_pushed rest id p s args)

put_last : (n : PlainNode) (found : Nodes) → ((a : List ℕ) → Contains (ids_of found) a → is_name_before a n.id ≡ true)
    → put_node n found ≡ joined found (node n.id n.process_id n.namespace n.arguments no_nodes)
unfolding joined
put_last n no_nodes before = refl
put_last n (node id p s args rest) before =
    ap (λ b. if b then node id p s args (put_node n rest) else node n.id n.process_id n.namespace n.arguments (node id p s args rest))
    (before id (first_there id (ids_of rest)))
    ∙ ap (node id p s args) (put_last n rest (λ a has. before a (later_there id (ids_of rest) a has)))

-- ---- the index of the id at an index

id_at_there : (ns : Nodes) (k : ℕ) → k < node_count ns → Contains (ids_of ns) (id_at ns k)
id_at_there no_nodes k below = absurd (omega arith)
id_at_there (node id p s args rest) zero below = first_there id (ids_of rest)
id_at_there (node id p s args rest) (suc k) below = later_there id (ids_of rest) (id_at rest k) (id_at_there rest k (omega arith))

apart_by : (a b : List ℕ) (same : Bool) → is_name_before a b ≡ true → same_name a b ≡ same → same_name a b ≡ false
apart_by a b true before is =
    absurd (true≢false (sym before ∙ ap (is_name_before a) (same_name_is a b is) ∙ not_before_itself a))
apart_by a b false before is = is

index_same : (ns : Nodes) (k : ℕ) → names_rise (ids_of ns) ≡ true → k < node_count ns → index_of (id_at ns k) ns ≡ k
index_same no_nodes k rise below = absurd (omega arith)
index_same (node id p s args rest) zero rise below =
    ap (λ b. if b then 0 else suc (index_of id rest)) (same_name_refl id)
index_same (node id p s args rest) (suc k) rise below =
    let x = id_at rest k in
    let there = id_at_there rest k (omega arith) in
    ap (λ b. if b then 0 else suc (index_of x rest))
    (apart_by id x (same_name id x) (rises_before id (ids_of rest) x rise there) refl)
    ∙ ap suc (index_same rest k (tail_rises id (ids_of rest) rise) (omega arith))

-- ---- a round

module _ (called stored : List PlainStored)
    (leaf : (namespace : Option (List ℕ)) (p : List ℕ) → is_some (callee called namespace p) ≡ false → callee stored namespace p ≡ None)
    (Holding : Bool → Option (List ℕ) → List ℕ → Type 0) (Forming : List Place → Type 0) where
  -- no node calls a stored process
  abbrev NoCall : List PlainNode → Type 0
  NoCall ns = (n : PlainNode) → Contains ns n → callee stored n.namespace n.process_id ≡ None

  no_calls : (ns : Nodes) → nodes_call called ns ≡ false → NoCall (each_node ns)
  no_calls no_nodes is n has = absurd (none_there n has)
  no_calls (node id p s args rest) is n has =
      let first : PlainNode = record { id = id; process_id = p; namespace = s; arguments = args } in
      let parts = or_none (is_some (callee called s p) || named_call called args) (nodes_call called rest) is in
      let own = or_none (is_some (callee called s p)) (named_call called args) parts.0 in
      elim (there_cases first (each_node rest) n has) [
        | inl same ↦ subst (λ (m : PlainNode). callee stored m.namespace m.process_id ≡ None) same (leaf s p own.0)
        | inr later ↦ no_calls rest parts.1 n later
      ]

  found_by : (n : PlainNode) (same : Bool) (o : Option PlainNode) → callee stored n.namespace n.process_id ≡ None
      → option_and_then (λ (m : PlainNode). callee stored m.namespace m.process_id) o ≡ None
      → option_and_then (λ (m : PlainNode). callee stored m.namespace m.process_id) (cond same (Some n) o) ≡ None
  found_by n true o here later = here
  found_by n false o here later = later

  found_none : (ns : List PlainNode) (id : List ℕ) → NoCall ns
      → option_and_then (λ (m : PlainNode). callee stored m.namespace m.process_id) (find (λ (m : PlainNode). same_name m.id id) ns) ≡ None
  found_none [] id each = refl
  found_none (n ∷ ns) id each =
      found_by n (same_name n.id id) (find (λ (m : PlainNode). same_name m.id id) ns) (each n (first_there n ns))
      (found_none ns id (λ m has. each m (later_there n ns m has)))

  landed_same : (all : Nodes) (id : List ℕ) → NoCall (each_node all) → landed stored all id ≡ id
  landed_same all id each = ap (landing id) (found_none (each_node all) id each)

  abbrev StandsBefore : Nodes → Nodes → Type 0
  StandsBefore found ns = (a b : List ℕ) → Contains (ids_of found) a → Contains (ids_of ns) b → is_name_before a b ≡ true

  before_rest : (found : Nodes) (id p : List ℕ) (s : Option (List ℕ)) (args : Named) (rest : Nodes)
      → names_rise (id ∷ ids_of rest) ≡ true → StandsBefore found (node id p s args rest)
      → StandsBefore (joined found (node id p s args no_nodes)) rest
  before_rest found id p s args rest rise before a b has there =
      elim (Contains-push_cases (ids_of found) id a (subst (λ ids. Contains ids a) (ids_pushed found id p s args) has)) [
        | inl older ↦ before a b older (later_there id (ids_of rest) b there)
        | inr same ↦ subst (λ x. is_name_before x b ≡ true) same (rises_before id (ids_of rest) b rise there)
      ]

  mutual
    same_nodes : (in_callback : Bool) (all ns found : Nodes) → NoCall (each_node all) → nodes_call called ns ≡ false
        → OrderedNodes Holding Forming in_callback ns → names_rise (ids_of ns) ≡ true → StandsBefore found ns
        → round_nodes stored all ns found ≡ joined found ns
    same_nodes in_callback all no_nodes found each is order rise before = sym (joined_none found)
    same_nodes in_callback all (node id p s args rest) found each is order rise before =
        let parts = or_none (is_some (callee called s p) || named_call called args) (nodes_call called rest) is in
        let own = or_none (is_some (callee called s p)) (named_call called args) parts.0 in
        let n : PlainNode = record { id = id; process_id = p; namespace = s; arguments = args } in
        ap (λ o. round_nodes stored all rest (put_nodes (opened stored
        (record { id = id; process_id = p; namespace = s; arguments = round_named stored (is_some o) all args }) o) found)) (leaf s p own.0)
        ∙ ap (λ others. round_nodes stored all rest (put_node (record { id = id; process_id = p; namespace = s; arguments = others }) found))
        (same_named all args each own.1 order.1)
        ∙ ap (round_nodes stored all rest) (put_last n found (λ a has. before a id has (first_there id (ids_of rest))))
        ∙ same_nodes in_callback all rest (joined found (node id p s args no_nodes)) each parts.1 order.3
        (tail_rises id (ids_of rest) rise) (before_rest found id p s args rest rise before)
        ∙ joined_next found id p s args rest

    same_named : (all : Nodes) (ms : Named) → NoCall (each_node all) → named_call called ms ≡ false → OrderedNamed Holding Forming ms
        → round_named stored false all ms ≡ ms
    same_named all no_named each is order = refl
    same_named all (named k a rest) each is order =
        let parts = or_none (calls called a) (named_call called rest) is in
        ap (λ b. named k b (round_named stored false all rest)) (same_argument all a each parts.0 order.0)
        ∙ ap (named k a) (same_named all rest each parts.1 order.1)

    same_argument : (all : Nodes) (a : Argument) → NoCall (each_node all) → calls called a ≡ false → Ordered Holding Forming a
        → round_argument stored false all a ≡ a
    same_argument all null each is order = refl
    same_argument all (flag b) each is order = refl
    same_argument all (whole z) each is order = refl
    same_argument all inexact each is order = refl
    same_argument all (text s) each is order = refl
    same_argument all (list rest) each is order = ap list (same_each all rest each is order)
    same_argument all (object ms) each is order = ap object (same_named all ms each is order)
    same_argument all (from_node id) each is order = ap from_node (landed_same all id each)
    same_argument all (from_parameter name) each is order = refl
    same_argument all (callback ns result) each is order =
        ap (λ id. callback_with_result id (round_nodes stored ns ns no_nodes)) (landed_same ns (id_at ns result) (no_calls ns is))
        ∙ ap (callback_with_result (id_at ns result))
        (same_nodes true ns ns no_nodes (no_calls ns is) is order.1 order.0.0.rise (λ a b has there. absurd (none_there a has))
        ∙ joined_first ns)
        ∙ ap (callback ns) (index_same ns result order.0.0.rise order.0.0.has_result)

    same_each : (all : Nodes) (xs : ListValues) → NoCall (each_node all) → each_call called xs ≡ false → OrderedEach Holding Forming xs
        → round_each stored false all xs ≡ xs
    same_each all no_arguments each is order = refl
    same_each all (argument a rest) each is order =
        let parts = or_none (calls called a) (each_call called rest) is in
        ap (λ b. argument b (round_each stored false all rest)) (same_argument all a each parts.0 order.0)
        ∙ ap (argument a) (same_each all rest each parts.1 order.1)

  -- a round more changes nothing
  pub settled : (in_callback : Bool) (g : PlainGraph) → nodes_call called g.nodes ≡ false → IsInOrder Holding Forming in_callback g
      → round stored g ≡ g
  settled in_callback g is order =
      ap (λ id. graph_with_result id (round_nodes stored g.nodes g.nodes no_nodes))
      (landed_same g.nodes (id_at g.nodes g.result) (no_calls g.nodes is))
      ∙ ap (graph_with_result (id_at g.nodes g.result))
      (same_nodes in_callback g.nodes g.nodes no_nodes (no_calls g.nodes is) is order.1 order.0.rise
      (λ a b has there. absurd (none_there a has)) ∙ joined_first g.nodes)
      ∙ ap (λ r. record { nodes = g.nodes; result = r }) (index_same g.nodes g.result order.0.rise order.0.has_result)
