-- One round, node by node: what a reference means after it, and what is put in place of a node.
use Rattle.std.proofs.Common.{◌≡◌, ℕ, zero, suc, ◌+◌, ◌<◌, ◌≤◌, Bool, true, false, cond, if◌then◌else◌, List, [], ◌∷◌, ◌++◌, map, length, get_or, drop, find, option_and_then, Option, Some, None, is_some, refl, sym, ap, ◌∙◌, arith}
use Rattle.std.proofs.lemmas.List.{drop_more}
use Rattle.oe_dims.specs.Names.{same_name}
use Rattle.oe_graph.specs.Plain.{plain_node, plain_named, plain_nodes}
use Rattle.oe_graph.specs.References.{each_node}
use Rattle.oe_graph.specs.Tree.{node, Named, Nodes, PlainNode, PlainStored}
use Rattle.oe_graph.specs.declared.tree.Node.{Node}
use Rattle.oe_graph.proofs.PartLemmas.{node_parts}
use Rattle.oe_calls.specs.Calls.{callee}
use Rattle.oe_calls.specs.Rounds.{index_of, landing, landed, opened, put_nodes, round_named, round_nodes}

-- ---- the node of an id

-- the first node of an id
abbrev node_of : List ℕ → List Node → Option PlainNode
node_of id ns = find (λ (n : PlainNode). same_name n.id id) (each_node (plain_nodes ns))

none_if : (same : Bool) (i count : ℕ) (m : PlainNode) (rest : Option PlainNode)
    → suc count ≤ (if same then 0 else suc i) → (count ≤ i → rest ≡ None) → cond same (Some m) rest ≡ None
none_if true i count m rest past later = absurd (omega arith)
none_if false i count m rest past later = later (omega arith)

none_of : (ns : List Node) (id : List ℕ) → length ns ≤ index_of id (plain_nodes ns) → node_of id ns ≡ None
none_of [] id past = refl
none_of (m ∷ ns) id past =
    none_if (same_name (plain_node m).id id) (index_of id (plain_nodes ns)) (length ns) (plain_node m) (node_of id ns) past
    (none_of ns id)

some_if : (same : Bool) (i : ℕ) (m : Node) (ns : List Node) (n : Node) (rest : Option PlainNode)
    → (if same then 0 else suc i) < suc (length ns) → n ≡ get_or (m ∷ ns) (if same then 0 else suc i) n
    → (i < length ns → n ≡ get_or ns i n → rest ≡ Some (plain_node n))
    → cond same (Some (plain_node m)) rest ≡ Some (plain_node n)
some_if true i m ns n rest below is later = ap (λ (x : Node). Some (plain_node x)) (sym is)
some_if false i m ns n rest below is later = later (omega arith) is

some_of : (ns : List Node) (id : List ℕ) (n : Node) → index_of id (plain_nodes ns) < length ns
    → n ≡ get_or ns (index_of id (plain_nodes ns)) n → node_of id ns ≡ Some (plain_node n)
some_of [] id n below is = absurd (omega arith)
some_of (m ∷ ns) id n below is =
    some_if (same_name (plain_node m).id id) (index_of id (plain_nodes ns)) m ns n (node_of id ns) below is (some_of ns id n)

within_if : (same : Bool) (i count : ℕ) → i ≤ count → (if same then 0 else suc i) ≤ suc count
within_if true i count below = omega arith
within_if false i count below = omega arith

pub index_of-within : (id : List ℕ) (ns : List Node) → index_of id (plain_nodes ns) ≤ length ns
index_of-within id [] = omega arith
index_of-within id (m ∷ ns) =
    within_if (same_name (plain_node m).id id) (index_of id (plain_nodes ns)) (length ns) (index_of-within id ns)

-- ---- what a reference means

abbrev called : List PlainStored → Option PlainNode → Option PlainStored
called stored found = option_and_then (λ (n : PlainNode). callee stored n.namespace n.process_id) found

pub landed-none : (stored : List PlainStored) (ns : List Node) (id : List ℕ) → length ns ≤ index_of id (plain_nodes ns)
    → landed stored (plain_nodes ns) id ≡ id
landed-none stored ns id past = ap (λ o. landing id (called stored o)) (none_of ns id past)

pub landed-at : (stored : List PlainStored) (ns : List Node) (id : List ℕ) (n : Node)
    → index_of id (plain_nodes ns) < length ns → n ≡ get_or ns (index_of id (plain_nodes ns)) n
    → landed stored (plain_nodes ns) id ≡ landing id (callee stored n.namespace n.process_id)
landed-at stored ns id n below is =
    ap (λ o. landing id (called stored o)) (some_of ns id n below is)
    ∙ ap (λ (m : PlainNode). landing id (callee stored m.namespace m.process_id)) (node_parts n)

-- ---- one more node

pub round_nodes-next : (stored : List PlainStored) (all : Nodes) (ns : List Node) (i : ℕ) (n : Node) (found : Nodes)
    (arguments : Named) (more after : Nodes)
    → i < length ns → n ≡ get_or ns i n
    → arguments ≡ round_named stored (is_some (callee stored n.namespace n.process_id)) all (plain_named n.arguments.items)
    → more ≡ opened stored (record (plain_node n) { arguments = arguments }) (callee stored n.namespace n.process_id)
    → after ≡ put_nodes more found
    → round_nodes stored all (plain_nodes (drop i ns)) found ≡ round_nodes stored all (plain_nodes (drop (i + 1) ns)) after
round_nodes-next stored all ns i n found arguments more after below is same_arguments same_more same_after =
    let rest = plain_nodes (drop (i + 1) ns) in
    let call = callee stored n.namespace n.process_id in
    let opened_is : more ≡ opened stored (record {
      id = n.id;
      process_id = n.process_id;
      namespace = n.namespace;
      arguments = round_named stored (is_some call) all (plain_named n.arguments.items);
    }) call =
    same_more
    ∙ (ap (λ (m : PlainNode). opened stored (record m { arguments = arguments }) call) (node_parts n)
    ∙ ap (λ a. opened stored (record { id = n.id; process_id = n.process_id; namespace = n.namespace; arguments = a }) call) same_arguments) in
    ap (λ (xs : List Node). round_nodes stored all (plain_nodes xs) found) (drop_more ns i n below ∙ ap (λ (x : Node). x ∷ drop (i + 1) ns) (sym is))
    ∙ (ap (λ (m : PlainNode). round_nodes stored all (node m.id m.process_id m.namespace m.arguments rest) found) (node_parts n)
    ∙ (ap (λ ms. round_nodes stored all rest (put_nodes ms found)) (sym opened_is)
    ∙ ap (round_nodes stored all rest) (sym same_after)))
