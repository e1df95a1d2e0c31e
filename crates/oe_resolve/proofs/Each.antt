-- Dangling references and defaults in lists of trees, element by element.
use Rattle.std.proofs.Common.{◌≡◌, ℕ, List, [], ◌∷◌, map, refl, ap}
use Rattle.oe_graph.specs.Tree.{argument, named, node, values_from_list, named_from_list, nodes_from_list}
use Rattle.oe_graph.specs.Plain.{plain_arg, plain_args, plain_named, plain_nodes, plain_node}
use Rattle.oe_graph.specs.declared.tree.Arg.{Arg}
use Rattle.oe_graph.specs.declared.tree.Node.{Node}
use Rattle.oe_calls.specs.Rounds as rounds
use Rattle.oe_resolve.specs.Defaults as defaults
use Rattle.oe_calls.proofs.Each.{member_by}

pub cleared_each : (ids : List (List ℕ)) (xs : List Arg)
    → values_from_list (map (λ a. rounds.cleared ids (plain_arg a)) xs) ≡ rounds.cleared_each ids (plain_args xs)
cleared_each ids [] = refl
cleared_each ids (a ∷ xs) = ap (argument (rounds.cleared ids (plain_arg a))) (cleared_each ids xs)

pub cleared_named : (ids : List (List ℕ)) (ms : List (List ℕ × Arg))
    → named_from_list (map (member_by (rounds.cleared ids)) ms) ≡ rounds.cleared_named ids (plain_named ms)
cleared_named ids [] = refl
cleared_named ids (m ∷ ms) = ap (named m.0 (rounds.cleared ids (plain_arg m.1))) (cleared_named ids ms)

pub cleared_nodes : (ids : List (List ℕ)) (ns : List Node)
    → nodes_from_list (map (λ n. rounds.cleared_node ids (plain_node n)) ns) ≡ rounds.cleared_nodes ids (plain_nodes ns)
cleared_nodes ids [] = refl
cleared_nodes ids (n ∷ ns) =
    let m = rounds.cleared_node ids (plain_node n) in
    ap (node m.id m.process_id m.namespace m.arguments) (cleared_nodes ids ns)

pub each_with_defaults : (xs : List Arg)
    → values_from_list (map (λ a. defaults.with_defaults (plain_arg a)) xs) ≡ defaults.each_with_defaults (plain_args xs)
each_with_defaults [] = refl
each_with_defaults (a ∷ xs) = ap (argument (defaults.with_defaults (plain_arg a))) (each_with_defaults xs)

pub named_with_defaults : (ms : List (List ℕ × Arg))
    → named_from_list (map (member_by defaults.with_defaults) ms) ≡ defaults.named_with_defaults (plain_named ms)
named_with_defaults [] = refl
named_with_defaults (m ∷ ms) = ap (named m.0 (defaults.with_defaults (plain_arg m.1))) (named_with_defaults ms)

pub nodes_with_defaults : (ns : List Node)
    → nodes_from_list (map (λ n. defaults.node_with_defaults (plain_node n)) ns) ≡ defaults.nodes_with_defaults (plain_nodes ns)
nodes_with_defaults [] = refl
nodes_with_defaults (n ∷ ns) =
    let m = defaults.node_with_defaults (plain_node n) in
    ap (node m.id m.process_id m.namespace m.arguments) (nodes_with_defaults ns)
