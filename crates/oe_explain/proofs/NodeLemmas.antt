-- The node of a fault: a name parted at its slashes, and a search along nodes.
use Rattle.std.proofs.Common.{◌≡◌, ◌≢◌, ℕ, zero, suc, ◌+◌, ◌<◌, ◌≤◌, ◌==◌, Bool, true, false, if◌then◌else◌, List, [], ◌∷◌, ◌++◌, length, drop, get_or, Option, Some, None, refl, sym, ap, ◌∙◌, arith}
use Rattle.std.proofs.lemmas.Bool.Decides.{nat_tests}
use Rattle.std.proofs.lemmas.List.{at_drop_more, at_drop_all}
use Rattle.oe_dims.specs.Names.{same_name}
use Rattle.oe_graph.specs.Plain.{plain_node, plain_nodes}
use Rattle.oe_graph.specs.Tree.{PlainNode}
use Rattle.oe_graph.specs.declared.tree.Node.{Node}
use Rattle.oe_expr.specs.Nodes.{node_named}
use Rattle.oe_explain.specs.AtFault.{at_slash}

-- ---- a name

over : (byte : ℕ) (name : List ℕ) → byte ≢ 47 → at_slash (byte ∷ name) ≡ (byte ∷ (at_slash name).0, (at_slash name).1)
over byte name other =
    let no : (byte == 47) ≡ false = grind (arith, nat_tests) in
    ap (λ b. if b then ([], Some name) else (byte ∷ (at_slash name).0, (at_slash name).1)) no

-- without a slash
pub no_slash : (name : List ℕ) → ((i : ℕ) → i < length name → get_or name i 0 ≢ 47) → at_slash name ≡ (name, None)
no_slash [] other = refl
no_slash (byte ∷ name) other =
    let rest : at_slash name ≡ (name, None) = no_slash name (λ i below. other (suc i) (omega arith)) in
    over byte name (other 0 (omega arith)) ∙ ap (λ (p : List ℕ × Option (List ℕ)). (byte ∷ p.0, p.1)) rest

-- at the first slash
pub first_slash : (front back : List ℕ) → ((i : ℕ) → i < length front → get_or front i 0 ≢ 47)
    → at_slash (front ++ 47 ∷ back) ≡ (front, Some back)
first_slash [] back other = refl
first_slash (byte ∷ front) back other =
    let rest : at_slash (front ++ 47 ∷ back) ≡ (front, Some back) = first_slash front back (λ i below. other (suc i) (omega arith)) in
    over byte (front ++ 47 ∷ back) (other 0 (omega arith)) ∙ ap (λ (p : List ℕ × Option (List ℕ)). (byte ∷ p.0, p.1)) rest

-- ---- nodes, one by one

first_node : (id : List ℕ) (ns : List Node) (i : ℕ) (n : Node) → i < length ns → n ≡ get_or ns i n
    → node_named id (plain_nodes (drop i ns))
    ≡ (if same_name (plain_node n).id id then Some (plain_node n) else node_named id (plain_nodes (drop (i + 1) ns)))
first_node id ns i n below is =
    at_drop_more (λ xs. node_named id (plain_nodes xs)) ns i n below
    ∙ ap (λ (m : Node). if same_name (plain_node m).id id then Some (plain_node m) else node_named id (plain_nodes (drop (i + 1) ns))) (sym is)

pub other_node : (id : List ℕ) (ns : List Node) (i : ℕ) (n : Node) → i < length ns → n ≡ get_or ns i n → same_name (plain_node n).id id ≡ false
    → node_named id (plain_nodes (drop i ns)) ≡ node_named id (plain_nodes (drop (i + 1) ns))
other_node id ns i n below is other =
    first_node id ns i n below is
    ∙ ap (λ b. if b then Some (plain_node n) else node_named id (plain_nodes (drop (i + 1) ns))) other

pub this_node : (id : List ℕ) (ns : List Node) (i : ℕ) (n : Node) → i < length ns → n ≡ get_or ns i n → same_name (plain_node n).id id ≡ true
    → node_named id (plain_nodes (drop i ns)) ≡ Some (plain_node n)
this_node id ns i n below is same =
    first_node id ns i n below is
    ∙ ap (λ b. if b then Some (plain_node n) else node_named id (plain_nodes (drop (i + 1) ns))) same

pub past_nodes : (id : List ℕ) (ns : List Node) (i : ℕ) → length ns ≤ i → node_named id (plain_nodes (drop i ns)) ≡ None
past_nodes id ns i past = at_drop_all (λ xs. node_named id (plain_nodes xs)) ns i past
