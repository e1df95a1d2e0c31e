-- A node put at the index that its id has in byte order.
use Rattle.std.proofs.Common.{◌≡◌, ℕ, suc, Bool, true, false, if◌then◌else◌, List, [], ◌∷◌, refl, ap, ◌∙◌}
use Rattle.std.specs.List.{insert}
use Rattle.oe_dims.specs.Names.{is_name_before}
use Rattle.oe_graph.specs.Plain.{plain_node, plain_nodes}
use Rattle.oe_graph.specs.Printed.{ids_of}
use Rattle.oe_graph.specs.Tree.{node, Nodes, PlainNode}
use Rattle.oe_graph.specs.declared.tree.Node.{Node}
use Rattle.oe_calls.specs.Rounds.{index_among, put_node}
use Rattle.oe_calls.proofs.NodeLemmas.{id_of}

abbrev before_all : PlainNode → Nodes → Nodes
before_all n rest = node n.id n.process_id n.namespace n.arguments rest

node_step : (before : Bool) (n m : Node) (ns : List Node) (i : ℕ)
    → put_node (plain_node n) (plain_nodes ns) ≡ plain_nodes (insert ns i n)
    → (if before then before_all (plain_node m) (put_node (plain_node n) (plain_nodes ns))
    else before_all (plain_node n) (before_all (plain_node m) (plain_nodes ns)))
    ≡ plain_nodes (insert (m ∷ ns) (if before then suc i else 0) n)
node_step true n m ns i more = ap (before_all (plain_node m)) more
node_step false n m ns i more = refl

put_at_plain : (n : Node) (ns : List Node)
    → put_node (plain_node n) (plain_nodes ns)
    ≡ plain_nodes (insert ns (index_among (plain_node n).id (ids_of (plain_nodes ns))) n)
put_at_plain n [] = refl
put_at_plain n (m ∷ ns) =
    node_step (is_name_before (plain_node m).id (plain_node n).id) n m ns
    (index_among (plain_node n).id (ids_of (plain_nodes ns))) (put_at_plain n ns)

pub put_node-insert : (n : Node) (ns : List Node)
    → put_node (plain_node n) (plain_nodes ns) ≡ plain_nodes (insert ns (index_among n.id (ids_of (plain_nodes ns))) n)
put_node-insert n ns =
    put_at_plain n ns ∙ ap (λ id. plain_nodes (insert ns (index_among id (ids_of (plain_nodes ns))) n)) (id_of n)
