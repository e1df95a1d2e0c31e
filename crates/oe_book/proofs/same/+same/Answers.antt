use Rattle.std.proofs.Common.{◌≡◌, ◌↔◌, ◌∙◌, IsTrue, ap, subst, sym, arith}
use Rattle.std.proofs.lemmas.Grind.{common_steps}
use Rattle.oe_graph.specs.Plain.{plain_arg, plain_args, plain_named}
use Rattle.oe_graph.specs.Tree as tree
use Rattle.oe_graph.specs.Tree.{Argument}
use Rattle.oe_book.proofs.JobLemmas.{fails, never}
use Rattle.oe_book.proofs.SameLemmas.{graph_told, head_of, list_told, node_told, object_told, plain_list, plain_object}
use Rattle.oe_book.proofs.same.+same.Goals as goal

pub is_list-returns-in-List : goal.is_list-returns-in-List
is_list-returns-in-List t c =
    subst (λ (a : Argument). IsTrue c.are_same_args.result ↔ (tree.list (plain_args c.args.items.now.items) ≡ a))
    (sym (ap plain_arg c.in-List.is ∙ plain_list c.in-List.others))
    (list_told c.are_same_args.result c.args.items.now.items c.in-List.others.items c.are_same_args.ensures)

pub is_object-returns-in-Object : goal.is_object-returns-in-Object
is_object-returns-in-Object t c =
    subst (λ (a : Argument). IsTrue c.are_same_named.result ↔ (tree.object (plain_named c.args.members.now.items) ≡ a))
    (sym (ap plain_arg c.in-Object.is ∙ plain_object c.in-Object.others))
    (object_told c.are_same_named.result c.args.members.now.items c.in-Object.others.items c.are_same_named.ensures)

pub is_same_graph-returns-then-graph-other : goal.is_same_graph-returns-then-graph-other
is_same_graph-returns-then-graph-other t c =
    graph_told c.are_same_nodes.result c.args.graph.now c.args.other.now c.if-graph-other.true c.are_same_nodes.ensures

pub is_same_node-returns-then-not-is_same_head : goal.is_same_node-returns-then-not-is_same_head
is_same_node-returns-then-not-is_same_head t c =
    never (λ e. fails _ _ c.if-not-is_same_head.true c.is_same_head.ensures (head_of c.args.node.now c.args.other.now e))

pub is_same_node-returns : goal.is_same_node-returns
is_same_node-returns t c =
    node_told c.are_same_named.result c.args.node.now c.args.other.now (c.is_same_head.ensures.0 c.if-not-is_same_head.false)
    c.are_same_named.ensures

pub are_same_args-loop-index-preserved : goal.are_same_args-loop-index-preserved
are_same_args-loop-index-preserved t c = grind (arith, common_steps) steps 2000000

pub are_same_args-returns : goal.are_same_args-returns
are_same_args-returns t c = grind (arith, common_steps) steps 2000000

pub are_same_args-returns-in_default : goal.are_same_args-returns-in_default
are_same_args-returns-in_default t c = grind (arith, common_steps) steps 2000000

pub are_same_args-returns-then-not-is_same_arg : goal.are_same_args-returns-then-not-is_same_arg
are_same_args-returns-then-not-is_same_arg t c = grind (arith, common_steps) steps 2000000

pub are_same_named-loop-index-preserved : goal.are_same_named-loop-index-preserved
are_same_named-loop-index-preserved t c = grind (arith, common_steps) steps 2000000

pub are_same_named-returns : goal.are_same_named-returns
are_same_named-returns t c = grind (arith, common_steps) steps 2000000

pub are_same_named-returns-in_default : goal.are_same_named-returns-in_default
are_same_named-returns-in_default t c = grind (arith, common_steps) steps 2000000

pub are_same_named-returns-then-not-is_same_member : goal.are_same_named-returns-then-not-is_same_member
are_same_named-returns-then-not-is_same_member t c = grind (arith, common_steps) steps 2000000

pub are_same_nodes-loop-index-preserved : goal.are_same_nodes-loop-index-preserved
are_same_nodes-loop-index-preserved t c = grind (arith, common_steps) steps 2000000

pub are_same_nodes-returns : goal.are_same_nodes-returns
are_same_nodes-returns t c = grind (arith, common_steps) steps 2000000

pub are_same_nodes-returns-in_default : goal.are_same_nodes-returns-in_default
are_same_nodes-returns-in_default t c = grind (arith, common_steps) steps 2000000

pub are_same_nodes-returns-then-not-is_same_node : goal.are_same_nodes-returns-then-not-is_same_node
are_same_nodes-returns-then-not-is_same_node t c = grind (arith, common_steps) steps 2000000
