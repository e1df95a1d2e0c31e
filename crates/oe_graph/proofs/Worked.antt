-- Worked values, from the public texts and by hand.
use Rattle.std.proofs.Common.{◌≡◌, ℕ, ◌∷◌, [], List, Bool, true, false, Option, Some, None, codes, map, pos, negsuc, refl, length}
use Rattle.std.specs.Prelude.{ℤ}
use Rattle.serde_json.specs.Data.{Data, null, boolean, number, string, array, object, unsigned, negative, Items, no_items, item, Members, no_members, member}
use Rattle.oe_dims.specs.Names.{names_rise}
use Rattle.oe_graph.specs.Tree as tree
use Rattle.oe_graph.specs.Faults.{is_before}
use Rattle.oe_graph.specs.Form.{is_node, is_result, nodes_in, result_count, node_name, callback_name}
use Rattle.oe_graph.specs.Walked.{graph_fault}
use Rattle.oe_graph.specs.Built.{value_of, argument_of, graph_of}
use Rattle.oe_graph.specs.Parameters.{are_parameters, parameters_of}
use Rattle.oe_graph.specs.Printed.{graph_data}
use Rattle.oe_graph.specs.AsRead.{is_as_read}
use Rattle.oe_graph.specs.Valid.{is_valid, is_plain}
use Rattle.oe_graph.specs.Catalogue.{catalogue, process_named, Process, Parameter}
use Rattle.oe_graph.specs.declared.code.Code.TheVariants.{NodeInvalid, ResultNodeCount, ParametersInvalid, GraphTooLarge, ProcessUnsupported}

-- ---- the order of faults: phase, then whole name in bytes, then number

by_phase : is_before (record { code = ProcessUnsupported; node = codes "z" }) (record { code = GraphTooLarge; node = [] }) ≡ true
by_phase = refl

by_name : is_before (record { code = ResultNodeCount; node = codes "a" }) (record { code = NodeInvalid; node = codes "b" }) ≡ true
by_name = refl

by_number : is_before (record { code = ParametersInvalid; node = [] }) (record { code = NodeInvalid; node = [] }) ≡ false
by_number = refl

-- a dash stands before the slash that parts names
dash_first : is_before (record { code = NodeInvalid; node = codes "a-b" }) (record { code = NodeInvalid; node = codes "a/f/n" }) ≡ true
dash_first = refl

-- ---- nodes and graph objects

abbrev no_arguments_given : Data
no_arguments_given = object no_members

-- a node of the process `p` with these arguments, and members after `process_id`
abbrev node_with : Data → Members → Data
node_with arguments rest =
    object (member (codes "arguments") arguments (member (codes "process_id") (string (codes "p")) rest))

abbrev result_true : Members
result_true = member (codes "result") (boolean true) no_members

-- the result node `z` alone
abbrev one_node : Members
one_node = member (codes "z") (node_with no_arguments_given result_true) no_members

abbrev graph_with : Members → Data
graph_with nodes = object (member (codes "process_graph") (object nodes) no_members)

least_node : is_node (node_with no_arguments_given no_members) ≡ true
least_node = refl

not_an_object : is_node (number (unsigned 5)) ≡ false
not_an_object = refl

without_arguments : is_node (object (member (codes "process_id") (string (codes "p")) no_members)) ≡ false
without_arguments = refl

result_null : is_node (node_with no_arguments_given (member (codes "result") null no_members)) ≡ false
result_null = refl

another_namespace :
    is_node (object (member (codes "arguments") no_arguments_given (member (codes "namespace") (string (codes "me")) (
    member (codes "process_id") (string (codes "p")) no_members)))) ≡ false
another_namespace = refl

names : callback_name (node_name (codes "p/a") (codes "n")) (codes "b") ≡ codes "p/a/n/b"
names = refl

no_fault : graph_fault [] one_node ≡ None
no_fault = refl

no_node : graph_fault [] no_members ≡ Some (record { code = ResultNodeCount; node = [] })
no_node = refl

-- a node that is no object stands beside a missing result: the empty name comes first
name_before_number :
    graph_fault [] (member (codes "a") (number (unsigned 5)) no_members) ≡ Some (record { code = ResultNodeCount; node = [] })
name_before_number = refl

id_not_valid : graph_fault [] (member (codes "a b") null one_node) ≡ Some (record { code = NodeInvalid; node = [] })
id_not_valid = refl

-- a callback without nodes in the argument `f`
abbrev calls_back : Members
calls_back = member (codes "a") (node_with (object (member (codes "f") (graph_with no_members) no_members)) no_members) one_node

callback_counted : graph_fault [] calls_back ≡ Some (record { code = ResultNodeCount; node = codes "a/f" })
callback_counted = refl

-- a later node with a lesser name than the callback's
later_is_less :
    graph_fault [] (member (codes "a") (node_with (object (member (codes "f") (graph_with no_members) no_members)) no_members)
    (member (codes "a-b") null one_node))
    ≡ Some (record { code = NodeInvalid; node = codes "a-b" })
later_is_less = refl

-- ---- arguments

refers : value_of false (object (member (codes "from_node") (string (codes "a")) no_members)) ≡ tree.from_node (codes "a")
refers = refl

second_member :
    value_of false (object (member (codes "from_node") (string (codes "a")) (member (codes "z") null no_members)))
    ≡ tree.object (tree.named (codes "from_node") (tree.text (codes "a")) (tree.named (codes "z") tree.null tree.no_named))
second_member = refl

no_text : value_of false (object (member (codes "from_node") null no_members)) ≡ tree.object (tree.named (codes "from_node") tree.null tree.no_named)
no_text = refl

default_is_plain :
    value_of true (object (member (codes "from_node") (string (codes "a")) no_members))
    ≡ tree.object (tree.named (codes "from_node") (tree.text (codes "a")) tree.no_named)
default_is_plain = refl

greatest : argument_of (number (unsigned 9223372036854775807)) ≡ tree.whole (pos 9223372036854775807)
greatest = refl

past_the_greatest : argument_of (number (unsigned 9223372036854775808)) ≡ tree.inexact
past_the_greatest = refl

least_literal : argument_of (number (negative (negsuc 9223372036854775806))) ≡ tree.whole (negsuc 9223372036854775806)
least_literal = refl

past_the_least : argument_of (number (negative (negsuc 9223372036854775807))) ≡ tree.inexact
past_the_least = refl

whole_callback : argument_of (graph_with one_node) ≡ tree.callback (tree.node (codes "z") (codes "p") None tree.no_named tree.no_nodes) 0
whole_callback = refl

-- one level down the same object is a plain object
deep_object :
    argument_of (array (item (graph_with no_members) no_items))
    ≡ tree.list (tree.argument (tree.object (tree.named (codes "process_graph") (tree.object tree.no_named) tree.no_named)) tree.no_arguments)
deep_object = refl

printed : graph_data (graph_of one_node) ≡ graph_with one_node
printed = refl

-- ---- the form that reading gives

names_fall : is_as_read (object (member (codes "b") null (member (codes "a") null no_members))) ≡ false
names_fall = refl

least_of_64_bits : is_as_read (number (negative (negsuc 9223372036854775807))) ≡ true
least_of_64_bits = refl

one_node_valid : is_valid (tree.callback (graph_of one_node).nodes (graph_of one_node).result) ≡ true
one_node_valid = refl

-- an index that is that of no node
no_result : is_valid (tree.callback (graph_of one_node).nodes 1) ≡ false
no_result = refl

-- members of an object in any order
members_fall : is_valid (tree.object (tree.named (codes "b") tree.null (tree.named (codes "a") tree.null tree.no_named))) ≡ true
members_fall = refl

reference_in_a_list : is_plain (tree.list (tree.argument (tree.from_parameter (codes "x")) tree.no_arguments)) ≡ false
reference_in_a_list = refl

-- ---- parameters

no_parameters : are_parameters null ≡ true
no_parameters = refl

equal_names :
    are_parameters (array (item (object (member (codes "name") (string (codes "a")) no_members))
    (item (object (member (codes "name") (string (codes "a")) no_members)) no_items))) ≡ false
equal_names = refl

optional_null :
    are_parameters (array (item (object (member (codes "name") (string (codes "a"))
    (member (codes "optional") null no_members))) no_items)) ≡ false
optional_null = refl

-- ---- the catalogue

ids_rise : names_rise (map (λ (p : Process). p.id) catalogue) ≡ true
ids_rise = refl

number_of_processes : length catalogue ≡ 47
number_of_processes = refl

no_such_process : process_named (codes "nothing") ≡ None
no_such_process = refl

abbrev names_of_parameters : Option Process → List (List ℕ)
names_of_parameters None = []
names_of_parameters (Some p) = map (λ (q : Parameter). q.name) p.parameters

kernel_parameters :
    names_of_parameters (process_named (codes "apply_kernel"))
    ≡ codes "data" ∷ codes "kernel" ∷ codes "factor" ∷ codes "border" ∷ codes "replace_invalid" ∷ []
kernel_parameters = refl
