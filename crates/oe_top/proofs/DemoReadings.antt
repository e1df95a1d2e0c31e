-- What the text of the demonstration is read as: a graph in which no fault of its form stands.
use Rattle.std.proofs.Common.{◌≡◌, ℕ, ◌≤◌, List, [], true, Some, None, codes, pos, length, refl, arith}
use Rattle.std.proofs.lemmas.Str.{IsUtf8-from_is_utf8}
use Rattle.std.specs.Str.{chars, is_utf8}
use lib.Utf8.{encode}
use Rattle.fast_float.specs.Text.{scan}
use Rattle.json.specs.Json.{items, members, value}
use Rattle.json.specs.Lex.{lex, punctuate}
use Rattle.json.specs.Text.{content}
use Rattle.json.specs.Word.{after_number, word}
use Rattle.serde_json.specs.Data.{Data, null, boolean, number, string, array, object, unsigned, no_items, item, Members, no_members, member}
use Rattle.serde_json.specs.Read.{number_of, read}
use Rattle.oe_graph.specs.Built.{graph_of}
use Rattle.oe_graph.specs.Form.{IsReading, Stands, most_input}
use Rattle.oe_graph.specs.Read.{IsFaultless, Reads}
use Rattle.oe_graph.specs.Tree as tree
use Rattle.oe_graph.specs.Tree.{Argument, Named, Nodes, PlainGraph}
use Rattle.oe_graph.specs.Walked.{graph_fault}
use Rattle.oe_graph.proofs.ReadLemmas.{bytes_valid, value_valid}
use Rattle.oe_top.specs.Demonstration.{demo_graph}

-- ---- the value of the text

-- an object of one member
abbrev only : List ℕ → Data → Data
only name d = object (member name d no_members)

-- a node with these arguments
abbrev node_data : List ℕ → Members → Members → Data
node_data process_id arguments rest =
    object (member (codes "arguments") (object arguments) (member (codes "process_id") (string process_id) rest))

abbrev is_result : Members
is_result = member (codes "result") (boolean true) no_members

abbrev ones_data : Data
ones_data = array (item (number (unsigned 1)) (item (number (unsigned 1)) (item (number (unsigned 1)) no_items)))

abbrev max_data : Members
max_data = member (codes "data") (only (codes "from_parameter") (string (codes "data"))) no_members

abbrev reducer_data : Members
reducer_data = member (codes "max") (node_data (codes "max") max_data is_result) no_members

abbrev load_data : Members
load_data =
    member (codes "id") (string (codes "demo")) (
    member (codes "spatial_extent") null (member (codes "temporal_extent") null no_members))

abbrev sum_data : Members
sum_data =
    member (codes "border") (string (codes "replicate")) (
    member (codes "data") (only (codes "from_node") (string (codes "load"))) (
    member (codes "kernel") (array (item ones_data (item ones_data (item ones_data no_items)))) no_members))

abbrev top_data : Members
top_data =
    member (codes "data") (only (codes "from_node") (string (codes "sum"))) (
    member (codes "dimension") (string (codes "bands")) (
    member (codes "reducer") (only (codes "process_graph") (object reducer_data)) no_members))

abbrev demo_nodes : Members
demo_nodes =
    member (codes "load") (node_data (codes "load_collection") load_data no_members) (
    member (codes "sum") (node_data (codes "apply_kernel") sum_data no_members) (
    member (codes "top") (node_data (codes "reduce_dimension") top_data is_result) no_members))

abbrev demo_data : Data
demo_data = only (codes "process_graph") (object demo_nodes)

value_is : read demo_graph ≡ Some demo_data
unfolding number_of lex word after_number punctuate content items members value scan
value_is = refl

test_utf8 : is_utf8 demo_graph ≡ true
unfolding is_utf8 chars encode
test_utf8 = refl

reads_data : IsReading demo_graph demo_data
reads_data = record { utf8 = IsUtf8-from_is_utf8 demo_graph test_utf8; value = value_is }

-- ---- its graph

abbrev pub max_arguments : Named
max_arguments = tree.named (codes "data") (tree.from_parameter (codes "data")) tree.no_named

abbrev pub max_nodes : Nodes
max_nodes = tree.node (codes "max") (codes "max") None max_arguments tree.no_nodes

abbrev ones : Argument
ones =
    tree.list (tree.argument (tree.whole (pos 1)) (tree.argument (tree.whole (pos 1)) (
    tree.argument (tree.whole (pos 1)) tree.no_arguments)))

abbrev pub kernel : Argument
kernel = tree.list (tree.argument ones (tree.argument ones (tree.argument ones tree.no_arguments)))

abbrev pub load_arguments : Named
load_arguments =
    tree.named (codes "id") (tree.text (codes "demo")) (
    tree.named (codes "spatial_extent") tree.null (tree.named (codes "temporal_extent") tree.null tree.no_named))

abbrev pub sum_arguments : Named
sum_arguments =
    tree.named (codes "border") (tree.text (codes "replicate")) (
    tree.named (codes "data") (tree.from_node (codes "load")) (tree.named (codes "kernel") kernel tree.no_named))

abbrev pub top_arguments : Named
top_arguments =
    tree.named (codes "data") (tree.from_node (codes "sum")) (
    tree.named (codes "dimension") (tree.text (codes "bands")) (
    tree.named (codes "reducer") (tree.callback max_nodes 0) tree.no_named))

abbrev pub main_nodes : Nodes
main_nodes =
    tree.node (codes "load") (codes "load_collection") None load_arguments (
    tree.node (codes "sum") (codes "apply_kernel") None sum_arguments (
    tree.node (codes "top") (codes "reduce_dimension") None top_arguments tree.no_nodes))

abbrev pub demo_plain : PlainGraph
demo_plain = record { nodes = main_nodes; result = 2 }

built : demo_plain ≡ graph_of demo_nodes
built = refl

-- ---- no fault of its form

no_fault : None ≡ graph_fault [] demo_nodes
no_fault = refl

size : length demo_graph ≡ 497
size = refl

short : (n : ℕ) → n ≡ 497 → n ≤ most_input
short n is = omega (arith, is)

form_valid : IsFaultless (Stands demo_graph)
form_valid =
    bytes_valid demo_graph demo_data reads_data (short (length demo_graph) size) (value_valid demo_data demo_nodes refl no_fault)

pub demo_reads : Reads demo_graph demo_plain
demo_reads = record {
  value = demo_data;
  is_read = reads_data;
  is_graph = record { nodes = demo_nodes; is_main = refl; built = built };
  valid = form_valid;
}
