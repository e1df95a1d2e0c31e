-- The JSON value that a graph is written as, and which graphs its text gives again.
use Rattle.std.specs.Prelude.{◌≡◌, ℕ, suc, ◌&&◌, ◌==◌, ◌^◌, Bool, true, false, not, List, [], ◌∷◌, length, Option, Some, None, codes, if◌then◌else◌, nat_le, nat_lt, ℤ, pos, negsuc}
use Rattle.serde_json.specs.Data.{Data, null, boolean, number, string, array, object, unsigned, Items, no_items, item, Members, no_members, member, put}
use Rattle.serde_json.specs.Find.{of_integer}
use Rattle.oe_dims.specs.Names.{is_name, same_name, names_rise}
use Rattle.oe_graph.specs.Tree as tree
use Rattle.oe_graph.specs.Tree.{Argument, ListValues, Named, Nodes, PlainGraph}

-- the value of an object with just one member
abbrev pub single : List ℕ → Data → Data
single name d = object (member name d no_members)

-- the members of a node from its namespace on, and from `result` on
abbrev pub with_result : Bool → Members
with_result false = no_members
with_result true = member (codes "result") (boolean true) no_members

abbrev pub with_namespace : Option (List ℕ) → Members → Members
with_namespace None rest = rest
with_namespace (Some namespace) rest = member (codes "namespace") (string namespace) rest

-- a node whose arguments are written as these members, in byte order of the names
abbrev pub node_data : Members → Option (List ℕ) → List ℕ → Bool → Data
node_data arguments namespace process_id is_result = object (
    member (codes "arguments") (object arguments) (
    with_namespace namespace (
    member (codes "process_id") (string process_id) (with_result is_result))))

-- the optional members, beside those that stand already
abbrev pub put_namespace : Option (List ℕ) → Members → Members
put_namespace None found = found
put_namespace (Some namespace) found = put (codes "namespace") (string namespace) found

abbrev pub put_result : Bool → Members → Members
put_result false found = found
put_result true found = put (codes "result") (boolean true) found

-- A number that is no literal is written as 2^63. Members are put in byte order of their names; of equal names the last
-- stays.
abbrev mutual
  pub argument_data : Argument → Data
  argument_data tree.null = null
  argument_data (tree.flag b) = boolean b
  argument_data (tree.whole z) = number (of_integer z)
  argument_data tree.inexact = number (unsigned (2 ^ 63))
  argument_data (tree.text s) = string s
  argument_data (tree.list rest) = array (arguments_data rest)
  argument_data (tree.object ms) = object (named_data ms no_members)
  argument_data (tree.from_node id) = single (codes "from_node") (string id)
  argument_data (tree.from_parameter name) = single (codes "from_parameter") (string name)
  argument_data (tree.callback ns result) = single (codes "process_graph") (object (nodes_data 0 result ns no_members))

  pub arguments_data : ListValues → Items
  arguments_data tree.no_arguments = no_items
  arguments_data (tree.argument a rest) = item (argument_data a) (arguments_data rest)

  -- beside the members that stand already
  pub named_data : Named → Members → Members
  named_data tree.no_named found = found
  named_data (tree.named name a rest) found = named_data rest (put name (argument_data a) found)

  -- the nodes from an index on, beside those that stand already
  pub nodes_data : ℕ → ℕ → Nodes → Members → Members
  nodes_data index result tree.no_nodes found = found
  nodes_data index result (tree.node id process_id namespace arguments rest) found =
      nodes_data (suc index) result rest
      (put id (node_data (named_data arguments no_members) namespace process_id (index == result)) found)

abbrev pub graph_data : PlainGraph → Data
graph_data g = single (codes "process_graph") (object (nodes_data 0 g.result g.nodes no_members))

-- ---- which graphs are read again

abbrev pub names_of : Named → List (List ℕ)
names_of tree.no_named = []
names_of (tree.named name a rest) = name ∷ names_of rest

abbrev pub ids_of : Nodes → List (List ℕ)
ids_of tree.no_nodes = []
ids_of (tree.node id process_id namespace arguments rest) = id ∷ ids_of rest

-- an object of just one member, which is a text `from_node` or `from_parameter`
abbrev pub is_reference_like : Named → Bool
is_reference_like (tree.named name (tree.text s) tree.no_named) =
    if same_name name (codes "from_node") then true else same_name name (codes "from_parameter")
is_reference_like _ = false

-- an object with a member `process_graph` that is an object, or would be written as one
abbrev pub is_object : Argument → Bool
is_object (tree.object ms) = true
is_object (tree.from_node id) = true
is_object (tree.from_parameter name) = true
is_object (tree.callback ns result) = true
is_object _ = false

abbrev pub is_callback_like : Named → Bool
is_callback_like tree.no_named = false
is_callback_like (tree.named name a rest) =
    if same_name (codes "process_graph") name then is_object a else is_callback_like rest

-- a whole number within 2^63 − 1 of 0
abbrev pub is_whole : ℤ → Bool
is_whole (pos n) = nat_lt n (2 ^ 63)
is_whole (negsuc n) = nat_lt n 9223372036854775807

-- a process id and a namespace in form
abbrev pub is_process_text : List ℕ → Bool
is_process_text text = nat_le 1 (length text) && nat_le (length text) 64

abbrev pub is_namespace_text : Option (List ℕ) → Bool
is_namespace_text None = true
is_namespace_text (Some text) = if same_name text (codes "user") then true else same_name text (codes "backend")

abbrev pub node_count : Nodes → ℕ
node_count tree.no_nodes = 0
node_count (tree.node id process_id namespace arguments rest) = suc (node_count rest)

-- The graph keeps the rules of its form; names rise in byte order; no object has the form of a reference or, as a whole
-- argument, of a callback; each callback is a whole argument; a whole number is within 2^63 − 1 of 0.
abbrev mutual
  -- a value inside an argument
  pub is_plain_value : Argument → Bool
  is_plain_value tree.null = true
  is_plain_value (tree.flag b) = true
  is_plain_value (tree.whole z) = is_whole z
  is_plain_value tree.inexact = true
  is_plain_value (tree.text s) = true
  is_plain_value (tree.list rest) = are_plain_values rest
  is_plain_value (tree.object ms) = not (is_reference_like ms) && names_rise (names_of ms) && are_plain_members ms
  is_plain_value (tree.from_node id) = true
  is_plain_value (tree.from_parameter name) = true
  is_plain_value (tree.callback ns result) = false

  pub are_plain_values : ListValues → Bool
  are_plain_values tree.no_arguments = true
  are_plain_values (tree.argument a rest) = is_plain_value a && are_plain_values rest

  pub are_plain_members : Named → Bool
  are_plain_members tree.no_named = true
  are_plain_members (tree.named name a rest) = is_plain_value a && are_plain_members rest

  -- a whole argument
  pub is_printable_argument : Argument → Bool
  is_printable_argument tree.null = true
  is_printable_argument (tree.flag b) = true
  is_printable_argument (tree.whole z) = is_whole z
  is_printable_argument tree.inexact = true
  is_printable_argument (tree.text s) = true
  is_printable_argument (tree.list rest) = are_plain_values rest
  is_printable_argument (tree.object ms) =
      not (is_callback_like ms) && not (is_reference_like ms) && names_rise (names_of ms) && are_plain_members ms
  is_printable_argument (tree.from_node id) = true
  is_printable_argument (tree.from_parameter name) = true
  is_printable_argument (tree.callback ns result) =
      nat_le (suc result) (node_count ns) && names_rise (ids_of ns) && are_printable_nodes ns

  pub are_printable_arguments : Named → Bool
  are_printable_arguments tree.no_named = true
  are_printable_arguments (tree.named name a rest) = is_printable_argument a && are_printable_arguments rest

  pub are_printable_nodes : Nodes → Bool
  are_printable_nodes tree.no_nodes = true
  are_printable_nodes (tree.node id process_id namespace arguments rest) =
      is_name id && is_process_text process_id && is_namespace_text namespace
      && names_rise (names_of arguments) && are_printable_arguments arguments && are_printable_nodes rest

abbrev pub IsPrintable : PlainGraph → Type 0
IsPrintable g = is_printable_argument (tree.callback g.nodes g.result) ≡ true
