-- The graph that a JSON value is, where no fault of its form stands (openEO API, process graphs).
use Rattle.std.specs.Prelude.{ℕ, zero, suc, ◌≡◌, List, [], Bool, true, false, not, Option, Some, None, if◌then◌else◌, codes, unwrap_or, option_map, option_and_then}
use Rattle.serde_json.specs.Data.{Data, null, boolean, number, string, array, object, Num, Items, no_items, item, Members, no_members, member}
use Rattle.serde_json.specs.Find.{get, as_i64, as_str}
use Rattle.oe_dims.specs.Names.{same_name}
use Rattle.std.specs.Prelude.{ℤ, pos, negsuc, nat_eq}
use Rattle.oe_graph.specs.Form.{is_result}
use Rattle.oe_graph.specs.Tree as tree
use Rattle.oe_graph.specs.declared.build.Referred.{Referred}
use Rattle.oe_graph.specs.declared.build.Referred.TheVariants.{Node, Parameter}
use Rattle.oe_graph.specs.Tree.{Argument, ListValues, Named, Nodes, PlainGraph}

-- −2^63 is no literal, since numbers are symmetric about 0
abbrev pub is_literal : ℤ → Bool
is_literal (pos n) = true
is_literal (negsuc n) = not (nat_eq n 9223372036854775807)

-- a whole number that is a literal, or a number that is none
abbrev pub number_argument : Num → Argument
number_argument n = unwrap_or (option_map (λ z. if is_literal z then tree.whole z else tree.inexact) (as_i64 n))
    tree.inexact

-- the name and the value of the member of an object that has just one
abbrev pub the_member : Members → Option (List ℕ × Data)
the_member no_members = None
the_member (member name d no_members) = Some (name, d)
the_member (member name d (member other e rest)) = None

-- what a member refers to, by its name, where it is a text
abbrev pub reference_by : List ℕ × Data → Option Argument
reference_by m =
    if same_name m.0 (codes "from_node") then option_map tree.from_node (as_str m.1) else (
    if same_name m.0 (codes "from_parameter") then option_map tree.from_parameter (as_str m.1) else None)

-- an object whose only member is a text `from_node` or `from_parameter` is a reference
abbrev pub reference : Members → Option Argument
reference ms = option_and_then reference_by (the_member ms)

-- the reference that an object is, and none where a value is read as plain
abbrev pub reference_unless : Bool → Members → Option Argument
reference_unless plain ms = if plain then None else reference ms

-- the value of a reference that was found
abbrev pub referred_value : Referred → Argument
referred_value (Node id) = tree.from_node id.now
referred_value (Parameter name) = tree.from_parameter name.now

-- A value inside an argument, where objects may be references and none is a callback; or, where it is read as plain, a
-- default, where none is a reference either.
abbrev mutual
  pub value_of : Bool → Data → Argument
  value_of plain null = tree.null
  value_of plain (boolean b) = tree.flag b
  value_of plain (number n) = number_argument n
  value_of plain (string s) = tree.text s
  value_of plain (array ds) = tree.list (values_of plain ds)
  value_of plain (object ms) = unwrap_or (reference_unless plain ms) (tree.object (members_of plain ms))

  pub values_of : Bool → Items → ListValues
  values_of plain no_items = tree.no_arguments
  values_of plain (item d ds) = tree.argument (value_of plain d) (values_of plain ds)

  pub members_of : Bool → Members → Named
  members_of plain no_members = tree.no_named
  members_of plain (member name d ms) = tree.named name (value_of plain d) (members_of plain ms)

-- the texts of a node, where it has them
abbrev pub text_at : List ℕ → Data → Option (List ℕ)
text_at name d = option_and_then as_str (get name d)

abbrev pub process_id_of : Data → List ℕ
process_id_of d = unwrap_or (text_at (codes "process_id") d) []

abbrev pub namespace_of : Data → Option (List ℕ)
namespace_of d = text_at (codes "namespace") d

-- the index of the node with `result` true
abbrev pub result_index : Members → ℕ
result_index no_members = 0
result_index (member id d rest) = if is_result d then 0 else suc (result_index rest)

-- A whole argument is a callback where it is an object with a member `process_graph` that is an object. Nodes and
-- arguments stand as the reading has them, in byte order.
abbrev mutual
  pub nodes_from_data : Members → Nodes
  nodes_from_data no_members = tree.no_nodes
  nodes_from_data (member id d rest) =
      tree.node id (process_id_of d) (namespace_of d) (arguments_from_data d) (nodes_from_data rest)

  -- the arguments of a node
  pub arguments_from_data : Data → Named
  arguments_from_data null = tree.no_named
  arguments_from_data (boolean b) = tree.no_named
  arguments_from_data (number n) = tree.no_named
  arguments_from_data (string s) = tree.no_named
  arguments_from_data (array ds) = tree.no_named
  arguments_from_data (object ms) = arguments_among ms

  -- the member `arguments`
  pub arguments_among : Members → Named
  arguments_among no_members = tree.no_named
  arguments_among (member name d rest) = if same_name (codes "arguments") name then named_in d else arguments_among rest

  pub named_in : Data → Named
  named_in null = tree.no_named
  named_in (boolean b) = tree.no_named
  named_in (number n) = tree.no_named
  named_in (string s) = tree.no_named
  named_in (array ds) = tree.no_named
  named_in (object ms) = each_argument ms

  pub each_argument : Members → Named
  each_argument no_members = tree.no_named
  each_argument (member name d rest) = tree.named name (argument_of d) (each_argument rest)

  pub argument_of : Data → Argument
  argument_of null = tree.null
  argument_of (boolean b) = tree.flag b
  argument_of (number n) = number_argument n
  argument_of (string s) = tree.text s
  argument_of (array ds) = tree.list (values_of false ds)
  argument_of (object ms) = unwrap_or (callback_among ms) (value_of false (object ms))

  -- the member `process_graph`
  pub callback_among : Members → Option Argument
  callback_among no_members = None
  callback_among (member name d rest) =
      if same_name (codes "process_graph") name then callback_in d else callback_among rest

  pub callback_in : Data → Option Argument
  callback_in null = None
  callback_in (boolean b) = None
  callback_in (number n) = None
  callback_in (string s) = None
  callback_in (array ds) = None
  callback_in (object ms) = Some (tree.callback (nodes_from_data ms) (result_index ms))

abbrev pub graph_of : Members → PlainGraph
graph_of nodes = record { nodes = nodes_from_data nodes; result = result_index nodes }
