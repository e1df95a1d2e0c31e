-- The form of a graph (openEO API, process graphs), over the reading of `serde_json`: what a node, a callback and a
-- graph object are, and where each fault of the form stands.
use Rattle.std.specs.Prelude.{◌≡◌, ◌≢◌, ℕ, ◌+◌, ◌<◌, ◌≤◌, ◌&&◌, ◌||◌, ◌==◌, Bool, true, false, nat_le, List, [], ◌∷◌, ◌++◌, length, Option, Some, None, is_some, is_none, if◌then◌else◌, codes, option_and_then, IsUtf8}
use Rattle.std.specs.Option.{option_map_or}
use Rattle.serde_json.specs.Data.{Data, null, boolean, number, string, array, object, Items, no_items, item, Members, no_members, member}
use Rattle.serde_json.specs.Find.{get, as_bool, as_null, as_str, as_object}
use Rattle.serde_json.specs.Read.{read}
use Rattle.oe_dims.specs.Names.{is_name, same_name}
use Rattle.oe_graph.specs.declared.code.Code.{Code}
use Rattle.oe_graph.specs.declared.code.Code.TheVariants.{InputTooLong, GraphUnreadable, ProcessGraphMissing, NodeInvalid, ResultNodeCount}

-- most bytes of an input
abbrev pub most_input : ℕ
most_input = 1048576

-- ---- a node

-- no member of this name, or one that passes a test
abbrev pub is_absent_or : (Data → Bool) → List ℕ → Data → Bool
is_absent_or test name d = option_map_or test (get name d) true

-- a text of 1 to 64 bytes
abbrev pub is_process_id : Data → Bool
is_process_id d = option_map_or (λ text. nat_le 1 (length text) && nat_le (length text) 64) (as_str d) false

-- null, "user" or "backend"
abbrev pub is_namespace : Data → Bool
is_namespace d =
    is_some (as_null d)
    || option_map_or (λ text. same_name text (codes "user") || same_name text (codes "backend")) (as_str d) false

-- a text or null
abbrev pub is_description : Data → Bool
is_description d = is_some (as_str d) || is_some (as_null d)

abbrev pub is_flag : Data → Bool
is_flag d = is_some (as_bool d)

-- the members of the member `arguments`, where it is an object
abbrev pub arguments_in : Data → Option Members
arguments_in d = option_and_then as_object (get (codes "arguments") d)

-- a value that is a node, whatever its id: an object, which has a process and arguments and no other member in a wrong
-- form
abbrev pub is_node : Data → Bool
is_node d =
    option_map_or is_process_id (get (codes "process_id") d) false
    && is_some (arguments_in d)
    && is_absent_or is_namespace (codes "namespace") d
    && is_absent_or is_flag (codes "result") d
    && is_absent_or is_description (codes "description") d

-- the value has a member `result` that is true
abbrev pub is_result : Data → Bool
is_result d = option_map_or (λ flag. flag) (option_and_then as_bool (get (codes "result") d)) false

-- ---- graph objects

-- the nodes of an object whose member `process_graph` is an object: of an input, or of an argument that is a callback
abbrev pub nodes_in : Data → Option Members
nodes_in d = option_and_then as_object (get (codes "process_graph") d)

-- how many members have `result` true
abbrev pub result_count : Members → ℕ
result_count no_members = 0
result_count (member id d rest) = (if is_result d then 1 else 0) + result_count rest

-- the name of the node n in a graph object: n in the main graph, whose name is empty, and p/a/n in that of the name p/a
abbrev pub node_name : List ℕ → List ℕ → List ℕ
node_name [] id = id
node_name (b ∷ name) id = (b ∷ name) ++ 47 ∷ id

-- the name of the callback a of a node
abbrev pub callback_name : List ℕ → List ℕ → List ℕ
callback_name node argument = node ++ 47 ∷ argument

-- an object has this member
pub data IsMember (name : List ℕ) (value : Data) : Members → Type 0 where
  first : {rest : Members} → IsMember name value (member name value rest)
  later : {other : List ℕ} {d : Data} {rest : Members} → IsMember name value rest
      → IsMember name value (member other d rest)

-- A graph object, by its nodes and its name, stands within one at a name: it is that one itself, or stands within the
-- callback of a node of it. A node whose id is not valid has no name, and nor has what stands in it.
pub data IsNamedWithin (nodes : Members) (name : List ℕ) : Members → List ℕ → Type 0 where
  itself : IsNamedWithin nodes name nodes name
  in_callback :
      {outer : Members} {at id : List ℕ} {d : Data} {arguments : Members} {a : List ℕ} {value : Data} {inner : Members}
      → IsMember id d outer → is_name id ≡ true
      → arguments_in d ≡ Some arguments → IsMember a value arguments
      → nodes_in value ≡ Some inner
      → IsNamedWithin nodes name inner (callback_name (node_name at id) a)
      → IsNamedWithin nodes name outer at

-- the graph objects of an input: the main graph, whose name is empty, and the callbacks within it
pub record IsGraphObject (input : Data) (nodes : Members) (name : List ℕ) : Type 0 where
  pub main : Members
  pub is_main : nodes_in input ≡ Some main
  pub within : IsNamedWithin nodes name main []

-- ---- where a fault stands

-- the bytes are the JSON text of this value
pub record IsReading (bytes : List ℕ) (d : Data) : Type 0 where
  pub utf8 : IsUtf8 bytes
  pub value : read bytes ≡ Some d

-- in a value that was sent as a graph: one case for each row of the table
pub data StandsIn (input : Data) : Code → List ℕ → Type 0 where
  -- it is no object
  graph_unreadable : as_object input ≡ None → StandsIn input GraphUnreadable []
  -- there is no member `process_graph` that is an object
  process_graph_missing : nodes_in input ≡ None → StandsIn input ProcessGraphMissing []
  -- a node's id is not in form: at its graph object
  node_id_invalid : {nodes : Members} {name id : List ℕ} {d : Data}
      → IsGraphObject input nodes name → IsMember id d nodes → is_name id ≡ false
      → StandsIn input NodeInvalid name
  -- a node is no object, or one of its members is missing or not in form: at the node
  node_invalid : {nodes : Members} {name id : List ℕ} {d : Data}
      → IsGraphObject input nodes name → IsMember id d nodes → is_name id ≡ true → is_node d ≡ false
      → StandsIn input NodeInvalid (node_name name id)
  -- a graph object has not exactly one node with `result` true: at the graph object
  result_node_count : {nodes : Members} {name : List ℕ}
      → IsGraphObject input nodes name → result_count nodes ≢ 1
      → StandsIn input ResultNodeCount name

-- in bytes that were sent as a graph
pub data Stands (bytes : List ℕ) : Code → List ℕ → Type 0 where
  input_too_long : most_input < length bytes → Stands bytes InputTooLong []
  -- they are no JSON
  graph_unreadable : ((d : Data) → ¬ IsReading bytes d) → Stands bytes GraphUnreadable []
  of_value : {d : Data} {code : Code} {name : List ℕ}
      → IsReading bytes d → StandsIn d code name → Stands bytes code name
