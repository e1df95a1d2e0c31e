-- The least fault of a graph object, as one pass over it finds it: the least of those found is handed along, from the
-- fault of the number of result nodes through the nodes. `proofs` ties it to where faults stand.
use Rattle.std.specs.Prelude.{ℕ, ◌==◌, List, [], ◌∷◌, ◌++◌, Bool, Option, Some, None, if◌then◌else◌, codes}
use Rattle.serde_json.specs.Data.{Data, null, boolean, number, string, array, object, Members, no_members, member}
use Rattle.oe_dims.specs.Names.{is_name, same_name}
use Rattle.oe_graph.specs.Faults.{least}
use Rattle.oe_graph.specs.Form.{is_absent_or, is_node, node_name, callback_name, result_count}
use Rattle.oe_graph.specs.Parameters.{are_parameters}
use Rattle.oe_graph.specs.declared.code.Code.{Code}
use Rattle.oe_graph.specs.declared.code.Code.TheVariants.{NodeInvalid, ResultNodeCount, ParametersInvalid}
use Rattle.oe_graph.specs.declared.fault.Fault.{Fault}

abbrev pub fault_at : Code → List ℕ → Option Fault
fault_at code node = Some (record { code = code; node = node })

-- of the number of result nodes
abbrev pub count_fault : List ℕ → Members → Option Fault
count_fault at nodes = if result_count nodes == 1 then None else fault_at ResultNodeCount at

-- of a node by itself
abbrev pub own_fault : List ℕ → Data → Option Fault
own_fault name d = if is_node d then None else fault_at NodeInvalid name

-- of a node, where `inside` is the least fault of its callbacks
abbrev pub node_fault : List ℕ → List ℕ → Data → Option Fault → Option Fault
node_fault at id d inside =
    if is_name id then least (own_fault (node_name at id) d) inside else fault_at NodeInvalid at

abbrev mutual
  pub nodes_fault : List ℕ → Option Fault → Members → Option Fault
  nodes_fault at found no_members = found
  nodes_fault at found (member id d rest) =
      nodes_fault at (least found (node_fault at id d (inside_fault (node_name at id) d))) rest

  -- of the callbacks of a node
  pub inside_fault : List ℕ → Data → Option Fault
  inside_fault name null = None
  inside_fault name (boolean b) = None
  inside_fault name (number n) = None
  inside_fault name (string s) = None
  inside_fault name (array ds) = None
  inside_fault name (object ms) = arguments_fault name ms

  -- of the member `arguments`
  pub arguments_fault : List ℕ → Members → Option Fault
  arguments_fault name no_members = None
  arguments_fault name (member k d rest) =
      if same_name (codes "arguments") k then each_fault name d else arguments_fault name rest

  pub each_fault : List ℕ → Data → Option Fault
  each_fault name null = None
  each_fault name (boolean b) = None
  each_fault name (number n) = None
  each_fault name (string s) = None
  each_fault name (array ds) = None
  each_fault name (object ms) = callbacks_fault name None ms

  pub callbacks_fault : List ℕ → Option Fault → Members → Option Fault
  callbacks_fault name found no_members = found
  callbacks_fault name found (member a d rest) =
      callbacks_fault name (least found (callback_fault (callback_name name a) d)) rest

  pub callback_fault : List ℕ → Data → Option Fault
  callback_fault at null = None
  callback_fault at (boolean b) = None
  callback_fault at (number n) = None
  callback_fault at (string s) = None
  callback_fault at (array ds) = None
  callback_fault at (object ms) = graph_among at ms

  -- of the member `process_graph`
  pub graph_among : List ℕ → Members → Option Fault
  graph_among at no_members = None
  graph_among at (member k d rest) =
      if same_name (codes "process_graph") k then graph_in at d else graph_among at rest

  pub graph_in : List ℕ → Data → Option Fault
  graph_in at null = None
  graph_in at (boolean b) = None
  graph_in at (number n) = None
  graph_in at (string s) = None
  graph_in at (array ds) = None
  graph_in at (object ns) = nodes_fault at (count_fault at ns) ns

abbrev pub graph_fault : List ℕ → Members → Option Fault
graph_fault at nodes = nodes_fault at (count_fault at nodes) nodes

-- of the parameters of a stored process
abbrev pub parameters_fault : Data → Option Fault
parameters_fault d =
    if is_absent_or are_parameters (codes "parameters") d then None else fault_at ParametersInvalid []
