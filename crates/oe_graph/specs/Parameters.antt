-- The parameters of a stored process (openEO API, process metadata): the form of the member `parameters`, and what it
-- says.
use Rattle.std.specs.Prelude.{◌≡◌, ℕ, ◌&&◌, Bool, true, false, not, List, [], ◌∷◌, map, Option, Some, None, is_some, codes, unwrap_or, option_map, option_and_then, if◌then◌else◌}
use Rattle.std.specs.List.{list_any}
use Rattle.serde_json.specs.Data.{Data, null, boolean, number, string, array, object, Items, no_items, item}
use Rattle.serde_json.specs.Find.{get, as_bool, as_str}
use Rattle.oe_dims.specs.Names.{same_name}
use Rattle.oe_graph.specs.Form.{is_absent_or, is_flag, IsReading, Stands}
use Rattle.oe_graph.specs.Built.{value_of}
use Rattle.oe_graph.specs.Tree.{PlainParameter}
use Rattle.oe_graph.specs.declared.code.Code.{Code}
use Rattle.oe_graph.specs.declared.code.Code.TheVariants.{ParametersInvalid}

-- an object with a text `name` whose `optional` is absent or a flag
abbrev pub is_parameter : Data → Bool
is_parameter d = is_some (option_and_then as_str (get (codes "name") d)) && is_absent_or is_flag (codes "optional") d

abbrev pub are_all_parameters : Items → Bool
are_all_parameters no_items = true
are_all_parameters (item d ds) = is_parameter d && are_all_parameters ds

abbrev pub parameter_name : Data → List ℕ
parameter_name d = unwrap_or (option_and_then as_str (get (codes "name") d)) []

abbrev pub parameter_names : Items → List (List ℕ)
parameter_names no_items = []
parameter_names (item d ds) = parameter_name d ∷ parameter_names ds

-- no two names are equal
abbrev pub are_distinct : List (List ℕ) → Bool
are_distinct [] = true
are_distinct (name ∷ names) = not (list_any (same_name name) names) && are_distinct names

-- null, or a list of parameters with distinct names
abbrev pub are_parameters : Data → Bool
are_parameters null = true
are_parameters (boolean b) = false
are_parameters (number n) = false
are_parameters (string s) = false
are_parameters (array ds) = are_all_parameters ds && are_distinct (parameter_names ds)
are_parameters (object ms) = false

-- a parameter, whose default is read as a plain value
abbrev pub parameter_of : Data → PlainParameter
parameter_of d = record {
  name = parameter_name d;
  optional = unwrap_or (option_and_then as_bool (get (codes "optional") d)) false;
  default = option_map (value_of true) (get (codes "default") d);
}

abbrev pub each_parameter : Items → List PlainParameter
each_parameter no_items = []
each_parameter (item d ds) = parameter_of d ∷ each_parameter ds

abbrev pub listed_parameters : Data → List PlainParameter
listed_parameters null = []
listed_parameters (boolean b) = []
listed_parameters (number n) = []
listed_parameters (string s) = []
listed_parameters (array ds) = each_parameter ds
listed_parameters (object ms) = []

-- the parameters of a value that was sent as a process
abbrev pub parameters_of : Data → List PlainParameter
parameters_of d = unwrap_or (option_map listed_parameters (get (codes "parameters") d)) []

-- in bytes that were sent as a stored process: a fault of the graph, or the member `parameters` is there and not in
-- form
pub data StandsStored (bytes : List ℕ) : Code → List ℕ → Type 0 where
  of_graph : {code : Code} {name : List ℕ} → Stands bytes code name → StandsStored bytes code name
  parameters_invalid : {d : Data} → IsReading bytes d → is_absent_or are_parameters (codes "parameters") d ≡ false
      → StandsStored bytes ParametersInvalid []
