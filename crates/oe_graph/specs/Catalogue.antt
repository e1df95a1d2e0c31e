-- The catalogue of processes, as the table of the code has it.
use Rattle.std.specs.Prelude.{ℕ, Bool, true, List, [], ◌∷◌, ◌++◌, map, Option, Some, None, codes, option_map, find, is_some}
use denote.Bor.{Bor}
use Rattle.serde_json.specs.Data.{Data, null, boolean, number, string, array, object, Items, no_items, item, Members, no_members, member}
use Rattle.serde_json.specs.Find.{of_integer}
use Rattle.oe_dims.specs.Names.{same_name}
use Rattle.oe_graph.specs.Tree as tree
use Rattle.oe_graph.specs.Tree.{Argument, PlainParameter, PlainProcess}
use Rattle.oe_graph.specs.declared.table.ArgumentKind.{ArgumentKind}
use Rattle.oe_graph.specs.declared.table.Literal.{Literal}
use Rattle.oe_graph.specs.declared.table.Literal.TheVariants as literal
use Rattle.oe_graph.specs.declared.table.TheConstants.{PROCESSES}

-- a parameter: what it may hold, and its default where it is optional
pub record Parameter : Type 0 where
  pub name : List ℕ
  pub holds : ArgumentKind
  pub default : Option Literal

-- a process: whether it stands in callbacks or in the main graph, its parameters, and those that its callbacks see
pub record Process : Type 0 where
  pub id : List ℕ
  pub in_callback : Bool
  pub parameters : List Parameter
  pub callback_parameters : List (List ℕ)

abbrev pub parameter_from : List ℕ → ArgumentKind → Option Literal → Parameter
parameter_from name holds default = record { name = name; holds = holds; default = default }

abbrev pub process_from : List ℕ → Bool → List Parameter → List (List ℕ) → Process
process_from id in_callback parameters callback_parameters = record {
  id = id;
  in_callback = in_callback;
  parameters = parameters;
  callback_parameters = callback_parameters;
}

-- an entry of the table behind a reference
abbrev pub ParameterEntry : Type 0
ParameterEntry = Bor (List ℕ) × ArgumentKind × Option Literal

abbrev pub ProcessEntry : Type 0
ProcessEntry = Bor (List ℕ) × Bool × Bor (List ParameterEntry) × Bor (List (Bor (List ℕ)))

abbrev pub parameter_of : ParameterEntry → Parameter
parameter_of entry = parameter_from entry.0.now entry.1 entry.2

abbrev pub process_of : ProcessEntry → Process
process_of entry = process_from entry.0.now entry.1 (map parameter_of entry.2.now)
    (map (λ (name : Bor (List ℕ)). name.now) entry.3.now)

-- all rows
abbrev pub catalogue : List Process
catalogue = map (λ row.
    process_from row.0.now row.1 (map (λ p. parameter_from p.0.now p.1 p.2) row.2.now)
    (map (λ name. name.now) row.3.now))
    PROCESSES

-- the first of these rows with an id, and the row of an id in the catalogue
abbrev pub first_named : List ℕ → List Process → Option Process
first_named id rows = find (λ (p : Process). same_name p.id id) rows

abbrev pub process_named : List ℕ → Option Process
process_named id = first_named id catalogue

-- ---- what a caller sees of a row

abbrev pub literal_value : Literal → Argument
literal_value literal.Null = tree.null
literal_value (literal.Flag b) = tree.flag b
literal_value (literal.Whole z) = tree.whole z
literal_value literal.EmptyList = tree.list tree.no_arguments
literal_value literal.EmptyObject = tree.object tree.no_named

abbrev pub plain_parameter : Parameter → PlainParameter
plain_parameter p = record { name = p.name; optional = is_some p.default; default = option_map literal_value p.default }

abbrev pub plain_row : Process → PlainProcess
plain_row p = record { id = p.id; parameters = map plain_parameter p.parameters; in_callback = p.in_callback }

-- ---- the catalogue as JSON (openEO API, processes), its members in byte order

abbrev pub literal_data : Literal → Data
literal_data literal.Null = null
literal_data (literal.Flag b) = boolean b
literal_data (literal.Whole z) = number (of_integer z)
literal_data literal.EmptyList = array no_items
literal_data literal.EmptyObject = object no_members

-- the members after an optional `default` that stands before them all
abbrev pub with_default : Option Literal → Members → Members
with_default None rest = rest
with_default (Some l) rest = member (codes "default") (literal_data l) rest

abbrev pub with_optional : Option Literal → Members → Members
with_optional None rest = rest
with_optional (Some l) rest = member (codes "optional") (boolean true) rest

abbrev pub parameter_data : Parameter → Data
parameter_data p = object (with_default p.default (
    member (codes "description") (string p.name) (
    member (codes "name") (string p.name) (
    with_optional p.default (
    member (codes "schema") (object no_members) no_members)))))

abbrev pub each_parameter_data : List Parameter → Items
each_parameter_data [] = no_items
each_parameter_data (p ∷ ps) = item (parameter_data p) (each_parameter_data ps)

abbrev pub returns_data : Data
returns_data = object (
    member (codes "description") (string (codes "result")) (
    member (codes "schema") (object no_members) no_members))

abbrev pub process_data : Process → Data
process_data p = object (
    member (codes "description") (string (codes "openEO process " ++ p.id)) (
    member (codes "id") (string p.id) (
    member (codes "parameters") (array (each_parameter_data p.parameters)) (
    member (codes "returns") returns_data no_members))))

abbrev pub each_process_data : List Process → Items
each_process_data [] = no_items
each_process_data (p ∷ ps) = item (process_data p) (each_process_data ps)

-- the reply to a request for the processes
abbrev pub reply_data : Items → Data
reply_data processes = object (
    member (codes "links") (array no_items) (
    member (codes "processes") (array processes) no_members))

abbrev pub processes_data : Data
processes_data = reply_data (each_process_data catalogue)
