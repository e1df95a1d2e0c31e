-- What is found in bodies and graphs: the JSON values of bytes, and the least of the faults that stand in graphs.
use Rattle.std.specs.Prelude.{◌≡◌, ℕ, Bool, true, List, codes, Option, Some, None}
use Rattle.serde_json.specs.Data.{Data}
use Rattle.serde_json.specs.Find.{get}
use Rattle.oe_dims.specs.declared.dims.DimsRow.{DimsRow}
use Rattle.oe_graph.specs.Faults.{IsLeast}
use Rattle.oe_graph.specs.Form.{IsReading, Stands, StandsIn}
use Rattle.oe_graph.specs.Parameters.{StandsStored}
use Rattle.oe_graph.specs.Read.{IsFaultless}
use Rattle.oe_graph.specs.Tree.{PlainGraph, PlainStored}
use Rattle.oe_graph.specs.Valid.{AreValidStored, IsValidGraph}
use Rattle.oe_graph.specs.declared.code.Code.{Code}
use Rattle.oe_graph.specs.declared.fault.Fault.{Fault}
use Rattle.oe_jobs.specs.Texts.{Finds}
use Rattle.oe_judge.specs.Judged.{StandsWithCollections}

-- the bytes are the text of this JSON value, or of none
abbrev pub IsJson : List ℕ → Option Data → Type 0
IsJson bytes json = Finds (IsReading bytes) json

-- the least of the faults that stand, or none where none stands
abbrev pub IsLeastOf : (Code → List ℕ → Type 0) → Option Fault → Type 0
IsLeastOf Stands None = IsFaultless Stands
IsLeastOf Stands (Some fault) = IsLeast Stands fault

pub record Found : Type 0 where
  -- the JSON value that bytes are, where they are one
  pub json : List ℕ → Option Data
  -- the least fault of the form of a value as a graph, of bytes as a graph, and of bytes as a process to be stored
  pub in_value : Data → Option Fault
  pub in_bytes : List ℕ → Option Fault
  pub in_stored : List ℕ → Option Fault
  -- the least of the other faults of a graph that may call these stored processes
  pub judged : List PlainStored → PlainGraph → Option Fault

-- what is found in bodies
pub record IsRead (f : Found) : Type 0 where
  pub json : (bytes : List ℕ) → IsJson bytes (f.json bytes)
  pub in_value : (d : Data) → IsLeastOf (StandsIn d) (f.in_value d)
  pub in_bytes : (bytes : List ℕ) → IsLeastOf (Stands bytes) (f.in_bytes bytes)
  pub in_stored : (bytes : List ℕ) → IsLeastOf (StandsStored bytes) (f.in_stored bytes)

-- what is judged over collections of these rows
pub record IsJudged (rows : List DimsRow) (f : Found) : Type 0 where
  pub judged : (stored : List PlainStored) (g : PlainGraph) → AreValidStored stored → IsValidGraph g
      → IsLeastOf (StandsWithCollections rows stored g) (f.judged stored g)

-- what is found for a request over collections of these rows: nothing is judged where it does not ask for the rows
pub record IsFoundFor (rows : List DimsRow) (asks : Bool) (f : Found) : Type 0 where
  pub read : IsRead f
  pub judged : asks ≡ true → IsJudged rows f

-- the same of a request that asks for the rows
abbrev pub IsFound : List DimsRow → Found → Type 0
IsFound rows f = IsFoundFor rows true f

-- ---- the member `process` of a body

abbrev pub process_in : Option Data → Option Data
process_in None = None
process_in (Some sent) = get (codes "process") sent

-- this is the least fault of the form of a value that is there, and none where it is not
abbrev pub IsFaultWhere : Option Data → Option Fault → Type 0
IsFaultWhere None fault = fault ≡ None
IsFaultWhere (Some d) fault = IsLeastOf (StandsIn d) fault

-- the least fault of a value that is there
abbrev pub fault_where : (Data → Option Fault) → Option Data → Option Fault
fault_where least None = None
fault_where least (Some d) = least d

abbrev pub process_fault : Found → Option Data → Option Fault
process_fault f json = fault_where f.in_value (process_in json)
