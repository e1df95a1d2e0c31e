-- What reading gives: the graph of the bytes where no fault stands, and the least fault where one does.
use Rattle.std.specs.Prelude.{◌≡◌, ℕ, List, [], false, ⊤, Option, Some, None, Result, Ok, Err, codes}
use Rattle.serde_json.specs.Data.{Data, Members}
use Rattle.oe_graph.specs.Form.{nodes_in, IsReading, Stands, StandsIn}
use Rattle.oe_graph.specs.Built.{graph_of}
use Rattle.oe_graph.specs.Parameters.{parameters_of, StandsStored}
use Rattle.oe_graph.specs.Faults.{IsLeast, is_before}
use Rattle.oe_graph.specs.Tree.{PlainGraph, PlainStored}
use Rattle.oe_graph.specs.declared.code.Code.{Code}
use Rattle.oe_graph.specs.declared.code.Code.TheVariants.{ParametersInvalid}
use Rattle.oe_graph.specs.declared.fault.Fault.{Fault}
use Rattle.oe_graph.specs.declared.fault.Refusal.{Refusal}
use Rattle.oe_graph.specs.declared.fault.Refusal.TheVariants as refusal

-- no fault stands
abbrev pub IsFaultless : (Code → List ℕ → Type 0) → Type 0
IsFaultless Stands = (code : Code) (node : List ℕ) → ¬ Stands code node

-- the value is an object whose member `process_graph` is an object, and this is the graph of its nodes, whether faults
-- of their form stand or not
pub record IsGraphOf (input : Data) (graph : PlainGraph) : Type 0 where
  pub nodes : Members
  pub is_main : nodes_in input ≡ Some nodes
  pub built : graph ≡ graph_of nodes

-- the bytes are the text of a graph without a fault of its form, and this is it
pub record Reads (bytes : List ℕ) (graph : PlainGraph) : Type 0 where
  pub value : Data
  pub is_read : IsReading bytes value
  pub is_graph : IsGraphOf value graph
  pub valid : IsFaultless (Stands bytes)

-- the bytes are the text of a process without a fault of its form, and this is it under an id
pub record ReadsStored (id bytes : List ℕ) (process : PlainStored) : Type 0 where
  pub value : Data
  pub is_read : IsReading bytes value
  pub is_graph : IsGraphOf value process.graph
  pub parameters : process.parameters ≡ parameters_of value
  pub named : process.id ≡ id
  pub text : process.text ≡ bytes
  pub valid : IsFaultless (StandsStored bytes)

-- a fault that is refused is the least of those that stand; out of memory has no cause
abbrev pub IsFault : (Code → List ℕ → Type 0) → Refusal → Type 0
IsFault Stands (refusal.Fault fault) = IsLeast Stands fault
IsFault Stands refusal.OutOfMemory = ⊤

-- a fault that is reported rather than one of the parameters
abbrev pub PrecedesParameters : Refusal → Type 0
PrecedesParameters (refusal.Fault fault) = is_before (record { code = ParametersInvalid; node = [] }) fault ≡ false
PrecedesParameters refusal.OutOfMemory = ⊤
