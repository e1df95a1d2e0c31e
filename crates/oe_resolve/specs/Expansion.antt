-- For private functions. What expanding gives: the graph after all rounds, within its limits, and the least fault of
-- names.
use Rattle.std.specs.Prelude.{◌≡◌, ◌<◌, ◌≤◌, ◌+◌, ℕ, false, List, [], Option}
use Rattle.oe_graph.specs.Faults.{IsLeastFault}
use Rattle.oe_graph.specs.Codes.{phase_of}
use Rattle.oe_graph.specs.Tree.{PlainGraph, PlainStored}
use Rattle.oe_graph.specs.Plain.{plain_graph}
use Rattle.oe_graph.specs.declared.fault.Fault.{Fault}
use Rattle.oe_graph.specs.declared.tree.Graph.{Graph}
use Rattle.oe_calls.specs.HasCall.{nodes_call}
use Rattle.oe_calls.specs.Faults.{StandsWithStored}
use Rattle.oe_resolve.specs.NameFaults.{OfObject}
use Rattle.oe_calls.specs.Rounds.{expanded_by, expanded, most_rounds}
use Rattle.oe_calls.specs.Sizes.{IsWithinLimits}

-- a fault of names that stands
abbrev pub IsNameFault : List PlainStored → PlainGraph → Fault → Type 0
IsNameFault stored g f = (phase_of f.code ≡ 4) × StandsWithStored stored g f.code f.node

pub record IsExpansion (stored : List PlainStored) (g : PlainGraph) (result : Graph × Option Fault) : Type 0 where
  pub graph : plain_graph result.0 ≡ expanded stored g
  pub fault : IsLeastFault (IsNameFault stored g) result.1
  pub none_left : nodes_call stored (expanded stored g).nodes ≡ false
  pub within : IsWithinLimits (expanded stored g)

-- a fault in the graph before one of so many rounds
pub record IsEarly (stored : List PlainStored) (g : PlainGraph) (times : ℕ) (f : Fault) : Type 0 where
  pub round : ℕ
  pub below : round < times
  pub has : OfObject stored false f [] [] (expanded_by round stored g).nodes

-- after so many rounds no round more changes the graph, and this is the least fault before the last of them
pub record IsSettled (stored : List PlainStored) (g after : PlainGraph) (fault : Option Fault) : Type 0 where
  pub times : ℕ
  pub is : after ≡ expanded_by times stored g
  pub settled : (more : ℕ) → expanded_by (times + more) stored g ≡ after
  pub few : times ≤ most_rounds
  pub early : IsLeastFault (IsEarly stored g times) fault
  pub none_left : nodes_call stored after.nodes ≡ false
  pub within : IsWithinLimits after
