-- A callback with all that it depends on: what contracts see of one that was checked.
use Rattle.std.specs.Prelude.{ℕ, List, slice_index_or, unwrap_or}
use Rattle.oe_cell.specs.declared.cell.Cell.{Cell}
use Rattle.oe_dims.specs.declared.kind.CellKind.{CellKind}
use Rattle.oe_dims.specs.declared.kind.CellKind.TheVariants.{Numbers}
use Rattle.oe_graph.specs.Tree.{PlainGraph}
use Rattle.oe_cube.specs.Kinds.{IsOfKind}
use Rattle.oe_expr.specs.NodeKinds.{graph_kind}
use Rattle.oe_expr.specs.Scope.{PlainScope, Environment, IsEnvironmentOf, IsListNumber, no_labels, list_labels}
use Rattle.oe_expr.specs.Stands.{StandsOnPath}
use Rattle.oe_expr.specs.Value.{graph_value}
use Rattle.oe_graph.specs.declared.code.Code.{Code}

pub record Callback : Type 0 where
  pub graph : PlainGraph
  pub scope : PlainScope
  pub context : Cell

abbrev pub callback_of : PlainGraph → PlainScope → Cell → Callback
callback_of graph scope context = record { graph = graph; scope = scope; context = context }

-- the environment of the cells `x` and `y`, or of a list of the scope by its number
abbrev pub environment : Callback → Cell → Cell → List Cell → ℕ → Environment
environment c x y cells list = record {
  x = x;
  y = y;
  context = c.context;
  cells = cells;
  labels = slice_index_or (list_labels c.scope) list no_labels;
}

-- the environment is one that the scope of the callback gives
pub record IsEnvironment (c : Callback) (x y : Cell) (cells : List Cell) (list : ℕ) : Type 0 where
  pub list_is : IsListNumber c.scope list
  pub cells_fit : IsEnvironmentOf c.scope (environment c x y cells list)

-- the value in an environment
abbrev pub callback_value : Callback → Environment → Cell
callback_value c e = graph_value c.graph e

-- the kind of the value; one that stays open gives numbers
abbrev pub callback_kind : Callback → CellKind
callback_kind c = unwrap_or (graph_kind c.scope c.context c.graph) Numbers

-- Each value is null, Over or of the kind: no cell of another kind is ever met.
abbrev pub KeepsKind : Callback → Type 0
KeepsKind c =
    (x y : Cell) (cells : List Cell) (list : ℕ) → IsEnvironment c x y cells list
    → IsOfKind (callback_kind c) (callback_value c (environment c x y cells list))

-- a fault stands in the callback at a name, where the callback itself has the name `path`
abbrev pub StandsInCallbackAt : Callback → List ℕ → Code → List ℕ → Type 0
StandsInCallbackAt c path code name = StandsOnPath c.scope c.context c.graph.nodes path code name

-- no fault stands in the callback
abbrev pub IsFaultlessCallback : Callback → Type 0
IsFaultlessCallback c = (path : List ℕ) (code : Code) (name : List ℕ) → ¬ StandsInCallbackAt c path code name
