-- What ties the tables to one another: the processes of the catalogue to what code does for each, and the rows of faults
-- to their numbers.
use Rattle.std.specs.Prelude.{◌≡◌, ℕ, zero, suc, Bool, ◌&&◌, not, List, [], ◌∷◌, map, filter, Option, Some, None, codes}
use Rattle.oe_cell.specs.declared.cell.Cell.{Cell}
use Rattle.oe_dims.specs.Names.{same_name}
use Rattle.oe_dims.specs.declared.dims.DimsRow.{DimsRow}
use Rattle.oe_dims.specs.declared.kind.CellKind.{CellKind}
use Rattle.oe_dims.specs.declared.kind.CellKind.TheVariants.{Numbers, Flags}
use Rattle.oe_graph.specs.Catalogue.{Parameter, Process, catalogue}
use Rattle.oe_graph.specs.Codes.{phase_of, number_in_phase}
use Rattle.oe_graph.specs.declared.table.ArgumentKind.{ArgumentKind}
use Rattle.oe_graph.specs.declared.table.ArgumentKind.TheVariants as kind
use Rattle.oe_expr.specs.Operations.{NamedOperation, operations, unary_takes, binary_takes, reducer_takes}
use Rattle.oe_expr.specs.Requests.{CellRequest}
use Rattle.oe_expr.specs.Rows.{JudgedRow, request_rows}
use Rattle.oe_expr.specs.Scope.{PlainScope}
use Rattle.oe_expr.specs.declared.operation.Operation.{Operation}
use Rattle.oe_expr.specs.declared.operation.Operation.TheVariants.{OfOne, OfTwo, Choice, Reduction, Counting, Element}
use Rattle.oe_requests.specs.Operations.{Outline}
use Rattle.oe_requests.specs.Requests.{NamedProcess, CubeRequest, cube_processes}
use Rattle.oe_meanings.specs.Stands.{early_rows}

-- ---- processes

-- a parameter that takes cells, by its name and the kind of these; none where they may be of either kind, but of one
abbrev pub CellParameter : Type 0
CellParameter = List ℕ × Option CellKind

-- those of an operation of callbacks, as it takes them
abbrev pub cells_taken : Operation → List CellParameter
cells_taken (OfOne f) = (codes "x", unary_takes f) ∷ []
cells_taken (OfTwo f) = (codes "x", binary_takes f) ∷ (codes "y", binary_takes f) ∷ []
cells_taken Choice = (codes "value", Some Flags) ∷ (codes "accept", None) ∷ (codes "reject", None) ∷ []
cells_taken (Reduction reducer) = (codes "data", reducer_takes reducer) ∷ []
cells_taken Counting = (codes "data", None) ∷ []
cells_taken Element = (codes "data", None) ∷ []

-- what a kind of parameter says of cells; none where it takes no cells
abbrev pub cells_held : ArgumentKind → Option (Option CellKind)
cells_held kind.Number = Some (Some Numbers)
cells_held kind.Flag = Some (Some Flags)
cells_held kind.Cell = Some None
cells_held kind.Numbers = Some (Some Numbers)
cells_held kind.Flags = Some (Some Flags)
cells_held kind.Cells = Some None
cells_held _ = None

-- behind others, the one of a parameter, where it takes cells
abbrev pub with_cells : List ℕ → Option (Option CellKind) → List CellParameter → List CellParameter
with_cells name None others = others
with_cells name (Some taken) others = (name, taken) ∷ others

-- those of a row of the catalogue, as its column has them
abbrev pub cell_parameters : List Parameter → List CellParameter
cell_parameters [] = []
cell_parameters (p ∷ others) = with_cells p.name (cells_held p.holds) (cell_parameters others)

-- a process with these parameters, by its row and by what code does for it
abbrev pub CellProcess : Type 0
CellProcess = List ℕ × List CellParameter

abbrev pub process_in_row : Process → CellProcess
process_in_row p = (p.id, cell_parameters p.parameters)

abbrev pub process_in_code : NamedOperation → CellProcess
process_in_code o = (o.0, cells_taken o.1)

-- ---- faults

-- the phase and the number of the code of a row
abbrev pub RowNumber : Type 0
RowNumber = ℕ × ℕ

abbrev pub number_of_row : JudgedRow → RowNumber
number_of_row row = (phase_of row.0, number_in_phase row.0)

abbrev pub numbers_of_rows : List JudgedRow → List RowNumber
numbers_of_rows rows = map number_of_row rows

-- so many numbers of phase 5, from one on
abbrev pub numbers_from : ℕ → ℕ → List RowNumber
numbers_from first zero = []
numbers_from first (suc more) = (5, first) ∷ numbers_from (suc first) more

-- the process that stands in callbacks of `apply_dimension` alone
abbrev pub is_running_sum : Process → Bool
is_running_sum p = same_name p.id (codes "cumsum")

-- ---- all of them

-- The processes of the main graph, and those of callbacks with the cells that they take, are those of the catalogue,
-- which has `cumsum` besides; and the rows of faults at one node stand by their numbers with none left out: of the main
-- graph from 2 to 14, and in a callback from 15 to 18.
pub record AreTied : Type 0 where
  pub processes_of_graphs :
      map (λ (p : Process). p.id) (filter (λ (p : Process). not p.in_callback) catalogue)
      ≡ map (λ (p : NamedProcess). p.0) cube_processes
  pub processes_of_callbacks :
      map process_in_row (filter (λ (p : Process). p.in_callback && not (is_running_sum p)) catalogue)
      ≡ map process_in_code operations
  pub running_sums : map (λ (p : Process). p.id) (filter is_running_sum catalogue) ≡ codes "cumsum" ∷ []
  pub rows_of_graphs : (rows : List DimsRow) (r : CubeRequest) (cubes : List Outline)
      → numbers_of_rows (early_rows rows r cubes) ≡ numbers_from 2 13
  pub rows_of_callbacks : (scope : PlainScope) (context : Cell) (at : List ℕ → Option CellKind) (r : CellRequest)
      → numbers_of_rows (request_rows scope context at r) ≡ numbers_from 15 4
