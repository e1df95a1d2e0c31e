-- The faults of a node that those of its callback wait for, by the shapes of the cubes alone.
use Rattle.std.specs.Prelude.{◌≡◌, false, List, Option}
use Rattle.oe_dims.specs.Dimensions.{Dimensions}
use Rattle.oe_dims.specs.declared.dims.DimsRow.{DimsRow}
use Rattle.oe_dims.specs.declared.kind.CellKind.{CellKind}
use Rattle.oe_expr.specs.Rows.{first_row}
use Rattle.oe_graph.specs.declared.code.Code.{Code}
use Rattle.oe_requests.specs.Requests.{CubeRequest}
use Rattle.oe_meanings.specs.Results.{cubes_among}
use Rattle.oe_meanings.specs.Rows.{collection_not_found}
use Rattle.oe_meanings.specs.Stands.{early_rows}

-- the first of these rows that holds of a request on cubes of these shapes, whatever the kinds of their cells, where
-- the collection of a load is found
abbrev pub IsEarlyFault : CubeRequest → Dimensions → Dimensions → Option Code → Type 0
IsEarlyFault r one two code =
    (rows : List DimsRow) (kind other_kind : CellKind) → collection_not_found rows r ≡ false
    → code ≡ first_row (early_rows rows r
    (cubes_among r (record { shape = one; kind = kind }) (record { shape = two; kind = other_kind })))
