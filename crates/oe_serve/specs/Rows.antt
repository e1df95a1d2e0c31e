-- The rows of the mounted collections that a request is answered over.
use Rattle.std.specs.Prelude.{List, [], if◌then◌else◌}
use Rattle.oe_dims.specs.declared.dims.DimsRow.{DimsRow}
use Rattle.oe_http.specs.Plain.{PlainRequest}
use Rattle.oe_routes.specs.Asks.{asks_for_rows}

-- these where it asks for them, and none else
abbrev pub rows_asked : PlainRequest → List DimsRow → List DimsRow
rows_asked r rows = if asks_for_rows r then rows else []
