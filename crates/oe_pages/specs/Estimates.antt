-- What the assets of a job need, before it runs (which members there are is this profile's own).
use Rattle.std.specs.Prelude.{List, map, codes, decimal}
use Rattle.serde_json.specs.Data.{Data, unsigned, number, string, array, object, no_members, member}
use Rattle.serde_json.specs.View.{items_of}
use Rattle.oe_pages.specs.declared.estimate.EstimateRow.{EstimateRow}

-- an asset: its bound in cells, which may be past 64 bits and so is a text, its number of chunks and its name
abbrev pub row_data : EstimateRow → Data
row_data row = object (
    member (codes "bound") (string (decimal row.bound)) (
    member (codes "chunks") (number (unsigned row.chunks)) (
    member (codes "name") (string row.name) no_members)))

-- the assets of a job, in their order
abbrev pub estimate_data : List EstimateRow → Data
estimate_data rows = object (member (codes "assets") (array (items_of (map row_data rows))) no_members)
