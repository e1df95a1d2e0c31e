use Rattle.std.proofs.Common.{◌≡◌, map, take}
use Rattle.serde_json.specs.Data.{object}
use Rattle.serde_json.specs.View.{view}
use Rattle.oe_replies.specs.Collections.{collection_members}
use Rattle.oe_replies.proofs.collection.row_values.Given as goal

abbrev pub invariant-loop-row : goal.invariant-loop-row
invariant-loop-row l =
    map view l.values.items ≡ map (λ row. object (collection_members row)) (take l.row-index l.rows)
