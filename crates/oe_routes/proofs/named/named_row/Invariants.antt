use Rattle.std.proofs.Common.{◌≡◌, drop}
use Rattle.std.specs.Prelude.{find}
use Rattle.oe_routes.specs.Answers.{has_row_id}
use Rattle.oe_routes.proofs.named.named_row.Given as goal

abbrev pub invariant-loop-row : goal.invariant-loop-row
invariant-loop-row l = find (has_row_id l.id) l.rows ≡ find (has_row_id l.id) (drop l.row-index l.rows)
