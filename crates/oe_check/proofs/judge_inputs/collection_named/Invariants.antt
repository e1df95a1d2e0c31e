use Rattle.std.proofs.Common.{◌≡◌, drop}
use Rattle.std.specs.Prelude.{find}
use Rattle.oe_dims.specs.Names.{same_name}
use Rattle.oe_dims.specs.declared.dims.DimsRow.{DimsRow}
use Rattle.oe_check.proofs.judge_inputs.collection_named.Given as goal

abbrev pub invariant-loop-row : goal.invariant-loop-row
invariant-loop-row l =
    find (λ (row : DimsRow). same_name row.id l.id) l.dims.rows.items
    ≡ find (λ (row : DimsRow). same_name row.id l.id) (drop l.row-index l.dims.rows.items)
