use Rattle.std.proofs.Common.{◌≡◌, ◌++◌, drop, map}
use Rattle.std.specs.List.{flat_map}
use Rattle.oe_requests.proofs.parameter_list.values_of.Given as goal

abbrev pub invariant-loop-row : goal.invariant-loop-row
invariant-loop-row l =
    l.values.items ++ flat_map (λ values. values) (map (λ row. row.items) (drop l.row-index l.rows))
    ≡ flat_map (λ values. values) (map (λ row. row.items) l.rows)
