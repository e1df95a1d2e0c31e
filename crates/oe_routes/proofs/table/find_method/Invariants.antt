use Rattle.std.proofs.Common.{◌≡◌, map, drop}
use Rattle.std.specs.Prelude.{find}
use Rattle.oe_routes.specs.Table.{has_name, method_of}
use Rattle.oe_routes.proofs.table.find_method.Given as goal

abbrev pub invariant-loop-entry : goal.invariant-loop-entry
invariant-loop-entry l =
    find (has_name l.method) (map method_of l.methods) ≡ find (has_name l.method) (map method_of (drop l.entry-index l.methods))
