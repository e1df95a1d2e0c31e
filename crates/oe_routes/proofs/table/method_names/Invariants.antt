use Rattle.std.proofs.Common.{◌≡◌, map, take}
use Rattle.oe_routes.specs.Table.{Method, method_of}
use Rattle.oe_routes.proofs.table.method_names.Given as goal

abbrev pub invariant-loop-entry : goal.invariant-loop-entry
invariant-loop-entry l =
    l.names.items ≡ map (λ (m : Method). m.name) (map method_of (take l.entry-index l.methods))
