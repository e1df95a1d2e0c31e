use Rattle.std.proofs.Common.{◌≡◌, drop}
use Rattle.std.specs.List.{list_any}
use Rattle.oe_dims.specs.Names.{same_name}
use Rattle.oe_calls.specs.PlainValues.{names_behind}
use Rattle.oe_calls.proofs.names.is_among.Given as goal

abbrev pub invariant-loop-one : goal.invariant-loop-one
invariant-loop-one l =
    list_any (same_name l.name) (names_behind l.names)
    ≡ list_any (same_name l.name) (names_behind (drop l.one-index l.names))
