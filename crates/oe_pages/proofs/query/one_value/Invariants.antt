use Rattle.std.proofs.Common.{◌≡◌, ◌++◌, map, drop}
use Rattle.std.specs.Option.{option_map}
use Rattle.oe_pages.specs.Queries.{found_before, one_value, values_of}
use Rattle.oe_pages.proofs.query.one_value.Given as goal

abbrev pub invariant-loop-part : goal.invariant-loop-part
invariant-loop-part l =
    one_value (values_of l.name (map (λ p. p.now) l.parts))
    ≡ one_value (found_before (option_map (λ t. t.now) l.found) ++ values_of l.name (map (λ p. p.now) (drop l.part-index l.parts)))
