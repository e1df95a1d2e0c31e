use Rattle.std.proofs.Common.{◌≡◌, drop}
use Rattle.oe_calls.specs.PlainValues.{plain_sizes}
use Rattle.oe_calls.specs.Sizes.{size_for}
use Rattle.oe_calls.proofs.sizes.size_for.Given as goal

abbrev pub invariant-loop-parameter : goal.invariant-loop-parameter
invariant-loop-parameter l =
    size_for l.sizes.measure (plain_sizes l.parameter-items) l.name
    ≡ size_for l.sizes.measure (plain_sizes (drop l.parameter-index l.parameter-items)) l.name
