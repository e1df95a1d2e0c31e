use Rattle.std.proofs.Common.{◌≡◌, ◌-◌, drop}
use Rattle.oe_dims.specs.Names.{names_rise, names_at}
use Rattle.oe_dims.proofs.distinct.names_rise.Given as goal

abbrev pub invariant-loop-k : goal.invariant-loop-k
invariant-loop-k l =
    names_rise (names_at l.names l.indices) ≡ names_rise (names_at l.names (drop (l.k - 1) l.indices))
