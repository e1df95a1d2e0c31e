use Rattle.std.proofs.Common.{◌≡◌, drop}
use Rattle.oe_dims.specs.Instant.{follows_pattern}
use Rattle.oe_dims.proofs.instant.follows_pattern.Given as goal

abbrev pub invariant-loop-index : goal.invariant-loop-index
invariant-loop-index l =
    follows_pattern l.pattern l.text ≡ follows_pattern (drop l.index l.pattern) (drop l.index l.text)
