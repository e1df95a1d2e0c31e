use Rattle.std.proofs.Common.{◌≡◌, ◌+◌, ◌==◌, drop}
use Rattle.std.specs.List.{position_or_len}
use Rattle.oe_dims.proofs.bytes.index_of_byte.Given as goal

abbrev pub invariant-loop-index : goal.invariant-loop-index
invariant-loop-index l =
    position_or_len (λ b. b == l.byte) l.bytes ≡ l.index + position_or_len (λ b. b == l.byte) (drop l.index l.bytes)
