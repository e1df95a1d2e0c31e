use Rattle.std.proofs.Common.{◌≡◌, ◌++◌, drop, map}
use Rattle.oe_meanings.proofs.operation_request.copy_bands.Given as goal

abbrev pub invariant-loop-band : goal.invariant-loop-band
invariant-loop-band l =
    l.names.items ++ map (λ n. n.now) (drop l.band-index l.band-items) ≡ map (λ n. n.now) l.band-items
