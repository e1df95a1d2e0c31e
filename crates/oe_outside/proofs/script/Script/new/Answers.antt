use Rattle.std.proofs.Common.{ap}
use Rattle.oe_outside.proofs.Scripts.{from_list-permutation}
use Rattle.oe_outside.proofs.script.Script.new.Goals as goal

pub returns : goal.returns
returns c =
    ap (λ numbers. record { failing = numbers; calls = 0 }) (from_list-permutation _ _ c.in_ok-sort.ensures.permutation)
