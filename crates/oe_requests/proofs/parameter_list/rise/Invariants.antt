use Rattle.std.proofs.Common.{◌≡◌, ◌-◌, drop, map}
use Rattle.oe_dims.specs.Names.{names_rise}
use Rattle.oe_requests.proofs.parameter_list.rise.Given as goal

abbrev pub invariant-loop-index : goal.invariant-loop-index
invariant-loop-index l =
    names_rise (map (λ n. n.now) l.names) ≡ names_rise (map (λ n. n.now) (drop (l.index - 1) l.names))
