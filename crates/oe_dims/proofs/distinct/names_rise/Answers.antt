use Rattle.std.proofs.Common.{sym, ◌∙◌, ◌-◌, arith}
use Rattle.oe_dims.proofs.DistinctLemmas.{names_rise_all}
use Rattle.oe_dims.proofs.distinct.names_rise.Goals as goal

pub returns : goal.returns
returns c =
    sym (c.loop-k.invariant ∙ names_rise_all c.args.names.now c.args.indices.now (c.loop-k.k - 1) (omega arith))
