use Rattle.std.proofs.Common.{sym, ◌∙◌, ◌-◌, arith}
use Rattle.oe_requests.proofs.NameLemmas.{rise_end}
use Rattle.oe_requests.proofs.parameter_list.rise.Goals as goal

pub returns : goal.returns
returns c = sym (c.loop-index.invariant ∙ rise_end c.args.names.now (c.loop-index.index - 1) (omega arith))
