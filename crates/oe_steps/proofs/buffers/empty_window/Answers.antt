use Rattle.std.proofs.Common.{arith}
use Rattle.oe_steps.proofs.buffers.empty_window.Goals as goal

pub returns : goal.returns
returns c = λ p is. let begun = is.t.begun in let before = is.t.before in omega (arith, begun, before)
