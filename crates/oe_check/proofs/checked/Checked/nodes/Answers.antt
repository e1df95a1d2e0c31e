use Rattle.std.proofs.Common.{subst, arith}
use Rattle.oe_check.specs.Checked.{AreFaultless}
use Rattle.oe_check.proofs.KeptLemmas.{states_few, faultless}
use Rattle.oe_check.proofs.checked.Checked.nodes.Goals as goal

pub overflow_cast-result : goal.overflow_cast-result
overflow_cast-result c =
    let inside = c.self.inside in
    let few = states_few _ inside.ids.items inside.states.items inside.links.items c.self.invariant in
    let count = c.len.ensures in
    omega arith

pub returns-clause-faultless : goal.returns-clause-faultless
returns-clause-faultless c =
    let inside = c.self.inside in
    subst AreFaultless c.self.view_is (faultless _ inside.ids.items inside.states.items inside.links.items c.self.invariant)
