use Rattle.std.proofs.Common.{subst}
use Rattle.oe_check.specs.Checked.{AreFaultless}
use Rattle.oe_check.proofs.KeptLemmas.{faultless}
use Rattle.oe_check.proofs.checked.Checked.result.Goals as goal

pub returns-clause-faultless : goal.returns-clause-faultless
returns-clause-faultless c =
    let inside = c.self.inside in
    subst AreFaultless c.self.view_is (faultless _ inside.ids.items inside.states.items inside.links.items c.self.invariant)
