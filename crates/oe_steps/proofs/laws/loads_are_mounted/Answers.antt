use Rattle.oe_steps.proofs.MountLemmas.{are_mounted}
use Rattle.oe_steps.proofs.laws.loads_are_mounted.Goals as goal

pub returns : goal.returns
returns c = are_mounted
