use Rattle.oe_engine.proofs.LawLemmas.{are_mounted}
use Rattle.oe_engine.proofs.laws.collections_are_mounted.Goals as goal

pub returns : goal.returns
returns c = are_mounted
