use Rattle.std.proofs.Common.{ap, sym}
use Rattle.oe_sources.specs.Source.{Source}
use Rattle.oe_sources.proofs.generated_cube.GeneratedCube.never_failed.Goals as goal

pub returns : goal.returns
returns c = sym (ap (λ (s : Source). s.faults) c.self.view_is)
