use Rattle.std.proofs.Common.{ap}
use Rattle.oe_sources.specs.Source.{Source}
use Rattle.oe_sources.proofs.generated_cube.GeneratedCube.kind.Goals as goal

pub returns : goal.returns
returns c = ap (λ (s : Source). s.kind) c.self.view_is
