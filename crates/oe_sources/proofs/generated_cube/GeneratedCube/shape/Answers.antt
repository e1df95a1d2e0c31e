use Rattle.std.proofs.Common.{IfSome, subst}
use Rattle.oe_cube.specs.Collections.{IsCollection}
use Rattle.oe_sources.specs.Source.{Source, collection_with}
use Rattle.oe_sources.proofs.GeneratedLemmas.{generated_collection, is_generated_shape}
use Rattle.oe_sources.proofs.generated_cube.GeneratedCube.shape.Goals as goal

pub returns-clause-sound : goal.returns-clause-sound
returns-clause-sound c =
    subst (λ (s : Source). IfSome s.contents (λ k. IsCollection (collection_with s.shape s.kind k))) c.self.view_is
    (generated_collection c.self.inside.seed c.self.inside.side (is_generated_shape c.self.inside.side c.self.invariant.1))
