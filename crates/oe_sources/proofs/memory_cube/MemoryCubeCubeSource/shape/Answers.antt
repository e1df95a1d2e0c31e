use Rattle.std.proofs.Common.{IfSome, subst}
use Rattle.oe_cube.specs.Collections.{IsCollection}
use Rattle.oe_sources.specs.Source.{Source, collection_with}
use Rattle.oe_sources.proofs.memory_cube.MemoryCubeCubeSource.shape.Goals as goal

pub returns-clause-sound : goal.returns-clause-sound
returns-clause-sound c =
    subst (λ (s : Source). IfSome s.contents (λ k. IsCollection (collection_with s.shape s.kind k))) c.self.view_is c.self.invariant
