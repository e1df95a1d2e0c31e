use Rattle.std.proofs.Common.{IfSome, subst}
use Rattle.oe_cube.specs.Collections.{IsCollection}
use Rattle.oe_sources.specs.FileState.{FileState}
use Rattle.oe_sources.specs.Source.{collection_with}
use Rattle.oe_sources.proofs.ContentLemmas.{content_collection}
use Rattle.oe_sources.proofs.file_source.FileSourceCubeSource.shape.Goals as goal

pub returns-clause-sound : goal.returns-clause-sound
returns-clause-sound g c =
    subst (λ (f : FileState). IfSome f.source.contents (λ k. IsCollection (collection_with f.source.shape f.source.kind k))) c.self.view_is
    (content_collection c.self.inside.file.head (g.S.Store.bytes c.self.inside.store) c.self.invariant.0.valid)
