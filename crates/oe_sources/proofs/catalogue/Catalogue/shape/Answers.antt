use Rattle.std.proofs.Common.{IfSome, sym, ap, ◌∙◌, subst}
use Rattle.oe_cube.specs.Collections.{IsCollection}
use Rattle.oe_sources.specs.Source.{Source, collection_of}
use Rattle.oe_sources.proofs.CatalogueLemmas.{source_shown}
use Rattle.oe_sources.proofs.catalogue.Catalogue.shape.Goals as goal

pub returns-clause-value : goal.returns-clause-value
returns-clause-value g c =
    c.shape_of.ensures.value ∙ ap (λ (s : Source). s.shape) (sym (source_shown _ _ c.args.self.now.rows.items c.args.place c.index.result.now c.requires.mounted c.index.ensures))

pub returns-clause-sound : goal.returns-clause-sound
returns-clause-sound g c =
    subst (λ (s : Source). IfSome (collection_of s) IsCollection) (sym (source_shown _ _ c.args.self.now.rows.items c.args.place c.index.result.now c.requires.mounted c.index.ensures)) c.shape_of.ensures.sound
