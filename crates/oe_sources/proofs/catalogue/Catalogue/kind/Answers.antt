use Rattle.std.proofs.Common.{sym, ap, ◌∙◌}
use Rattle.oe_sources.specs.Source.{Source}
use Rattle.oe_sources.proofs.CatalogueLemmas.{source_shown}
use Rattle.oe_sources.proofs.catalogue.Catalogue.kind.Goals as goal

pub returns : goal.returns
returns g c =
    c.kind_of.ensures ∙ ap (λ (s : Source). s.kind) (sym (source_shown _ _ c.args.self.now.rows.items c.args.place c.index.result.now c.requires.mounted c.index.ensures))
