use Rattle.oe_sources.proofs.CatalogueLemmas.{never_failed_shown}
use Rattle.oe_sources.proofs.catalogue.Catalogue.generated_never_failed.Goals as goal

pub returns : goal.returns
returns g c = never_failed_shown _ _ c.args.self.now.rows.items c.args.place c.index.result.now c.requires.mounted c.index.ensures c.never_failed.ensures
