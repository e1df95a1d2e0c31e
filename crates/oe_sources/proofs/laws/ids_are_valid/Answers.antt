use Rattle.oe_sources.proofs.CatalogueLawLemmas.{valid_ids}
use Rattle.oe_sources.proofs.laws.ids_are_valid.Goals as goal

pub returns : goal.returns
returns g c = valid_ids _ _ c.args._catalogue.now.rows.items c.args._catalogue.now.valid
