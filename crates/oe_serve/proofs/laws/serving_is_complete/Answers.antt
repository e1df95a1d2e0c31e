use Rattle.oe_serve.proofs.Complete.{serving_is_complete}
use Rattle.oe_serve.proofs.laws.serving_is_complete.Goals as goal

pub returns : goal.returns
returns c = serving_is_complete
