use Rattle.oe_pages.proofs.PageLemmas.{pages_have_parts as parts}
use Rattle.oe_pages.proofs.laws.pages_have_parts.Goals as goal

pub returns : goal.returns
returns c = parts
