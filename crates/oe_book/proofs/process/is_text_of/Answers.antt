use Rattle.serde_json.specs.View.{view}
use Rattle.oe_book.proofs.ProcessLemmas.{text_is}
use Rattle.oe_book.proofs.process.is_text_of.Goals as goal

pub returns-in-Ok : goal.returns-in-Ok
returns-in-Ok c = text_is (view c.args.value.now) _ c.args.text.now c.same_name.result c.in-Ok.ensures.text c.same_name.ensures
