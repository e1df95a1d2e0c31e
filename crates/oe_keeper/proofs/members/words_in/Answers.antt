use Rattle.std.proofs.lemmas.Result.{IfOk-weaker}
use Rattle.serde_json.specs.Find.{get}
use Rattle.serde_json.specs.View.{view}
use Rattle.oe_keeper.specs.Entry.{text_data}
use Rattle.oe_keeper.proofs.FindLemmas.{no_value, value_found}
use Rattle.oe_keeper.proofs.members.words_in.Goals as goal

pub returns-in-Some : goal.returns-in-Some
returns-in-Some c =
    IfOk-weaker c.words_of.result _ _
    (λ read. value_found text_data (get c.args.name.now (view c.args.value.now)) (view c.in-Some.member.now) read c.in-Some.ensures)
    c.words_of.ensures

pub returns-in-None : goal.returns-in-None
returns-in-None c = λ words is. no_value (get c.args.name.now (view c.args.value.now)) (text_data words) c.in-None.ensures is
