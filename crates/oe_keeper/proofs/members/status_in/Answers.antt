use Rattle.std.proofs.Common.{codes}
use Rattle.serde_json.specs.Find.{get}
use Rattle.serde_json.specs.View.{view}
use Rattle.oe_jobs.specs.Texts.{status_text}
use Rattle.oe_keeper.proofs.FindLemmas.{member_no_str, word_found}
use Rattle.oe_keeper.proofs.members.status_in.Goals as goal

pub returns-in-Some : goal.returns-in-Some
returns-in-Some c =
    word_found status_text (get (codes "status") (view c.args.value.now)) c.in-Some.text.now c.of.result c.in-Some.ensures
    c.of.ensures

pub returns-in-None : goal.returns-in-None
returns-in-None c = λ status is.
    member_no_str (get (codes "status") (view c.args.value.now)) (status_text status) c.in-None.ensures is
