use Rattle.std.proofs.Common.{codes}
use Rattle.serde_json.specs.Find.{get}
use Rattle.serde_json.specs.View.{view}
use Rattle.oe_jobs.specs.Texts.{level_text}
use Rattle.oe_keeper.proofs.FindLemmas.{member_no_str, word_found}
use Rattle.oe_keeper.proofs.members.level_at.Goals as goal

pub returns-in-Some : goal.returns-in-Some
returns-in-Some c =
    word_found level_text (get (codes "level") (view c.args.value.now)) c.in-Some.text.now c.of.result c.in-Some.ensures
    c.of.ensures

pub returns-in-None : goal.returns-in-None
returns-in-None c = λ level is.
    member_no_str (get (codes "level") (view c.args.value.now)) (level_text level) c.in-None.ensures is
