use Rattle.std.proofs.Common.{codes}
use Rattle.std.proofs.lemmas.Result.{IfOk-weaker}
use Rattle.serde_json.specs.Find.{get}
use Rattle.serde_json.specs.View.{view}
use Rattle.oe_keeper.proofs.FindLemmas.{no_value, ran_found}
use Rattle.oe_keeper.proofs.reading.ran_in.Goals as goal

pub returns-in-Some : goal.returns-in-Some
returns-in-Some c =
    IfOk-weaker c.ran_or_null.result _ _
    (λ read. ran_found (view c.args.value.now) (view c.in-Some.member.now) _ c.in-Some.ensures) c.ran_or_null.ensures

pub returns-in-None : goal.returns-in-None
returns-in-None c = λ ran has. no_value (get (codes "ran") (view c.args.value.now)) has.value c.in-None.ensures has.is_member
