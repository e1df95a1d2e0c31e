use Rattle.std.proofs.Common.{codes, decimal}
use Rattle.serde_json.specs.Find.{get}
use Rattle.serde_json.specs.View.{view}
use Rattle.oe_keeper.proofs.FindLemmas.{member_no_str, member_str, turn_found}
use Rattle.oe_keeper.proofs.members.turn_in.Goals as goal

pub returns-in-Some : goal.returns-in-Some
returns-in-Some c =
    turn_found (view c.args.value.now) c.in-Some.text.now c.read_number.result
    (member_str (get (codes "turn") (view c.args.value.now)) c.in-Some.text.now c.in-Some.ensures) c.read_number.ensures

pub returns-in-None : goal.returns-in-None
returns-in-None c = λ turn has.
    member_no_str (get (codes "turn") (view c.args.value.now)) (decimal turn) c.in-None.ensures has.value
