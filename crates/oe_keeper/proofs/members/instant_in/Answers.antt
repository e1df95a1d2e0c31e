use Rattle.std.proofs.Common.{FitsSigned, w64, rules, sym}
use Rattle.std.proofs.lemmas.Int.{to_z-of_z}
use Rattle.serde_json.specs.View.{view}
use Rattle.oe_keeper.proofs.FindLemmas.{instant_found, no_instant}
use Rattle.oe_keeper.proofs.members.instant_in.Goals as goal

pub returns-in-Some : goal.returns-in-Some
returns-in-Some c =
    let fits : FitsSigned w64 c.in-Some.seconds = search rules in
    instant_found c.args.name.now (view c.args.value.now) c.in-Some.seconds c.instant_of.result (sym c.in-Some.ensures)
    (rw (to_z-of_z w64 c.in-Some.seconds fits) at c.instant_of.ensures)

pub returns-in-None : goal.returns-in-None
returns-in-None c = λ seconds has. no_instant c.args.name.now (view c.args.value.now) seconds c.in-None.ensures has
