use Rattle.std.proofs.Common.{ℕ, List, Some, sym, ap, ◌∙◌}
use Rattle.serde_json.specs.Data.{string}
use Rattle.serde_json.specs.Find.{get}
use Rattle.serde_json.specs.View.{view}
use Rattle.oe_keeper.proofs.FindLemmas.{member_str, member_no_str}
use Rattle.oe_keeper.proofs.members.text_in.Goals as goal

pub returns-in_ok-of-in-Some : goal.returns-in_ok-of-in-Some
returns-in_ok-of-in-Some c =
    member_str (get c.args.name.now (view c.args.value.now)) c.in-Some.text.now c.in-Some.ensures
    ∙ ap (λ (s : List ℕ). Some (string s)) (sym c.in_ok-of-in-Some.ensures)

pub returns-in-None : goal.returns-in-None
returns-in-None c = λ text is. member_no_str (get c.args.name.now (view c.args.value.now)) text c.in-None.ensures is
