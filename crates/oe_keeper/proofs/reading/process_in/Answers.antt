use Rattle.std.proofs.Common.{codes}
use Rattle.std.specs.Option.{option_map}
use Rattle.std.proofs.lemmas.Result.{IfOk-weaker}
use Rattle.serde_json.specs.Find.{get}
use Rattle.serde_json.specs.View.{view}
use Rattle.oe_graph.specs.Plain.{plain_stored}
use Rattle.oe_keeper.proofs.FindLemmas.{member_no_str, member_str, stored_found}
use Rattle.oe_keeper.proofs.reading.process_in.Goals as goal

pub returns-in_default : goal.returns-in_default
returns-in_default c = λ process is.
    member_no_str (get (codes "id") (view c.args.value.now)) process.id c.in_default.ensures is.id

pub returns-in_default-str_in : goal.returns-in_default-str_in
returns-in_default-str_in c = λ process is.
    member_no_str (get (codes "text") (view c.args.value.now)) process.text c.in_default-str_in.ensures is.text

pub returns : goal.returns
returns c =
    let d = view c.args.value.now in
    IfOk-weaker c.process_of.result _ _
    (λ read. stored_found d c.in-Some.id.now c.in-Some-str_in.text.now (option_map plain_stored read)
    (member_str (get (codes "id") d) c.in-Some.id.now c.in-Some.ensures)
    (member_str (get (codes "text") d) c.in-Some-str_in.text.now c.in-Some-str_in.ensures))
    c.process_of.ensures
