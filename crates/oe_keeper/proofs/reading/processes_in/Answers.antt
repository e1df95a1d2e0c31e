use Rattle.std.proofs.Common.{codes}
use Rattle.std.proofs.lemmas.Result.{IfOk-weaker}
use Rattle.serde_json.specs.Find.{get}
use Rattle.serde_json.specs.View.{items_view, view}
use Rattle.oe_keeper.specs.Reading.{IsStoredEntry}
use Rattle.oe_keeper.proofs.FindLemmas.{list_found, member_array, member_no_array}
use Rattle.oe_keeper.proofs.reading.processes_in.Goals as goal

pub returns-in-Some : goal.returns-in-Some
returns-in-Some c =
    IfOk-weaker c.read_processes.result _ _
    (λ read. list_found IsStoredEntry (codes "stored") (view c.args.value.now) (items_view c.in-Some.values.now) _
    (member_array (get (codes "stored") (view c.args.value.now)) (items_view c.in-Some.values.now) c.in-Some.ensures))
    c.read_processes.ensures

pub returns-in-None : goal.returns-in-None
returns-in-None c = λ list has.
    member_no_array (get (codes "stored") (view c.args.value.now)) has.entries c.in-None.ensures has.is_list
