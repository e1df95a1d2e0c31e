use Rattle.std.proofs.Common.{sym, ◌∙◌, subst}
use Rattle.serde_json.specs.Find.{as_object}
use Rattle.serde_json.specs.View.{view}
use Rattle.oe_graph.specs.Faults.{IsLeast}
use Rattle.oe_graph.specs.Form.{StandsIn}
use Rattle.oe_graph.proofs.ReadLemmas.{some_is, none_is, missing_least, unreadable_least}
use Rattle.oe_graph.proofs.read.main_nodes.Goals as goal

pub returns-in_ok-fault_at-in-None-clause-refused : goal.returns-in_ok-fault_at-in-None-clause-refused
returns-in_ok-fault_at-in-None-clause-refused c =
    let d = view c.args.value.now in
    subst (IsLeast (StandsIn d)) (sym c.in_ok-fault_at-in-None.ensures)
    (missing_least d (sym c.in-None.ensures) (some_is (as_object d) (sym c.is_object.ensures ∙ c.if-is_object.true)))

pub returns-in_ok-fault_at-in-None-2-clause-refused : goal.returns-in_ok-fault_at-in-None-2-clause-refused
returns-in_ok-fault_at-in-None-2-clause-refused c =
    let d = view c.args.value.now in
    subst (IsLeast (StandsIn d)) (sym c.in_ok-fault_at-in-None-2.ensures)
    (unreadable_least d (none_is (as_object d) (sym c.is_object.ensures ∙ c.if-is_object.false)))
