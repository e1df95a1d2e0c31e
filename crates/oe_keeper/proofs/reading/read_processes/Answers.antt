use Rattle.std.proofs.Common.{◌+◌, List, [], ◌∷◌, map, take, sym, ap, ◌∙◌, subst}
use Rattle.std.proofs.lemmas.List.{map-append}
use Rattle.serde_json.specs.View.{items_view}
use Rattle.oe_graph.specs.Plain.{plain_stored}
use Rattle.oe_graph.specs.Tree.{PlainStored}
use Rattle.oe_keeper.specs.Reading.{Each, IsStoredEntry}
use Rattle.oe_keeper.proofs.ItemLemmas.{items_all, items_more, items_none}
use Rattle.oe_keeper.proofs.reading.read_processes.Goals as goal

pub loop-value-preserved : goal.loop-value-preserved
loop-value-preserved c =
    let before = c.loop-value.read.items in
    let process = c.in-Some.process in
    let more = ap (map plain_stored) c.in_ok-push-in-Some.ensures.items ∙ map-append plain_stored before (process ∷ []) in
    subst (λ (list : List PlainStored). Each IsStoredEntry (items_view (take (c.loop-value.value-index + 1) c.args.values.now)) list) (sym more)
    (items_more IsStoredEntry c.args.values.now c.loop-value.value-index (map plain_stored before) c.value-item.result
    (plain_stored process) c.loop-value.invariant c.loop-value-test.true c.value-item.is (rw c.in-Some.is at c.in_ok-process.ensures))

pub returns : goal.returns
returns c =
    items_all IsStoredEntry c.args.values.now c.loop-value.value-index (map plain_stored c.loop-value.read.items) c.loop-value.invariant
    c.loop-value-test.false

pub returns-in-None : goal.returns-in-None
returns-in-None c = λ list each.
    items_none IsStoredEntry c.args.values.now c.loop-value.value-index c.value-item.result c.loop-value-test.true c.value-item.is
    (rw c.in-None.is at c.in_ok-process.ensures) list each
