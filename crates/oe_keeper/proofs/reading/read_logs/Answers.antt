use Rattle.oe_keeper.specs.Reading.{IsLog}
use Rattle.oe_keeper.proofs.ItemLemmas.{items_all, items_more, items_none}
use Rattle.oe_keeper.proofs.reading.read_logs.Goals as goal

pub loop-value-preserved : goal.loop-value-preserved
loop-value-preserved c =
    rw c.in_ok-push-in-Some.ensures.items
    (items_more IsLog c.args.values.now c.loop-value.value-index c.loop-value.read.items c.value-item.result c.in-Some.entry
    c.loop-value.invariant c.loop-value-test.true c.value-item.is (rw c.in-Some.is at c.in_ok-entry.ensures))

pub returns : goal.returns
returns c =
    items_all IsLog c.args.values.now c.loop-value.value-index c.loop-value.read.items c.loop-value.invariant c.loop-value-test.false

pub returns-in-None : goal.returns-in-None
returns-in-None c = λ list each.
    items_none IsLog c.args.values.now c.loop-value.value-index c.value-item.result c.loop-value-test.true c.value-item.is
    (rw c.in-None.is at c.in_ok-entry.ensures) list each
