use Rattle.std.proofs.Common.{sym, ◌∙◌, ◌-◌, arith}
use Rattle.oe_graph.proofs.SearchLemmas.{rise_end}
use Rattle.oe_graph.proofs.search.ids_rise.Goals as goal

pub returns : goal.returns
returns c =
    sym (c.loop-index.invariant
    ∙ rise_end c.args.nodes.now.items (c.loop-index.index - 1)
    (omega (arith, c.loop-index-test.false, c.len-index-end.ensures, c.loop-index.auto.index-end)))
