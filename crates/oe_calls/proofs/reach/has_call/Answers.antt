use Rattle.std.proofs.Common.{not, sym, ap, ◌∙◌}
use Rattle.oe_graph.specs.Plain.{plain_graph, plain_stored}
use Rattle.oe_calls.specs.HasCall.{nodes_call}
use Rattle.oe_calls.proofs.UncalledLemmas.{map_empty, no_calls}
use Rattle.oe_calls.proofs.reach.has_call.Goals as goal

pub returns-else-not-is_empty : goal.returns-else-not-is_empty
returns-else-not-is_empty c =
    let nodes = (plain_graph c.args.graph.now).nodes in
    ap not c.if-not-is_empty.false ∙ sym (ap (λ stored. nodes_call stored nodes)
    (map_empty plain_stored c.args.stored.now (sym c.is_empty.ensures ∙ c.if-not-is_empty.false))
    ∙ no_calls nodes)
