use Rattle.std.proofs.Common.{map}
use Rattle.std.proofs.lemmas.Result.{IfOk-weaker}
use Rattle.oe_graph.specs.Plain.{plain_stored}
use Rattle.oe_calls.proofs.BareLemmas.{bare_called, bare_uncalled}
use Rattle.oe_calls.proofs.sizes.opened_bare_left.Goals as goal

pub returns-in_default : goal.returns-in_default
returns-in_default c =
    IfOk-weaker c.bare_left.result _ _
    (λ left taken.
    bare_uncalled c.args.measure (map plain_stored c.args.stored.now) c.args.node.now c.callee.result c.args.budget left c.callee.ensures
    c.in_default.not-Some taken)
    c.bare_left.ensures

pub returns : goal.returns
returns c =
    IfOk-weaker c.under_nodes_left.result _ _
    (λ left taken.
    bare_called c.args.measure (map plain_stored c.args.stored.now) c.args.node.now c.callee.result c.in-Some.process c.args.budget left
    c.callee.ensures c.in-Some.is taken)
    c.under_nodes_left.ensures
