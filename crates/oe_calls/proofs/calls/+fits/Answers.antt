use Rattle.std.proofs.Common.{◌≡◌, map, sym, ◌∙◌}
use Rattle.oe_graph.specs.Plain.{plain_stored}
use Rattle.oe_graph.specs.declared.tree.Graph.{out-Graph}
use Rattle.oe_calls.specs.Calls.{fits_callback}
use Rattle.oe_calls.proofs.SumLemmas.{one_callback}
use Rattle.oe_calls.proofs.calls.+fits.Goals as goal

pub arg_fits-returns-in-Callback : goal.arg_fits-returns-in-Callback
arg_fits-returns-in-Callback t c =
    c.nodes_fit.ensures (out-Graph c.in-Callback.graph).result
    ∙ sym (one_callback (fits_callback (map plain_stored c.args.stored.now) c.args.of_dimension) c.args.arg.now c.in-Callback.graph c.in-Callback.is)
