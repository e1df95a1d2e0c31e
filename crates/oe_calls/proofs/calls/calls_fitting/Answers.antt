use Rattle.std.proofs.Common.{◌≡◌, true, false, map, sym, ap, ◌∙◌}
use Rattle.std.specs.Option.{option_map_or}
use Rattle.oe_graph.specs.Plain.{plain_stored}
use Rattle.oe_graph.specs.Tree.{PlainStored}
use Rattle.oe_graph.specs.declared.tree.Graph.{out-Graph}
use Rattle.oe_graph.proofs.PartLemmas.{graph_parts, node_parts}
use Rattle.oe_calls.specs.Calls.{calls_fitting, fits_callback}
use Rattle.oe_calls.proofs.calls.calls_fitting.Goals as goal

pub returns-in-Some : goal.returns-in-Some
returns-in-Some c =
    let stored = map plain_stored c.args.stored.now in
    let n = c.args.node.now in
    let g = c.in-Some.process.now.graph in
    c.nodes_fit.ensures (out-Graph g).result
    ∙ (ap (fits_callback stored false) (sym (graph_parts g))
    ∙ (ap (λ o. option_map_or (λ (s : PlainStored). fits_callback stored false s.graph) o true) c.in-Some.ensures
    ∙ sym (ap (calls_fitting stored) (node_parts n))))
