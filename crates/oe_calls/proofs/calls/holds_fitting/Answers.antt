use Rattle.std.proofs.Common.{◌≡◌, Bool, map, sym, ap, ◌∙◌}
use Rattle.std.specs.List.{list_all}
use Rattle.std.specs.Prelude.{codes}
use Rattle.oe_graph.specs.Plain.{plain_named, plain_node, plain_stored}
use Rattle.oe_graph.specs.References.{callbacks_named}
use Rattle.oe_graph.specs.Tree.{Named, PlainNode}
use Rattle.oe_graph.proofs.PartLemmas.{node_parts}
use Rattle.oe_calls.specs.Calls.{fits_callback, means_row}
use Rattle.oe_calls.proofs.calls.holds_fitting.Goals as goal

pub returns : goal.returns
returns c =
    let stored = map plain_stored c.args.stored.now in
    let n = c.args.node.now in
    let arguments : plain_named n.arguments.items ≡ (plain_node n).arguments = sym (ap (λ (m : PlainNode). m.arguments) (node_parts n)) in
    c.named_fit.ensures
    ∙ (ap (λ (b : Bool). list_all (fits_callback stored b) (callbacks_named (plain_named n.arguments.items))) c.means_row-of_dimension.ensures
    ∙ ap (λ (ms : Named). list_all (fits_callback stored (means_row (codes "apply_dimension") stored (plain_node n))) (callbacks_named ms)) arguments)
