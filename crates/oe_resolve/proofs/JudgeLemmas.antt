-- What judging a node finds.
use Rattle.std.proofs.Common.{◌≡◌, Bool, List, Option, None, map, option_map, sym, ap, ◌∙◌}
use Rattle.std.specs.Option.{option_or}
use Rattle.oe_graph.specs.Catalogue.{Process, plain_parameter}
use Rattle.oe_graph.specs.Plain.{plain_node, plain_named}
use Rattle.oe_graph.specs.Tree.{Named, PlainNode, PlainParameter, PlainStored}
use Rattle.oe_graph.specs.declared.tree.Node.{Node}
use Rattle.oe_graph.proofs.PartLemmas.{node_parts}
use Rattle.oe_calls.specs.Calls.{callee, row_meant, parameters_of}

-- a test of the parameters and arguments of a node that calls no stored process
pub test_meant : (stored : List PlainStored) (n : Node) (parameters : Option (List PlainParameter)) (b : Bool)
    (test : Option (List PlainParameter) → Named → Bool)
    → None ≡ callee stored n.namespace n.process_id
    → parameters ≡ option_map (λ (p : Process). map plain_parameter p.parameters) (row_meant n.namespace n.process_id)
    → b ≡ test parameters (plain_named n.arguments.items)
    → b ≡ test (parameters_of stored (plain_node n)) (plain_node n).arguments
test_meant stored n parameters b test none is holds =
    holds
    ∙ ap (λ ps. test ps (plain_named n.arguments.items))
    (is ∙ ap (λ o. option_or (option_map (λ (s : PlainStored). s.parameters) o)
    (option_map (λ (p : Process). map plain_parameter p.parameters) (row_meant n.namespace n.process_id))) none)
    ∙ ap (λ (m : PlainNode). test (parameters_of stored m) m.arguments) (sym (node_parts n))
