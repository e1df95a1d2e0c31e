use Rattle.std.proofs.Common.{◌≡◌, ◌||◌, false, not, Bool, if◌then◌else◌, map, ◌∙◌, sym, ap, is_some}
use Rattle.std.specs.Option.{option_map_or}
use Rattle.oe_graph.specs.Catalogue.{Process}
use Rattle.oe_graph.specs.Plain.{plain_stored}
use Rattle.oe_graph.specs.declared.tree.Node.{Node}
use Rattle.oe_graph.proofs.PartLemmas.{node_parts}
use Rattle.oe_calls.specs.Calls.{callee, row_meant, stands_in}
use Rattle.oe_calls.proofs.calls.stands_in.Goals as goal

pub returns-else-is_call : goal.returns-else-is_call
returns-else-is_call c =
    let n : Node = c.args.node.now in
    let none : is_some (callee (map plain_stored c.args.stored.now) n.namespace n.process_id) ≡ false =
    sym c.is_call.ensures ∙ c.if-is_call.false in
    let by_row : Bool = option_map_or (λ (p : Process). if c.args.in_callback then p.in_callback else not p.in_callback)
    (row_meant n.namespace n.process_id) false in
    c.row_may_stand.ensures
    ∙ (sym (ap (λ b. b || by_row) none) ∙ sym (ap (stands_in (map plain_stored c.args.stored.now) c.args.in_callback) (node_parts n)))
