use Rattle.std.proofs.Common.{◌≡◌, false, if◌then◌else◌, ℕ, List, [], map, ◌∙◌, sym, ap, is_some}
use Rattle.std.specs.Option.{option_map_or}
use Rattle.oe_graph.specs.Catalogue.{Process, process_named}
use Rattle.oe_graph.specs.Plain.{plain_stored}
use Rattle.oe_graph.specs.declared.tree.Node.{Node}
use Rattle.oe_calls.specs.Calls.{callee}
use Rattle.oe_calls.proofs.calls.callback_parameters.Goals as goal

-- the parameters that the callbacks of a process of the catalogue see
abbrev of_row : List ℕ → List (List ℕ)
of_row id = option_map_or (λ (p : Process). p.callback_parameters) (process_named id) []

pub returns : goal.returns
returns c =
    let n : Node = c.args.node.now in
    let none : is_some (callee (map plain_stored c.args.stored.now) n.namespace n.process_id) ≡ false =
    sym c.is_call.ensures ∙ c.if-is_call.false in
    c.row_parameters.ensures ∙ (ap of_row c.as_str.ensures ∙ sym (ap (λ b. if b then [] else of_row n.process_id) none))
