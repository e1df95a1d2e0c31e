use Rattle.std.proofs.Common.{◌&&◌, Bool, List, ℕ, sym, ap, ◌∙◌}
use Rattle.oe_graph.specs.declared.tree.Arg.{Arg}
use Rattle.oe_requests.proofs.NameLemmas.{has_box_names, flat_box, no_flat_box}
use Rattle.oe_requests.proofs.parameter_box.is_flat_box.Goals as goal

pub returns-then-have_box_names : goal.returns-then-have_box_names
returns-then-have_box_names c =
    let xs : List (List ℕ × Arg) = c.args.members.now.items in
    sym (ap (λ (b : Bool). b && c.lacks_height.result) c.if-have_box_names.true)
    ∙ flat_box xs c.have_box_names.result c.lacks_height.result
    (c.have_box_names.ensures ∙ ap has_box_names c.as_slice.ensures.value) c.lacks_height.ensures

pub returns-else-have_box_names : goal.returns-else-have_box_names
returns-else-have_box_names c =
    let xs : List (List ℕ × Arg) = c.args.members.now.items in
    no_flat_box xs c.have_box_names.result
    (c.have_box_names.ensures ∙ ap has_box_names c.as_slice.ensures.value) c.if-have_box_names.false
