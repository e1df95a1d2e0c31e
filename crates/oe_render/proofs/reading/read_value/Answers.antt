use Rattle.std.proofs.Common.{◌≡◌, Some, None, ◌∙◌}
use Rattle.serde_json.specs.View.{view, items_view}
use Rattle.oe_render.proofs.Values.{value_parts}
use Rattle.oe_render.proofs.reading.read_value.Goals as goal

pub returns-then-not-is_cube : goal.returns-then-not-is_cube
returns-then-not-is_cube c = λ shape kind cells is.
    let parts = value_parts (view c.args.value.now) (items_view c.in-Some.dimensions.now) (items_view c.in-Some-list_in.data.now) c.in-Some-2.shape c.in-Some-3.cells.items
    c.in-Some.ensures (rw c.in-Some-2.is at c.in_ok-shape.ensures) c.in-Some-list_in.ensures (rw c.in-Some-3.is at c.in_ok-cells.ensures) shape kind cells is in
    let yes = (rw c.deref.ensures.value at c.is_cube.ensures.value).1 parts.0 in
    let no = c.if-not-is_cube.true in
    cc

pub returns-in-None : goal.returns-in-None
returns-in-None c = λ shape kind cells is.
    let parts = value_parts (view c.args.value.now) (items_view c.in-Some.dimensions.now) (items_view c.in-Some-list_in.data.now) c.in-Some-2.shape c.in-Some-3.cells.items
    c.in-Some.ensures (rw c.in-Some-2.is at c.in_ok-shape.ensures) c.in-Some-list_in.ensures (rw c.in-Some-3.is at c.in_ok-cells.ensures) shape kind cells is in
    let both : None ≡ Some kind = rw c.deref-2.ensures.value at (c.in-None.ensures) ∙ parts.1 in
    cc
