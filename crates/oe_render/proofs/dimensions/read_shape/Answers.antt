use Rattle.std.proofs.Common.{◌≡◌, Some, None, sym, ◌∙◌, subst}
use Rattle.serde_json.specs.View.{items_view}
use Rattle.oe_dims.specs.Dimensions.{IsShape}
use Rattle.oe_render.proofs.Shapes.{made_shape, one_shape}
use Rattle.oe_render.proofs.dimensions.read_shape.Goals as goal

pub returns-in-Err : goal.returns-in-Err
returns-in-Err c = λ shape valid is.
    let made = made_shape c.in-Some.ensures (sym c.in-Some-common_system.ensures) (rw c.in-Some-2.is at c.in_ok-t.ensures) (rw c.in-Some-3.is at c.in_ok-bands.ensures)
    (rw c.in-Some-4.is at c.in_ok-y.ensures) (rw c.in-Some-5.is at c.in_ok-x.ensures) in
    let same = one_shape (items_view c.args.values.now) shape _ is made in
    let none = subst IsShape same valid in
    let both : Some c.in-Err.field-0 ≡ None = c.in-Err.ensures.fault ∙ none in
    cc
