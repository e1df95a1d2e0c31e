use Rattle.std.proofs.Common.{◌≡◌, ◌*◌, ◌∙◌, ap, subst, arith}
use Rattle.std.proofs.lemmas.Bool.{leb-true}
use Rattle.oe_dims.specs.Dimensions.{Dimensions}
use Rattle.oe_plan.specs.Figures.{shape_of_node}
use Rattle.oe_check.specs.Checked.{CheckedGraph}
use Rattle.oe_window.specs.Windows.{Holds, whole_window}
use Rattle.oe_window.specs.declared.window.Window.{Window}
use Rattle.oe_engine.specs.Benches.{node_at}
use Rattle.oe_engine.proofs.hulls.is_readable.Goals as goal

pub size-requires : goal.size-requires
size-requires c =
    let fewer = c.holds.ensures.fewer (c.holds.ensures.value.0 c.if-not-holds.false) in
    omega (arith, fewer, c.whole.ensures.count, c.cells-cells.ensures.value, c.cells-cells.ensures.most)

pub returns-then-size-most : goal.returns-then-size-most
returns-then-size-most c = λ below.
    let p = c.args.plan.now in
    let shape_is : c.shape-shape.result.now ≡ shape_of_node p.graph (node_at p c.args.step) =
    c.shape-shape.ensures
    ∙ (ap (λ (graph : CheckedGraph). shape_of_node graph c.node.result) c.checked.ensures.value
    ∙ ap (λ n. shape_of_node p.graph n) c.node.ensures.value) in
    let most = leb-true c.from.result c.scratch.result below in
    let fewer = c.holds.ensures.fewer (c.holds.ensures.value.0 c.if-not-holds.false) in
    record {
      within = subst (λ (d : Dimensions). Holds (whole_window d) c.args.hull.now) shape_is
          (subst (λ (w : Window). Holds w c.args.hull.now) c.whole.ensures.value (c.holds.ensures.value.0 c.if-not-holds.false));
      counted = omega (arith, fewer, c.whole.ensures.count, c.cells-cells.ensures.value, c.cells-cells.ensures.most);
      few = omega (arith, c.size.ensures.value, c.if-size-most.true, c.saturating_mul-most.ensures, ap (λ n. c.args.count * n) c.largest.ensures.value);
      row = omega (arith, most, c.from.ensures, c.scratch.ensures.value);
    }
