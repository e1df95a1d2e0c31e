use Rattle.std.proofs.Common.{◌≤◌, arith, sym}
use Rattle.oe_dims.proofs.ShapeLemmas.{label_count_within}
use Rattle.oe_dims.specs.Dimensions.{most_labels}
use Rattle.oe_dims.specs.Lists.{dimensions_of}
use Rattle.oe_dims.proofs.shape.Shape.count.Goals as goal

pub overflow_cast-result : goal.overflow_cast-result
overflow_cast-result c =
    let most : c.in-Some.count ≤ most_labels = label_count_within (dimensions_of c.self.inside.lists) c.args.kind c.in-Some.count c.self.invariant (sym c.in-Some.ensures) in
    omega arith

pub returns-in-Some-clause-most : goal.returns-in-Some-clause-most
returns-in-Some-clause-most c =
    label_count_within (dimensions_of c.self.inside.lists) c.args.kind c.in-Some.count c.self.invariant (sym c.in-Some.ensures)
