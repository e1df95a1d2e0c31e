use Rattle.std.proofs.Common.{◌≤◌, List, ℤ, length, subst, sym}
use Rattle.oe_dims.specs.Dimensions.{most_labels}
use Rattle.oe_dims.specs.Rules.{IsInOrder}
use Rattle.oe_dims.specs.Lists.{dimensions_of}
use Rattle.oe_dims.proofs.ReaderLemmas.{IsInOrder-shape}
use Rattle.oe_dims.proofs.ShapeLemmas.{numbers_within}
use Rattle.oe_dims.proofs.shape.Shape.labels.Goals as goal

pub returns-clause-order : goal.returns-clause-order
returns-clause-order c =
    subst (IsInOrder c.args.kind) (sym c.numbers.ensures) (IsInOrder-shape (dimensions_of c.self.inside.lists) c.args.kind c.self.invariant)

pub returns-clause-most : goal.returns-clause-most
returns-clause-most c =
    subst (λ (labels : List ℤ). length labels ≤ most_labels) (sym c.numbers.ensures) (numbers_within (dimensions_of c.self.inside.lists) c.args.kind c.self.invariant)
