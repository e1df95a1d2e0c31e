use Rattle.std.proofs.Common.{◌≡◌, ◌≤◌, List, ℕ, length, true, subst, sym}
use Rattle.oe_dims.specs.Dimensions.{all_differ, most_labels}
use Rattle.oe_dims.specs.Lists.{dimensions_of}
use Rattle.oe_dims.proofs.ShapeLemmas.{bands_differ, names_within}
use Rattle.oe_dims.proofs.shape.Shape.bands.Goals as goal

pub returns-clause-differ : goal.returns-clause-differ
returns-clause-differ c =
    subst (λ (names : List (List ℕ)). all_differ names ≡ true) (sym c.names.ensures) (bands_differ (dimensions_of c.self.inside.lists) c.self.invariant)

pub returns-clause-most : goal.returns-clause-most
returns-clause-most c =
    subst (λ (names : List (List ℕ)). length names ≤ most_labels) (sym c.names.ensures) (names_within (dimensions_of c.self.inside.lists) c.self.invariant)
