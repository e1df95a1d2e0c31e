use Rattle.std.proofs.Common.{subst, sym, FitsSigned, w64}
use Rattle.std.proofs.lemmas.Int.{to_z-of_z}
use Rattle.oe_dims.specs.Indices.{IsIndexOf}
use Rattle.oe_dims.specs.Dimensions.{number_labels}
use Rattle.oe_dims.specs.Lists.{dimensions_of}
use Rattle.oe_dims.proofs.ReaderLemmas.{IsIndexOf-number}
use Rattle.oe_dims.proofs.shape.Shape.position_of.Goals as goal

pub returns-in-None-clause-exact : goal.returns-in-None-clause-exact
returns-in-None-clause-exact c =
    let fits : FitsSigned w64 c.args.label = c.ranges.label in
    let value = simp to_z-of_z at c.in-None.ensures.value in
    let d = dimensions_of c.self.inside.lists in
    rw (← c.self.view_is) (subst (IsIndexOf (number_labels d c.args.kind) c.args.label) (sym value) (IsIndexOf-number d c.args.kind c.args.label c.self.invariant))

pub returns-in-Some-clause-exact : goal.returns-in-Some-clause-exact
returns-in-Some-clause-exact c =
    let fits : FitsSigned w64 c.args.label = c.ranges.label in
    let value = simp to_z-of_z at c.in-Some.ensures.value in
    let d = dimensions_of c.self.inside.lists in
    rw (← c.self.view_is) (subst (IsIndexOf (number_labels d c.args.kind) c.args.label) (sym value) (IsIndexOf-number d c.args.kind c.args.label c.self.invariant))
