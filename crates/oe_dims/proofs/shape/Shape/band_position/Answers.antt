use Rattle.std.proofs.Common.{subst, sym}
use Rattle.oe_dims.specs.Indices.{IsIndexOf}
use Rattle.oe_dims.specs.Dimensions.{band_names}
use Rattle.oe_dims.specs.Lists.{dimensions_of}
use Rattle.oe_dims.proofs.ReaderLemmas.{IsIndexOf-band}
use Rattle.oe_dims.proofs.shape.Shape.band_position.Goals as goal

pub returns-in-None-clause-exact : goal.returns-in-None-clause-exact
returns-in-None-clause-exact c =
    let d = dimensions_of c.self.inside.lists in
    rw (← c.self.view_is) (subst (IsIndexOf (band_names d) c.args.name.now) (sym c.in-None.ensures.value) (IsIndexOf-band d c.args.name.now c.self.invariant))

pub returns-in-Some-clause-exact : goal.returns-in-Some-clause-exact
returns-in-Some-clause-exact c =
    let d = dimensions_of c.self.inside.lists in
    rw (← c.self.view_is) (subst (IsIndexOf (band_names d) c.args.name.now) (sym c.in-Some.ensures.value) (IsIndexOf-band d c.args.name.now c.self.invariant))
