use Rattle.oe_dims.specs.Lists.{dimensions_of}
use Rattle.oe_dims.proofs.CubeLemmas.{IsCube-counted, AreTabulations-shape}
use Rattle.oe_dims.proofs.shape.Shape.is_cube.Goals as goal

pub returns-clause-value : goal.returns-clause-value
returns-clause-value g c =
    rw (← c.self.view_is) (IsCube-counted (dimensions_of c.self.inside.lists) c.args.cells.now c.cells.result c.cells.ensures.value)

pub returns-clause-cubes : goal.returns-clause-cubes
returns-clause-cubes g c =
    rw (← c.self.view_is) (AreTabulations-shape _ (dimensions_of c.self.inside.lists) c.self.invariant)
