use Rattle.std.proofs.Common.{sym, ◌∙◌}
use Rattle.oe_dims.specs.Lists.{dimensions_of}
use Rattle.oe_dims.proofs.CubeLemmas.{length-tuples, row_major-tuple, tuple-row_major, MatchOneToOne-shape}
use Rattle.oe_dims.proofs.shape.Shape.cells.Goals as goal

pub returns-clause-tuples : goal.returns-clause-tuples
returns-clause-tuples c =
    rw (← c.self.view_is) (c.cells.ensures.value ∙ sym (length-tuples (dimensions_of c.self.inside.lists)))

pub returns-clause-numbered : goal.returns-clause-numbered
returns-clause-numbered c =
    rw (← c.self.view_is) (λ k tuple. (row_major-tuple (dimensions_of c.self.inside.lists) k tuple c.self.invariant, tuple-row_major (dimensions_of c.self.inside.lists) k tuple))

pub returns-clause-positions : goal.returns-clause-positions
returns-clause-positions c =
    rw (← c.self.view_is) (MatchOneToOne-shape (dimensions_of c.self.inside.lists) c.self.invariant)
