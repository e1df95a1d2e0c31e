use Rattle.oe_window.proofs.ChunkLemmas.{parts_along-le}
use Rattle.oe_window.proofs.grid.parts.Goals as goal

pub returns-clause-most : goal.returns-clause-most
returns-clause-most c =
    rw (c.from.ensures, c.from-2.ensures, c.from-3.ensures) (parts_along-le c.args.indices c.args.side c.requires.0)
