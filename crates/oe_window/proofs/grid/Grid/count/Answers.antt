use Rattle.oe_window.proofs.ChunkLemmas.{chunk_number_below}
use Rattle.oe_window.proofs.grid.Grid.count.Goals as goal

pub returns-clause-numbered : goal.returns-clause-numbered
returns-clause-numbered c p =
    rw (c.parts-planes.ensures.value, c.parts.ensures.value, c.parts-2.ensures.value, ← c.self.view_is) (chunk_number_below _ p c.self.invariant)
