use Rattle.std.proofs.Common.{arith}
use Rattle.std.proofs.lemmas.Grind.{common_steps}
use Rattle.oe_window.proofs.ChunkLemmas.{is_number, chunk_positions, chunk_filled}
use Rattle.oe_window.proofs.grid.Grid.chunk.Goals as goal

pub part-requires-clause-number : goal.part-requires-clause-number
part-requires-clause-number c =
    rw (c.parts-columns.ensures.value, c.parts-rows.ensures.value) (is_number _ c.args.k (rw (← c.self.view_is) at c.requires)).t

pub returns-clause-positions : goal.returns-clause-positions
returns-clause-positions c p =
    rw (c.part.ensures, c.part-2.ensures, c.part-3.ensures, c.parts-columns.ensures.value, c.parts-rows.ensures.value, ← c.self.view_is) (chunk_positions _ c.args.k c.self.invariant p)

pub returns-clause-filled : goal.returns-clause-filled
returns-clause-filled c =
    rw (c.part.ensures, c.part-2.ensures, c.part-3.ensures, c.parts-columns.ensures.value, c.parts-rows.ensures.value) (chunk_filled _ c.args.k c.self.invariant (rw (← c.self.view_is) at c.requires))

pub nonzero_div-k-2 : goal.nonzero_div-k-2
nonzero_div-k-2 c = grind (arith, common_steps) steps 2000000

pub nonzero_rem-k : goal.nonzero_rem-k
nonzero_rem-k c = grind (arith, common_steps) steps 2000000

pub part-requires-2-clause-number : goal.part-requires-2-clause-number
part-requires-2-clause-number c = grind (arith, common_steps) steps 2000000
