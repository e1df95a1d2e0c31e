use Rattle.std.proofs.Common.{◌∙◌}
use Rattle.oe_window.proofs.PartLemmas.{row_ends}
use Rattle.oe_window.proofs.CellLemmas.{row_cells_are}
use Rattle.oe_window.proofs.cells.row_cells.Goals as goal

pub piece-requires : goal.piece-requires
piece-requires g c =
    rw (c.length.ensures, c.requires.counted) (row_ends c.args.window.now c.args.number c.requires.number)

pub returns : goal.returns
returns g c other cube same =
    c.piece.ensures ∙ rw c.length.ensures (row_cells_are other cube c.args.window.now _ c.args.number c.requires.number same)
