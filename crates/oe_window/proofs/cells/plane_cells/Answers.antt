use Rattle.std.proofs.Common.{◌∙◌}
use Rattle.oe_window.proofs.PartLemmas.{plane_ends}
use Rattle.oe_window.proofs.CellLemmas.{plane_cells_are}
use Rattle.oe_window.proofs.cells.plane_cells.Goals as goal

pub piece-requires : goal.piece-requires
piece-requires g c =
    rw (c.area.ensures, c.requires.counted) (plane_ends c.args.window.now c.args.number c.requires.number)

pub returns : goal.returns
returns g c other cube same =
    c.piece.ensures ∙ rw c.area.ensures (plane_cells_are other cube c.args.window.now _ c.args.number c.requires.number same)
