use Rattle.std.proofs.Common.{sym}
use Rattle.oe_window.proofs.CellLemmas.{cells_on-whole}
use Rattle.oe_window.proofs.cells.whole_cells.Goals as goal

pub returns-clause-value : goal.returns-clause-value
returns-clause-value g c other = sym (cells_on-whole other (record { shape = c.args.shape.now; cells = c.args.cells.now }) c.requires.whole)
