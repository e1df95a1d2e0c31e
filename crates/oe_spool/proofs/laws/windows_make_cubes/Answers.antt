use Rattle.oe_spool.proofs.CubeRecords.{cube_from_windows, cube_from_chunks}
use Rattle.oe_spool.proofs.laws.windows_make_cubes.Goals as goal

pub returns-clause-windows : goal.returns-clause-windows
returns-clause-windows c = cube_from_windows

pub returns-clause-chunks : goal.returns-clause-chunks
returns-clause-chunks c = cube_from_chunks
