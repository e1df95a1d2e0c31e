use Rattle.std.proofs.Common.{take}
use Rattle.oe_database.specs.Loads.{AreEach, IsAssetRow}
use Rattle.oe_database.proofs.rows.assets_in.Given as goal

abbrev pub invariant-loop-row : goal.invariant-loop-row
invariant-loop-row l = AreEach IsAssetRow 0 (take l.row-index l.rows) l.assets.items
