use Rattle.std.proofs.Common.{◌≡◌, ◌++◌, map, take}
use Rattle.oe_database.specs.Each.{plain_statement}
use Rattle.oe_database.specs.Statements.{appends_asset}
use Rattle.oe_database.proofs.statements.put_assets.Given as goal

abbrev pub invariant-loop-asset : goal.invariant-loop-asset
invariant-loop-asset l = map plain_statement l.statements.items ≡ map plain_statement l.fn.statements.items ++ map (appends_asset l.number) (take l.asset-index l.assets)
