use Rattle.std.proofs.Common.{All}
use Rattle.oe_outside.specs.ScriptDoors.{IsSound}
use Rattle.oe_rows_serve.proofs.links.links_of.Given as goal

abbrev pub invariant-loop-line : goal.invariant-loop-line
invariant-loop-line l = All IsSound l.links.items
