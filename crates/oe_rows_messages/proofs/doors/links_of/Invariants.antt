use Rattle.std.proofs.Common.{All}
use Rattle.oe_outside.specs.ScriptDoors.{IsSound}
use Rattle.oe_rows_messages.proofs.doors.links_of.Given as goal

abbrev pub invariant-loop-call : goal.invariant-loop-call
invariant-loop-call l = All IsSound l.links.items
