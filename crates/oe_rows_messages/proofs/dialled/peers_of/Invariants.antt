use Rattle.std.specs.Prelude.{All}
use Rattle.oe_outside.specs.ScriptDoors.{IsSound}
use Rattle.oe_rows_messages.proofs.dialled.peers_of.Given as goal

abbrev pub invariant-loop-peer : goal.invariant-loop-peer
invariant-loop-peer l = All IsSound l.peers.items
