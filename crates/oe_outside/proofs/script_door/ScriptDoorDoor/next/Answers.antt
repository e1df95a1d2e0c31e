use Rattle.std.proofs.Common.{reverse}
use Rattle.oe_outside.proofs.Turned.{reverse-popped}
use Rattle.oe_outside.proofs.script_door.ScriptDoorDoor.next.Goals as goal

pub returns-in-Some-clause-visible : goal.returns-in-Some-clause-visible
returns-in-Some-clause-visible c =
    rw (← c.self.view_is) (reverse c.pop.new.self.items, reverse-popped _ _ _ c.in-Some.ensures.items, cc)
