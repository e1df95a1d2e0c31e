use Rattle.std.proofs.Common.{refl, rules, w64, FitsSigned}
use Rattle.std.proofs.lemmas.Int.{to_z-of_z}
use Rattle.oe_serve.specs.Turns.{door_of}
use Rattle.oe_serve.proofs.DoorLemmas.{busy_of}
use Rattle.oe_serve.proofs.TurnLemmas.{turn_alone, turn_met}
use Rattle.oe_serve.proofs.turns.turn.Goals as goal

pub end_turn-requires-clause-service : goal.end_turn-requires-clause-service
end_turn-requires-clause-service g c κs within =
    let keeps = c.meet.ensures.serves.keeps in
    record { valid = keeps.service; is_kept = keeps.is_kept; going = keeps.going }

pub returns-in-Conn-clause-turns : goal.returns-in-Conn-clause-turns
returns-in-Conn-clause-turns g c =
    let seen = door_of g.D.Door.visible g.D.Door.faults g.D.Door.dial_faults in
    let fits : FitsSigned w64 c.now_seconds-now.result = search rules in
    let met = rw (to_z-of_z w64 c.now_seconds-now.result fits) at c.meet.ensures in
    let ended = rw (to_z-of_z w64 c.now_seconds-now.result fits) at c.end_turn.ensures in
    turn_met _ _ _ c.args.service.now refl refl _ _ (seen c.args.door.now) (seen c.next.new.self) c.is_busy.result c.next.result
    c.next.ensures.cause c.next.ensures.visible c.next.ensures.same_dial_faults c.in-Conn.conn c.in-Conn.is
    c.now_seconds-now.result c.now_seconds-now.ensures.visible _ _ _ _ _ _ _ _ met ended

pub returns-in-Nobody-clause-turns : goal.returns-in-Nobody-clause-turns
returns-in-Nobody-clause-turns g c =
    let seen = door_of g.D.Door.visible g.D.Door.faults g.D.Door.dial_faults in
    let fits : FitsSigned w64 c.now_seconds-now-in-Nobody.result = search rules in
    let ended = rw (to_z-of_z w64 c.now_seconds-now-in-Nobody.result fits) at c.end_turn-in-Nobody.ensures in
    turn_alone _ _ _ c.args.service.now refl refl _ _ (seen c.args.door.now) (seen c.next.new.self) c.is_busy.result
    c.next.result c.next.ensures.cause c.next.ensures.visible c.next.ensures.same_dial_faults c.in-Nobody.is
    (busy_of c.next.result c.is_busy.result _ c.in-Nobody.is c.next.ensures.nobody c.is_busy.ensures)
    c.now_seconds-now-in-Nobody.result c.now_seconds-now-in-Nobody.ensures.visible _ _ _ _ ended
