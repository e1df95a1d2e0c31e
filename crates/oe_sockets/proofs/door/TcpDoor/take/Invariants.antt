use Rattle.std.proofs.Common.{◌≡◌}
use Rattle.oe_sockets.proofs.door.TcpDoor.take.Given as goal

abbrev pub invariant-loop : goal.invariant-loop
invariant-loop g l =
    (l.self.faults ≡ l.initial.self.faults) × (l.self.dial_faults ≡ l.initial.self.dial_faults) × (l.self.link_faults ≡ l.initial.self.link_faults)
