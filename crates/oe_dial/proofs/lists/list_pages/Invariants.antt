use Rattle.std.proofs.Common.{◌-◌}
use Rattle.oe_dial.specs.Ends.{lent, views_of}
use Rattle.oe_dial.specs.Words.{plain_call}
use Rattle.oe_dial.proofs.ListLemmas.{SoFar}
use Rattle.oe_dial.proofs.lists.list_pages.Given as goal

abbrev pub invariant-loop-next : goal.invariant-loop-next
invariant-loop-next g l =
    SoFar (views_of g.D.Conn.Link.left g.D.Conn.Link.written g.D.Conn.Link.faults) (plain_call l.call)
    (lent (g.O.Sink.written l.initial.out) (g.O.Sink.faults l.initial.out) (g.D.Door.visible l.initial.door)
    (g.D.Door.faults l.initial.door) (g.D.Door.dial_faults l.initial.door) (g.D.Door.link_faults l.initial.door))
    (lent (g.O.Sink.written l.out) (g.O.Sink.faults l.out) (g.D.Door.visible l.door)
    (g.D.Door.faults l.door) (g.D.Door.dial_faults l.door) (g.D.Door.link_faults l.door))
    l.offset

abbrev pub decreases-loop-next : goal.decreases-loop-next
decreases-loop-next g l = 100000 - l.offset
