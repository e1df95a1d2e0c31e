use Rattle.std.proofs.Common.{refl}
use Rattle.oe_dial.proofs.Endings.{stays}
use Rattle.oe_dial.proofs.ListLemmas.{takes, takes_none}
use Rattle.oe_dial.specs.Ends.{lent, views_of}
use Rattle.oe_dial.specs.Words.{plain_call}
use Rattle.oe_dial.proofs.lists.take_page.Goals as goal

pub returns-in-Ok-clause-takes : goal.returns-in-Ok-clause-takes
returns-in-Ok-clause-takes g c =
    let link = g.D.Conn.Link in
    let door = g.D.Door in
    let sink = g.O.Sink in
    let before = lent (sink.written c.args.out.now) (sink.faults c.args.out.now) (door.visible c.args.door.now)
    (door.faults c.args.door.now) (door.dial_faults c.args.door.now) (door.link_faults c.args.door.now) in
    let after = lent (sink.written c.deliver_page.new.out) (sink.faults c.deliver_page.new.out)
    (door.visible c.fetch_page.new.door) (door.faults c.fetch_page.new.door)
    (door.dial_faults c.fetch_page.new.door) (door.link_faults c.fetch_page.new.door) in
    let delivers = rw (c.list_of.ensures, c.deref.ensures.value) at c.deliver_page.ensures.delivers in
    takes (views_of link.left link.written link.faults) (plain_call c.args.call.now) c.args.offset before after
    c.in-Ok.body.items c.deliver_page.result (c.in-Ok.ensures.fetches _ _ _ _) delivers

pub returns-in-Ok-clause-counts : goal.returns-in-Ok-clause-counts
returns-in-Ok-clause-counts g c = record {
  next = c.in-Ok.ensures.next;
  out = c.deliver_page.ensures.count;
  dials = c.in-Ok.ensures.dials;
  links = c.in-Ok.ensures.links;
}

pub returns-in-Err-clause-takes : goal.returns-in-Err-clause-takes
returns-in-Err-clause-takes g c =
    let link = g.D.Conn.Link in
    let door = g.D.Door in
    let sink = g.O.Sink in
    let before = lent (sink.written c.args.out.now) (sink.faults c.args.out.now) (door.visible c.args.door.now)
    (door.faults c.args.door.now) (door.dial_faults c.args.door.now) (door.link_faults c.args.door.now) in
    let after = lent (sink.written c.args.out.now) (sink.faults c.args.out.now)
    (door.visible c.fetch_page.new.door) (door.faults c.fetch_page.new.door)
    (door.dial_faults c.fetch_page.new.door) (door.link_faults c.fetch_page.new.door) in
    takes_none (views_of link.left link.written link.faults) (plain_call c.args.call.now) c.args.offset before after
    c.in-Err.refusal (c.in-Err.ensures.fetches _ _ _ _) (record { out = refl; out_faults = refl })

pub returns-in-Err-clause-counts : goal.returns-in-Err-clause-counts
returns-in-Err-clause-counts g c = record {
  next = c.in-Err.ensures.next;
  out = stays _;
  dials = c.in-Err.ensures.dials;
  links = c.in-Err.ensures.links;
}
