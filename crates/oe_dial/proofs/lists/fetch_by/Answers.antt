use Rattle.std.proofs.Common.{Err, Ok, arith}
use Rattle.std.proofs.lemmas.Grind.{common_steps}
use Rattle.oe_client.specs.Commands.{plain_command}
use Rattle.oe_dial.proofs.ListLemmas.{asked_by, fetched_none}
use Rattle.oe_dial.specs.Ends.{lent, views_of}
use Rattle.oe_dial.specs.Words.{plain_call}
use Rattle.oe_dial.proofs.lists.fetch_by.Goals as goal

pub returns-in-Ok : goal.returns-in-Ok
returns-in-Ok g c =
    let counts = c.dial_and_call.ensures.counts in
    record {
      fetches = λ out out_after faults faults_after. (
          let link = g.D.Conn.Link in
          let door = g.D.Door in
          let before = lent out faults (door.visible c.args.door.now)
          (door.faults c.args.door.now) (door.dial_faults c.args.door.now) (door.link_faults c.args.door.now) in
          let after = lent out_after faults_after (door.visible c.dial_and_call.new.door) (door.faults c.dial_and_call.new.door)
          (door.dial_faults c.dial_and_call.new.door) (door.link_faults c.dial_and_call.new.door) in
          let ends = rw (c.new-page.ensures.bytes, c.new-page.ensures.faults, c.in-Ok.is) at c.dial_and_call.ensures.ends in
          let asked = asked_by (views_of link.left link.written link.faults) (plain_call c.args.call.now) c.args.offset before after
          (plain_command c.args.command.now).request c.args.command.now.host c.dial_and_call.new.out.bytes.items
          c.dial_and_call.new.out.faults (Ok tt) c.requires.command.request_is c.requires.command.host_is c.requires.command.writable ends in
          rw c.into_bytes.ensures asked);
      next = counts.next;
      dials = counts.dials;
      links = counts.links;
    }

pub returns-in-Err : goal.returns-in-Err
returns-in-Err g c =
    let counts = c.dial_and_call.ensures.counts in
    record {
      fetches = λ out out_after faults faults_after. (
          let link = g.D.Conn.Link in
          let door = g.D.Door in
          let before = lent out faults (door.visible c.args.door.now)
          (door.faults c.args.door.now) (door.dial_faults c.args.door.now) (door.link_faults c.args.door.now) in
          let after = lent out_after faults_after (door.visible c.dial_and_call.new.door) (door.faults c.dial_and_call.new.door)
          (door.dial_faults c.dial_and_call.new.door) (door.link_faults c.dial_and_call.new.door) in
          let ends = rw (c.new-page.ensures.bytes, c.new-page.ensures.faults, c.in-Err.is) at c.dial_and_call.ensures.ends in
          let asked = asked_by (views_of link.left link.written link.faults) (plain_call c.args.call.now) c.args.offset before after
          (plain_command c.args.command.now).request c.args.command.now.host c.dial_and_call.new.out.bytes.items
          c.dial_and_call.new.out.faults (Err c.in-Err.refusal) c.requires.command.request_is c.requires.command.host_is c.requires.command.writable ends in
          rw c.refusal_of_page.ensures (fetched_none (views_of link.left link.written link.faults) (plain_call c.args.call.now)
          c.args.offset before after c.in-Err.refusal c.dial_and_call.new.out.bytes.items asked));
      next = counts.next;
      dials = counts.dials;
      links = counts.links;
    }

pub dial_and_call-requires-clause-named : goal.dial_and_call-requires-clause-named
dial_and_call-requires-clause-named g c = grind (arith, common_steps) steps 2000000

pub dial_and_call-requires-clause-short : goal.dial_and_call-requires-clause-short
dial_and_call-requires-clause-short g c = grind (arith, common_steps) steps 2000000
