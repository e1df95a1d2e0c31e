use Rattle.std.proofs.Common.{inl, inr, refl, arith}
use Rattle.std.proofs.lemmas.Grind.{common_steps}
use Rattle.oe_client.specs.Commands.{plain_command}
use Rattle.oe_dial.proofs.Endings.{answered, stays, taken_same}
use Rattle.oe_dial.specs.Ends.{input_from, lent, views_of}
use Rattle.oe_dial.specs.Words.{plain_call}
use Rattle.oe_dial.proofs.call.call_back_end.Goals as goal

pub returns-in-Ok-command_of : goal.returns-in-Ok-command_of
returns-in-Ok-command_of g c =
    let link = g.D.Conn.Link in
    let door = g.D.Door in
    let sink = g.O.Sink in
    let source = g.I.Source in
    let input = input_from (source.left c.args.input.now) (source.faults c.args.input.now)
    (source.left c.read_input.new.input) (source.faults c.read_input.new.input) in
    let before = lent (sink.written c.args.out.now) (sink.faults c.args.out.now) (door.visible c.args.door.now)
    (door.faults c.args.door.now) (door.dial_faults c.args.door.now) (door.link_faults c.args.door.now) in
    let after = lent (sink.written c.dial_and_call.new.out) (sink.faults c.dial_and_call.new.out)
    (door.visible c.dial_and_call.new.door) (door.faults c.dial_and_call.new.door)
    (door.dial_faults c.dial_and_call.new.door) (door.link_faults c.dial_and_call.new.door) in
    record {
      answer = inr (answered (views_of link.left link.written link.faults) (plain_call c.args.call.now) input before after
          c.in-Ok.body.items (plain_command c.in-Ok-command_of.command).request c.in-Ok-command_of.command.host
          c.dial_and_call.result c.in-Ok.ensures.taken c.in-Ok-command_of.ensures.request_is
          c.in-Ok-command_of.ensures.host_is c.in-Ok-command_of.ensures.writable c.dial_and_call.ensures.ends);
      input_taken = c.in-Ok.ensures.bounded;
      input_count = c.in-Ok.ensures.count;
      counts = c.dial_and_call.ensures.counts;
    }

pub returns-in-Err-command_of : goal.returns-in-Err-command_of
returns-in-Err-command_of g c =
    let source = g.I.Source in
    let input = input_from (source.left c.args.input.now) (source.faults c.args.input.now)
    (source.left c.read_input.new.input) (source.faults c.read_input.new.input) in
    record {
      answer = inl (
        taken_same c.args.call.now.verb.now.5 input c.in-Ok.body.items c.in-Ok.ensures.taken,
        record { out = refl; out_faults = refl; door = refl; dial_faults = refl; link_faults = refl },
      );
      input_taken = c.in-Ok.ensures.bounded;
      input_count = c.in-Ok.ensures.count;
      counts = record { next = refl; out = stays _; dials = stays _; links = stays _ };
    }

pub dial_and_call-requires-clause-named : goal.dial_and_call-requires-clause-named
dial_and_call-requires-clause-named g c = grind (arith, common_steps) steps 2000000

pub dial_and_call-requires-clause-short : goal.dial_and_call-requires-clause-short
dial_and_call-requires-clause-short g c = grind (arith, common_steps) steps 2000000
