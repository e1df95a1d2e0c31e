use Rattle.oe_client.proofs.Deliveries.{answered, exactly, unread}
use Rattle.oe_client.specs.Calls.{ends}
use Rattle.oe_http.specs.Replies.{plain_response}
use Rattle.std.proofs.Common.{Err, ap, refl}
use Rattle.oe_client.proofs.call.take_response.Goals as goal

pub returns-in-Ok-clause-calls : goal.returns-in-Ok-clause-calls
returns-in-Ok-clause-calls g c =
    let before = ends (g.L.Link.left c.args.link.now) (g.L.Link.faults c.args.link.now) (g.O.Sink.written c.args.out.now) (g.O.Sink.faults c.args.out.now) in
    let after = ends (g.L.Link.left c.read_response.new.link) (g.L.Link.faults c.read_response.new.link) (g.O.Sink.written c.deliver.new.out) (g.O.Sink.faults c.deliver.new.out) in
    let answer = answered before after (plain_response c.in-Ok.response) c.deliver.result c.in-Ok.ensures.form
    c.in-Ok.ensures.response c.deliver.ensures.delivers in
    record {
      answer = answer;
      exact = exactly before after c.deliver.result answer;
      link_count = c.read_response.ensures.cause.count;
      out_count = c.deliver.ensures.count;
    }

pub returns-in-Err-clause-calls : goal.returns-in-Err-clause-calls
returns-in-Err-clause-calls g c =
    let before = ends (g.L.Link.left c.args.link.now) (g.L.Link.faults c.args.link.now) (g.O.Sink.written c.args.out.now) (g.O.Sink.faults c.args.out.now) in
    let after = ends (g.L.Link.left c.read_response.new.link) (g.L.Link.faults c.read_response.new.link) (g.O.Sink.written c.args.out.now) (g.O.Sink.faults c.args.out.now) in
    unread before after c.in-Err.refusal c.fail_of.result c.fail_of.ensures c.in-Err.ensures.refused
    c.in-Err.ensures.cause.count (λ same. c.in-Err.ensures.cause.failed (ap Err same)) (record { out = refl; out_faults = refl })
