use Rattle.oe_client.proofs.Deliveries.{whole_is_prefix}
use Rattle.oe_client.specs.Commands.{plain_command}
use Rattle.oe_http.specs.Written.{request_bytes}
use Rattle.oe_client.proofs.call.client_call.Goals as goal

pub returns-in-Ok-clause-prefix : goal.returns-in-Ok-clause-prefix
returns-in-Ok-clause-prefix g c = λ _.
    let request = request_bytes (plain_command c.args.command.now).request c.args.command.now.host in
    let sent = rw c.as_str.ensures at c.in-Ok.ensures.appended in
    rw (c.take_response.ensures.same)
    (whole_is_prefix (g.L.Link.written c.args.link.now) request (g.L.Link.written c.write_request.new.link) sent)
