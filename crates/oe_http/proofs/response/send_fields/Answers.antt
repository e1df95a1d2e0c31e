use Rattle.std.specs.Option.{option_map}
use Rattle.oe_http.specs.Replies.{further_lines}
use Rattle.oe_outside.proofs.Streams.{has_sent_then, has_stopped, has_stopped_more}
use Rattle.oe_http.proofs.response.send_fields.Goals as goal

pub returns-in_err-send_type-clause-sent : goal.returns-in_err-send_type-clause-sent
returns-in_err-send_type-clause-sent g c =
    let is = c.from_residual.ensures.0 in
    has_stopped_more (further_lines c.args.status (option_map (λ t. t.now) c.args.location) (option_map (λ t. t.now) c.args.identifier) c.args.length) is (has_stopped is c.in_err-send_type.ensures.sent)

pub returns-clause-sent : goal.returns-clause-sent
returns-clause-sent g c = has_sent_then c.in_ok-send_type.ensures.sent c.send_further.ensures.sent
