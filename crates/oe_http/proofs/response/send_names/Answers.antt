use Rattle.std.proofs.Common.{codes}
use Rattle.std.specs.Option.{option_map}
use Rattle.oe_http.specs.Replies.{field_line}
use Rattle.oe_outside.proofs.Streams.{has_sent_then, has_stopped, has_stopped_more}
use Rattle.oe_http.proofs.response.send_names.Goals as goal

pub returns-in_err-send_field-clause-sent : goal.returns-in_err-send_field-clause-sent
returns-in_err-send_field-clause-sent g c =
    let is = c.from_residual.ensures.0 in
    has_stopped_more (field_line (codes "OpenEO-Identifier: ") (option_map (λ t. t.now) c.args.identifier)) is (has_stopped is c.in_err-send_field.ensures.sent)

pub returns-clause-sent : goal.returns-clause-sent
returns-clause-sent g c = has_sent_then c.in_ok-send_field.ensures.sent c.send_field-2.ensures.sent
