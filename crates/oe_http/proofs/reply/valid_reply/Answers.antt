use Rattle.std.proofs.Common.{◌<◌, arith}
use Rattle.oe_http.proofs.ReplyHeads.{malformed_reply_length, malformed_reply_status}
use Rattle.oe_http.proofs.reply.valid_reply.Goals as goal

pub returns-in_default-clause-refused : goal.returns-in_default-clause-refused
returns-in_default-clause-refused c = malformed_reply_length c.requires.spans c.in_default.ensures.none

pub returns-then-status-lt100-clause-refused : goal.returns-then-status-lt100-clause-refused
returns-then-status-lt100-clause-refused c =
    let low : c.args.status < 100 = omega (arith, c.if-status-lt100.true) in malformed_reply_status c.requires.spans low
