use Rattle.std.proofs.Common.{None, true, length}
use Rattle.oe_http.specs.Laws.{json_reply}
use Rattle.oe_http.specs.Replies.{reply_bytes, reply_head}
use Rattle.oe_serve.proofs.Replies.{body_appended, body_prefix, head_prefix}
use Rattle.oe_serve.proofs.links.write_text.Goals as goal

pub returns-in-Ok-clause-appended : goal.returns-in-Ok-clause-appended
returns-in-Ok-clause-appended g c =
    body_appended (g.L.Link.written c.args.link.now) (g.L.Link.written c.write_head.new.link)
    (g.L.Link.written c.write.new.self) (reply_head c.args.status None None true (length c.args.body.now)) c.args.body.now
    (reply_bytes (json_reply c.args.status c.args.body.now))
    (c.head_and_body_are_reply.ensures c.args.status c.args.body.now c.requires.body) c.in-Ok.ensures.appended c.write.result
    c.write.ensures.appended

pub returns-in-Ok-clause-prefix : goal.returns-in-Ok-clause-prefix
returns-in-Ok-clause-prefix g c =
    body_prefix (g.L.Link.written c.args.link.now) (g.L.Link.written c.write_head.new.link)
    (g.L.Link.written c.write.new.self) (reply_head c.args.status None None true (length c.args.body.now)) c.args.body.now
    (reply_bytes (json_reply c.args.status c.args.body.now))
    (c.head_and_body_are_reply.ensures c.args.status c.args.body.now c.requires.body) c.in-Ok.ensures.appended c.write.result
    c.write.ensures.prefix

pub returns-in-Err-clause-prefix : goal.returns-in-Err-clause-prefix
returns-in-Err-clause-prefix g c =
    head_prefix (g.L.Link.written c.args.link.now) (g.L.Link.written c.write_head.new.link)
    (reply_head c.args.status None None true (length c.args.body.now)) c.args.body.now
    (reply_bytes (json_reply c.args.status c.args.body.now))
    (c.head_and_body_are_reply.ensures c.args.status c.args.body.now c.requires.body) c.in-Err.ensures.prefix
