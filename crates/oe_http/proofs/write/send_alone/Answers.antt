use Rattle.oe_outside.proofs.Streams.{has_sent_piece}
use Rattle.oe_http.proofs.Wrote.{hidden, hidden_prefix}
use Rattle.oe_http.proofs.write.send_alone.Goals as goal

pub returns-clause-sent : goal.returns-clause-sent
returns-clause-sent g c = rw c.requires (has_sent_piece c.write.result c.write.ensures.appended (hidden c.write.result) c.write.ensures.prefix (hidden_prefix c.write.result _) c.write.ensures.cause)
