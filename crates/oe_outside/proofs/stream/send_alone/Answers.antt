use Rattle.oe_outside.proofs.Streams.{has_sent_piece}
use Rattle.oe_outside.proofs.stream.send_alone.Goals as goal

pub returns : goal.returns
returns g c = rw c.requires (has_sent_piece c.write.result c.write.ensures.appended c.write.ensures.counted c.write.ensures.prefix c.write.ensures.counted_prefix c.write.ensures.cause)
