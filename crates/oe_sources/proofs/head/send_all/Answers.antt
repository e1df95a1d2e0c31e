use Rattle.std.proofs.lemmas.List.{append-nil}
use Rattle.oe_outside.proofs.Streams.{has_sent_then, on_ok_both, appends_from_sends}
use Rattle.oe_sources.proofs.head.send_all.Goals as goal

pub returns : goal.returns
returns g c =
    on_ok_both c.flush.result appends_from_sends c.flush.ensures.empty
    (rw c.requires at (rw append-nil at (has_sent_then c.in_ok-send_dimensions.ensures c.flush.ensures.sent))).sent
