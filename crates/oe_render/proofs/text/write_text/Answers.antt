use Rattle.std.proofs.lemmas.Result.{on_err_weaker}
use Rattle.oe_outside.proofs.Streams.{on_ok_both, appends_from_sends, adds_from_sends, prefix_from_stops, some_from_stops}
use Rattle.oe_render.proofs.text.write_text.Goals as goal

pub returns-clause-text : goal.returns-clause-text
returns-clause-text g c =
    on_ok_both c.send_text.result appends_from_sends c.send_text.ensures.empty (rw c.requires.empty at c.send_text.ensures.sent).sent

pub returns-clause-prefix : goal.returns-clause-prefix
returns-clause-prefix g c =
    on_err_weaker c.send_text.result prefix_from_stops (rw c.requires.empty at c.send_text.ensures.sent).stopped

pub returns-clause-counted : goal.returns-clause-counted
returns-clause-counted g c =
    on_ok_both c.send_text.result adds_from_sends c.send_text.ensures.empty (rw c.requires.empty at c.send_text.ensures.sent).sent

pub returns-clause-counted_prefix : goal.returns-clause-counted_prefix
returns-clause-counted_prefix g c =
    on_err_weaker c.send_text.result some_from_stops (rw c.requires.empty at c.send_text.ensures.sent).stopped
