use Rattle.std.proofs.Common.{Ok, take}
use Rattle.oe_outside.specs.declared.failed.Failed.{Failed}
use Rattle.oe_outside.specs.Stream.{HasSent}
use Rattle.oe_render.specs.Text.{listed_text, label_texts}
use Rattle.oe_render.proofs.text.send_labels.Given as goal

abbrev pub invariant-loop-index : goal.invariant-loop-index
invariant-loop-index g l =
    HasSent {E = Failed} g.O.Sink.written g.O.Sink.size g.O.Sink.faults l.fn.out l.fn.pending (listed_text (take l.index (label_texts l.shape l.kind))) l.out l.pending (Ok (tt {0}))
