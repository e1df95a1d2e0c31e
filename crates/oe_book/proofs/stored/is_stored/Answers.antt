use Rattle.std.proofs.lemmas.Result.{IfOk-weaker}
use Rattle.oe_graph.specs.Plain.{plain_stored}
use Rattle.oe_book.proofs.JobLemmas.{fails, never, stored_is, turned}
use Rattle.oe_book.proofs.stored.is_stored.Goals as goal

pub returns-then-not-is_short : goal.returns-then-not-is_short
returns-then-not-is_short c = never (λ is. fails _ _ c.if-not-is_short.true c.is_short.ensures is.short)

pub returns : goal.returns
returns c =
    let process = plain_stored c.args.process.now in
    let short = c.is_short.ensures.0 c.if-not-is_short.false in
    IfOk-weaker c.reads_back.result _ _
    (λ told is. turned told (stored_is process short) (λ s. s.reads) is) c.reads_back.ensures
