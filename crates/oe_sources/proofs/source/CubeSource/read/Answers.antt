use Rattle.std.proofs.Common.{ap, is_some, sym, subst}
use Rattle.oe_sources.proofs.SourceLemmas.{counted_read, fault_counted}
use Rattle.oe_sources.specs.Source.{Reads, answer_of}
use Rattle.oe_sources.proofs.source.CubeSource.read.Goals as goal

pub returns : goal.returns
returns g c =
    subst (Reads (g.Self.CubeSource.seen c.args.self.now) c.args.window.now c.look-looked.new.into _) (sym c.split_fault-answer.ensures.answer)
    (counted_read (answer_of c.look-looked.result) c.look-looked.ensures (rw (c.size.ensures.value, ap is_some c.split_fault-answer.ensures.fault, fault_counted c.look-looked.result) at c.count.ensures))
