use Rattle.std.proofs.Common.{ℕ, Ok, subst}
use Rattle.oe_sources.specs.Source.{CountsRead}
use Rattle.oe_sources.proofs.SourceLemmas.{counted_read}
use Rattle.oe_sources.proofs.generated_cube.GeneratedCube.read.Goals as goal

pub returns-clause-read : goal.returns-clause-read
returns-clause-read c =
    counted_read (Ok tt) c.look.ensures (rw c.size.ensures.value at c.count.ensures)
