use Rattle.std.proofs.Common.{subst}
use Rattle.oe_graph.specs.Read.{IsFaultless}
use Rattle.oe_check.specs.Checked.{CheckedGraph}
use Rattle.oe_meanings.specs.Stands.{StandsInGraph}
use Rattle.oe_rows_graphs.proofs.translated.judge_resolved.Goals as goal

pub returns-in-Ok : goal.returns-in-Ok
returns-in-Ok c = subst (λ (k : CheckedGraph). IsFaultless (StandsInGraph k.rows k.nodes)) c.in-Ok.ensures.checked c.in-Ok.ensures.none
