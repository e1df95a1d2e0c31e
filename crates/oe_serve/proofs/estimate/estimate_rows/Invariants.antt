use Rattle.std.proofs.Common.{◌≡◌, map, take}
use Rattle.oe_serve.specs.Answers.{row_of}
use Rattle.oe_serve.proofs.estimate.estimate_rows.Given as goal

abbrev pub invariant-loop-graph : goal.invariant-loop-graph
invariant-loop-graph l = l.rows.items ≡ map (row_of l.sizes.0 l.sizes.1) (take l.graph-index l.graphs)
