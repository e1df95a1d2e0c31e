use Rattle.std.proofs.Common.{◌≡◌, length}
use Rattle.oe_order.specs.Graph.{graph_of}
use Rattle.oe_resolve.proofs.CycleLemmas.{LeadBack}
use Rattle.oe_resolve.proofs.cycle.cyclic_marks.Given as goal

abbrev pub invariant-loop-index : goal.invariant-loop-index
invariant-loop-index l = (length l.marks.items ≡ l.index) × LeadBack (graph_of l.links) l.marks.items
