use Rattle.std.proofs.Common.{◌≡◌, length, take}
use Rattle.oe_order.specs.Graph.{graph_of}
use Rattle.oe_slab.proofs.links.copy_all.Given as goal

-- the links so far
abbrev pub invariant-loop-link : goal.invariant-loop-link
invariant-loop-link l = (graph_of l.copies.items ≡ graph_of (take l.link-index l.links)) × (length l.copies.items ≡ l.link-index)
