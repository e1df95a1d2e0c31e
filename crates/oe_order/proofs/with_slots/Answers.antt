use Rattle.std.proofs.Common.{◌<◌, length, get_or, arith}
use Rattle.oe_order.specs.Graph.{graph_of}
use Rattle.oe_order.proofs.Evaluations.{IsEvaluationOrder-of}
use Rattle.oe_order.proofs.Graphs.{length-graph_of}
use Rattle.oe_order.proofs.Lists.{contains-at, contains-to}
use Rattle.oe_order.proofs.Reach.{IsInRun-within}
use Rattle.oe_order.proofs.with_slots.Goals as goal

pub invariant_of-result : goal.invariant_of-result
invariant_of-result c =
    let nodes = graph_of c.args.nodes.now in
    let steps = c.args.steps.items in
    let e = c.in_ok-slotting.ensures in
    let size = length-graph_of c.args.nodes.now in
    let slotted = rw c.as_slice.ensures.value at e.slots in
    record {
      each = slotted.each;
      below = slotted.below;
      within = λ i h.
          (let at = (c.requires.listing.members (get_or steps i 0)).0 (contains-to steps (get_or steps i 0) (contains-at steps i 0 h)) in
          let lt : get_or steps i 0 < length nodes = IsInRun-within nodes c.args.last (get_or steps i 0) c.requires.named (omega (arith, size, c.requires.last_named)) at in
          omega (arith, lt, size, e.len));
      found = rw c.as_slice.ensures.value at e.by_node;
    }

pub returns-clause-evaluation : goal.returns-clause-evaluation
returns-clause-evaluation c =
    IsEvaluationOrder-of (graph_of c.args.nodes.now) c.args.last c.args.steps.items c.requires.loads_first c.requires.listing
