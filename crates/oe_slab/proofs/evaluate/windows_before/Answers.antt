use Rattle.std.proofs.Common.{◌≡◌, ◌<◌, length}
use Rattle.oe_graph.specs.Printed.{node_count}
use Rattle.oe_plan.specs.Figures.{shape_of_node}
use Rattle.oe_plan.specs.Schedules.{part_of}
use Rattle.oe_plan.specs.Windows.{AreWindows, IsOrderOf}
use Rattle.oe_window.specs.Chunks.{FitsSides, tiling_of}
use Rattle.oe_window.specs.Windows.{Holds, whole_window}
use Rattle.oe_window.specs.declared.grid.ChunkSize.{ChunkSize}
use Rattle.oe_slab.proofs.ScheduleLemmas.{last_below, order_before}
use Rattle.oe_slab.proofs.StepLemmas.{as_is, as_read}
use Rattle.oe_slab.proofs.evaluate.windows_before.Goals as goal

pub windows_of-requires-clause-order : goal.windows_of-requires-clause-order
windows_of-requires-clause-order c =
    let p = c.args.plan.now in
    as_read (λ g s. IsOrderOf (part_of g s) s.order) p.graph c.checked.result.now p.before c.before-2.result.now c.checked.ensures.value c.before-2.ensures.value
    (order_before p.graph p.size p.fold p.whole p.before p.behind c.before-2.ensures.valid.schedules)

pub windows_of-requires-clause-last : goal.windows_of-requires-clause-last
windows_of-requires-clause-last c =
    let p = c.args.plan.now in
    let valid = c.before-2.ensures.valid in
    as_read (λ g s. s.last < node_count g.nodes) p.graph c.checked.result.now p.before c.before-2.result.now c.checked.ensures.value c.before-2.ensures.value
    (last_below p.graph valid.faultless p.fold valid.cut p.before valid.schedules.before_last)

pub windows_of-requires-clause-each : goal.windows_of-requires-clause-each
windows_of-requires-clause-each c =
    let p = c.args.plan.now in
    as_read (λ g s. length c.args.windows.now ≡ length s.order.steps) p.graph c.checked.result.now p.before c.before-2.result.now c.checked.ensures.value c.before-2.ensures.value
    c.requires.each

pub windows_of-requires-clause-within : goal.windows_of-requires-clause-within
windows_of-requires-clause-within c =
    let p = c.args.plan.now in
    as_read (λ g s. Holds (whole_window (shape_of_node g s.last)) c.args.chunk.now) p.graph c.checked.result.now p.before c.before-2.result.now c.checked.ensures.value c.before-2.ensures.value
    c.requires.within

pub returns : goal.returns
returns c =
    let p = c.args.plan.now in
    as_is (λ g s. (size : ChunkSize) → FitsSides (tiling_of (shape_of_node g s.last) size) c.args.chunk.now
    → AreWindows (part_of g s) size c.args.chunk.now c.windows_of.new.windows) p.graph c.checked.result.now p.before c.before-2.result.now c.checked.ensures.value c.before-2.ensures.value
    c.windows_of.ensures
