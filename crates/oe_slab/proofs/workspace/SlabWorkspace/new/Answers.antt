use Rattle.std.proofs.Common.{◌≡◌, ◌∙◌, length, sym, arith}
use Rattle.oe_steps.specs.Buffers.{lists_of}
use Rattle.oe_slab.proofs.WorkspaceLemmas.{held_parts}
use Rattle.oe_slab.proofs.workspace.SlabWorkspace.new.Goals as goal

pub invariant_of-result : goal.invariant_of-result
invariant_of-result c =
    let scratch : length c.in_ok-vec.field-0.items ≡ c.scratch.result =
    omega (arith, c.in_ok-vec.ensures.len, c.in_ok-vec.field-0.ok.0) in
    c.bound-cells.ensures.value
    ∙ sym (held_parts c.args.plan.now
    (record {
      before = lists_of c.in_ok-buffers_of.field-0.items;
      folds = c.in_ok-folds_of.field-0.items;
      behind = lists_of c.in_ok-buffers_of-2.field-0.items;
      scratch = c.in_ok-vec.field-0.items;
      windows = c.in_ok-vec-2.field-0.items;
      windows_before = c.in_ok-vec-3.field-0.items;
      windows_behind = c.in_ok-vec-4.field-0.items;
    }) c.width_before.result c.width_behind.result c.slab.result c.plane-plane.result c.scratch.result
    c.in_ok-buffers_of.ensures c.in_ok-buffers_of-2.ensures c.in_ok-folds_of.ensures scratch
    c.width_before.ensures c.width_behind.ensures c.slab.ensures c.plane-plane.ensures c.scratch.ensures)

pub returns-clause-cells : goal.returns-clause-cells
returns-clause-cells c =
    let scratch : length c.in_ok-vec.field-0.items ≡ c.scratch.result =
    omega (arith, c.in_ok-vec.ensures.len, c.in_ok-vec.field-0.ok.0) in
    held_parts c.args.plan.now
    (record {
      before = lists_of c.in_ok-buffers_of.field-0.items;
      folds = c.in_ok-folds_of.field-0.items;
      behind = lists_of c.in_ok-buffers_of-2.field-0.items;
      scratch = c.in_ok-vec.field-0.items;
      windows = c.in_ok-vec-2.field-0.items;
      windows_before = c.in_ok-vec-3.field-0.items;
      windows_behind = c.in_ok-vec-4.field-0.items;
    }) c.width_before.result c.width_behind.result c.slab.result c.plane-plane.result c.scratch.result
    c.in_ok-buffers_of.ensures c.in_ok-buffers_of-2.ensures c.in_ok-folds_of.ensures scratch
    c.width_before.ensures c.width_behind.ensures c.slab.ensures c.plane-plane.ensures c.scratch.ensures
