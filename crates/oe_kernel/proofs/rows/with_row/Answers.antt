use Rattle.std.proofs.Common.{◌≤◌, ◌+◌, ◌-◌, ◌∙◌, refl, arith, length, rules}
use Rattle.oe_kernel.specs.Kernels.{radius_of}
use Rattle.oe_kernel.specs.Rows.{in_row}
use Rattle.oe_kernel.specs.Totals.{total_of}
use Rattle.oe_kernel.proofs.SumLemmas.{row_added-same}
use Rattle.oe_kernel.proofs.WindowLemmas.{held_inside, beside_is_in_row}
use Rattle.oe_kernel.proofs.rows.with_row.Goals as goal

pub overflow_sub-first-2 : goal.overflow_sub-first-2
overflow_sub-first-2 c =
    (held_inside c.args.border.now c.args.x (length c.args.values.now) c.args.side c.args.from (c.args.from + length c.args.pixels.now) c.requires.window.some (omega arith) (omega arith) c.requires.window.x_in c.requires.held).0

pub slice_bounds-with_slice-end : goal.slice_bounds-with_slice-end
slice_bounds-with_slice-end c =
    let held = held_inside c.args.border.now c.args.x (length c.args.values.now) c.args.side c.args.from (c.args.from + length c.args.pixels.now) c.requires.window.some (omega arith) (omega arith) c.requires.window.x_in c.requires.held in
    let start : c.args.from ≤ c.args.x - radius_of (length c.args.values.now) = held.0 in
    let end : c.args.x - radius_of (length c.args.values.now) + length c.args.values.now ≤ c.args.from + length c.args.pixels.now = held.1 in
    let fits : c.args.x - radius_of (length c.args.values.now) - c.args.from + length c.args.values.now ≤ length c.args.pixels.now = omega arith in
    search rules

pub returns : goal.returns
returns c =
    let held = held_inside c.args.border.now c.args.x (length c.args.values.now) c.args.side c.args.from (c.args.from + length c.args.pixels.now) c.requires.window.some (omega arith) (omega arith) c.requires.window.x_in c.requires.held in
    c.with_slice.ensures ∙ row_added-same _ (in_row c.args.values.now c.args.border.now c.args.replace c.args.pixels.now c.args.from c.args.side c.args.x) (length c.args.values.now) (total_of c.args.total) (λ j place. beside_is_in_row c.args.values.now c.args.border.now c.args.replace c.args.pixels.now _ c.args.from c.args.side c.args.x j (omega arith) (omega arith) c.requires.window.x_in held.0 refl place)
