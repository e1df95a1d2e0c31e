use Rattle.std.proofs.Common.{◌≡◌, ◌≤◌, ◌∙◌, ◌+◌, ◌-◌, ℕ, ap, sym, arith, rules, length, get_or}
use Rattle.std.specs.Prelude.{Option, Some}
use Rattle.oe_cell.specs.declared.cell.Cell.TheVariants.{Empty}
use Rattle.oe_kernel.specs.Borders.{border_position}
use Rattle.oe_kernel.specs.Convolution.{pixel_number, reach}
use Rattle.oe_kernel.specs.Kernels.{radius_of}
use Rattle.oe_kernel.specs.Rows.{pixel_in}
use Rattle.oe_kernel.proofs.WindowLemmas.{covered_inside, get_or-slice_range, pixel_position}
use Rattle.oe_kernel.proofs.pixels.unpack_columns.Goals as goal

pub overflow_sub-first-2 : goal.overflow_sub-first-2
overflow_sub-first-2 c =
    (covered_inside c.args.border.now c.args.x c.args.size c.args.count c.args.side c.args.from (c.args.from + length c.args.cells.now) c.requires.some (omega arith) (omega arith) c.requires.pixels.covered).0

pub slice_bounds-unpack-end : goal.slice_bounds-unpack-end
slice_bounds-unpack-end c =
    let held = covered_inside c.args.border.now c.args.x c.args.size c.args.count c.args.side c.args.from (c.args.from + length c.args.cells.now) c.requires.some (omega arith) (omega arith) c.requires.pixels.covered in
    let start : c.args.from ≤ c.args.x - radius_of c.args.size = held.0 in
    let end : c.args.x - radius_of c.args.size + c.args.count ≤ c.args.from + length c.args.cells.now = held.1 in
    let fits : c.args.x - radius_of c.args.size - c.args.from + c.args.count ≤ length c.args.cells.now = omega arith in
    search rules

pub returns-clause-value : goal.returns-clause-value
returns-clause-value c = λ yes t h.
    let held = covered_inside c.args.border.now c.args.x c.args.size c.args.count c.args.side c.args.from (c.args.from + length c.args.cells.now) c.requires.some (omega arith) (omega arith) c.requires.pixels.covered in
    let start : c.args.from ≤ c.args.x - radius_of c.args.size = held.0 in
    let first : ℕ = c.args.x - radius_of c.args.size - c.args.from in
    let position : border_position c.args.border.now (reach c.args.x t c.args.size) c.args.side ≡ Some (c.args.x - radius_of c.args.size + t) = pixel_position c.args.border.now c.args.x t c.args.size c.args.side (omega arith) (omega arith) in
    let index : first + t ≡ c.args.x - radius_of c.args.size + t - c.args.from = omega arith in
    ap (λ (o : Option ℕ). pixel_in c.args.border.now c.args.replace c.args.cells.now c.args.from o) position
    ∙ ap (λ (n : ℕ). pixel_number c.args.replace (get_or c.args.cells.now n Empty)) (sym index)
    ∙ ap (pixel_number c.args.replace) (sym (get_or-slice_range c.args.cells.now first (first + c.args.count) t Empty (omega arith)))
    ∙ c.unpack.ensures.value yes t (search rules)
