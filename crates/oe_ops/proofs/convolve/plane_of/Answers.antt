use Rattle.std.proofs.Common.{rules, ◌≡◌, ◌+◌, ◌-◌, ◌*◌, ◌≤◌, length, get_or, refl, ap, ◌∙◌, arith}
use Rattle.std.proofs.lemmas.List.Edits.{get_or-between}
use Rattle.oe_cell.specs.declared.cell.Cell.TheVariants.{Empty}
use Rattle.oe_window.specs.Windows.{number_in, span_length}
use Rattle.oe_ops.specs.Slices.{at_indices}
use Rattle.oe_ops.proofs.FillLemmas.{length-part}
use Rattle.oe_ops.proofs.PlaneLemmas.{in_plane, plane_end, plane_number}
use Rattle.oe_ops.proofs.convolve.plane_of.Goals as goal

pub overflow_mul-area : goal.overflow_mul-area
overflow_mul-area c =
    let w = c.args.slice.now.window in
    let end = plane_end w c.args.t c.args.band w.y.from w.x.from c.requires.inside in
    rw (c.indices.ensures, c.indices-2.ensures) (omega (arith, end, c.requires.counted))

pub overflow_add-result : goal.overflow_add-result
overflow_add-result c =
    let w = c.args.slice.now.window in
    let end = plane_end w c.args.t c.args.band w.y.from w.x.from c.requires.inside in
    rw (c.indices.ensures, c.indices-2.ensures) (omega (arith, end, c.requires.counted, c.number-first.ensures.value))

pub slice_bounds-result-end : goal.slice_bounds-result-end
slice_bounds-result-end c =
    let w = c.args.slice.now.window in
    let end = plane_end w c.args.t c.args.band w.y.from w.x.from c.requires.inside in
    let area : c.indices.result * c.indices-2.result ≡ span_length c.args.slice.now.window.y * span_length c.args.slice.now.window.x = rw (c.indices.ensures, c.indices-2.ensures) refl in
    let within : c.number-first.result + c.indices.result * c.indices-2.result ≤ length c.args.slice.now.cells.now = omega (arith, end, area, c.requires.counted, c.number-first.ensures.value) in
    search rules

pub returns : goal.returns
returns c =
    let w = c.args.slice.now.window in
    let cells = c.args.slice.now.cells.now in
    let end = plane_end w c.args.t c.args.band w.y.from w.x.from c.requires.inside in
    let area : c.indices.result * c.indices-2.result ≡ span_length w.y * span_length w.x = rw (c.indices.ensures, c.indices-2.ensures) refl in
    let within : c.number-first.result + c.indices.result * c.indices-2.result ≤ length cells = omega (arith, end, area, c.requires.counted, c.number-first.ensures.value) in
    record {
      side_y_is = c.side-2.ensures;
      side_x_is = c.side.ensures;
      from_y = refl;
      to_y = refl;
      from_x = refl;
      to_x = refl;
      counted = length-part cells c.number-first.result (c.indices.result * c.indices-2.result) within ∙ area;
      same = λ row column y0 y1 x0 x1.
          let below = in_plane w row column y0 y1 x0 x1 in
          let number = plane_number w c.args.t c.args.band row column in
          get_or-between cells c.number-first.result (c.number-first.result + c.indices.result * c.indices-2.result) ((row - w.y.from) * (w.x.to - w.x.from) + (column - w.x.from)) Empty (omega (arith, below, area))
          ∙ ap (λ n. get_or cells n Empty) (let q : c.number-first.result + ((row - w.y.from) * (w.x.to - w.x.from) + (column - w.x.from)) ≡ number_in w (at_indices c.args.t c.args.band row column) = omega (arith, number, c.number-first.ensures.value) in q);
    }
