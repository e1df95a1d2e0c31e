use Rattle.std.proofs.Common.{rules, ◌≤◌, length, get_or, ◌+◌, ap, ◌∙◌, arith}
use Rattle.std.proofs.lemmas.List.Edits.{get_or-between}
use Rattle.oe_cell.specs.declared.cell.Cell.TheVariants.{Empty}
use Rattle.oe_ops.specs.Slices.{at_indices}
use Rattle.oe_ops.proofs.NumberLemmas.{row_ends, row_reads}
use Rattle.oe_ops.proofs.slice.row_of.Goals as goal

pub overflow_add-result : goal.overflow_add-result
overflow_add-result c =
    let ends = row_ends c.args.slice.now (at_indices c.args.t c.args.band c.args.y c.args.x) c.args.count c.requires.some c.requires.counted c.requires.inside in
    let within : c.number-first.result + c.args.count ≤ length c.args.slice.now.cells.now = omega (arith, c.number-first.ensures.value) in
    search rules

pub slice_bounds-result-end : goal.slice_bounds-result-end
slice_bounds-result-end c =
    let ends = row_ends c.args.slice.now (at_indices c.args.t c.args.band c.args.y c.args.x) c.args.count c.requires.some c.requires.counted c.requires.inside in
    let within : c.number-first.result + c.args.count ≤ length c.args.slice.now.cells.now = omega (arith, c.number-first.ensures.value) in
    search rules

pub returns-clause-value : goal.returns-clause-value
returns-clause-value c = λ i h.
    get_or-between c.args.slice.now.cells.now c.number-first.result (c.number-first.result + c.args.count) i Empty (omega arith)
    ∙ ap (λ n. get_or c.args.slice.now.cells.now (n + i) Empty) c.number-first.ensures.value
    ∙ row_reads c.args.slice.now (at_indices c.args.t c.args.band c.args.y c.args.x) c.args.count i c.requires.some c.requires.inside h
