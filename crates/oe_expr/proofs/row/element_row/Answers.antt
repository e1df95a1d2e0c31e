use Rattle.std.proofs.Common.{◌≡◌, ℕ, ◌+◌, ◌*◌, sym, ap, ◌∙◌, arith, get_or}
use Rattle.oe_cell.specs.declared.cell.Cell.TheVariants.{Empty}
use Rattle.oe_expr.proofs.StripLemmas.{get_or-part, get_or-column, column_past}
use Rattle.oe_expr.proofs.row.element_row.Goals as goal

pub returns-then-index-row-clause-value : goal.returns-then-index-row-clause-value
returns-then-index-row-clause-value c = λ j h.
    let row = c.args.row.now in
    let index : ℕ = c.args.index in
    let at : index * row.stride + c.args.from + j ≡ index * row.stride + (c.args.from + j) = omega arith in
    get_or-part row.cells.now (index * row.stride + c.args.from) c.args.n j h
    ∙ ap (λ (i : ℕ). get_or row.cells.now i Empty) at
    ∙ sym (get_or-column row.cells.now row.stride row.count (c.args.from + j) index c.if-index-row.true)

pub returns-else-index-row-clause-value : goal.returns-else-index-row-clause-value
returns-else-index-row-clause-value c = λ j h.
    let row = c.args.row.now in
    sym (column_past row.cells.now row.stride row.count (c.args.from + j) c.args.index c.if-index-row.false)
