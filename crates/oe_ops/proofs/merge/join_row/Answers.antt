use Rattle.std.proofs.Common.{ℕ, ◌+◌, slice_index_or, ap, ◌∙◌, arith, Some}
use Rattle.std.specs.Option.{option_map, unwrap_or}
use Rattle.oe_cell.specs.declared.cell.Cell.{Cell}
use Rattle.oe_cell.specs.declared.cell.Cell.TheVariants.{Empty}
use Rattle.oe_dims.specs.declared.kind.Kind.TheVariants.{X}
use Rattle.oe_meanings.specs.Meaning.{joined}
use Rattle.oe_ops.specs.Indices.{index_in_argument, position_on}
use Rattle.oe_ops.specs.Joins.{where_found}
use Rattle.oe_ops.specs.Slices.{cell_of}
use Rattle.oe_ops.proofs.MergeLemmas.{joined_where, pairs_taken, row_fits}
use Rattle.oe_ops.proofs.merge.join_row.Goals as goal

pub resolve_row-requires-clause-takes : goal.resolve_row-requires-clause-takes
resolve_row-requires-clause-takes c =
    let one = c.args.one.now in
    let two = c.args.two.now in
    pairs_taken c.args.resolver.now one.slice.cells.now two.slice.cells.now _ _
    (λ k all. row_fits k one.slice c.args.rows.0 (λ i. index_in_argument X one.shape.now one.argument.now (c.args.x + i)) _ (λ i lt. c.found_on-has_ones.ensures.value i (omega arith)) all)
    (λ k all. row_fits k two.slice c.args.rows.1 (λ i. index_in_argument X one.shape.now two.argument.now (c.args.x + i)) _ (λ i lt. c.found_on-has_twos.ensures.value i (omega arith)) all)
    c.requires.takes

pub returns : goal.returns
returns c = λ k lt.
    let one = c.args.one.now in
    let two = c.args.two.now in
    let r = c.args.resolver.now in
    let f : ℕ → Cell = λ i. cell_of one.slice (position_on c.args.rows.0 i) in
    let g : ℕ → Cell = λ i. cell_of two.slice (position_on c.args.rows.1 i) in
    let i = index_in_argument X one.shape.now one.argument.now (c.args.x + k) in
    let j = index_in_argument X one.shape.now two.argument.now (c.args.x + k) in
    let a : Cell = slice_index_or c.found_on-has_ones.new.out k Empty in
    let b : Cell = slice_index_or c.found_on-has_twos.new.out k Empty in
    c.mend_row.ensures k (omega arith)
    ∙ ap (where_found i j a b) (c.resolve_row.ensures k (omega arith))
    ∙ ap (λ (v : Cell). where_found i j v b (joined r (Some v) (Some b))) (c.found_on-has_ones.ensures.value k (omega arith))
    ∙ ap (λ (v : Cell). where_found i j (unwrap_or (option_map f i) Empty) v (joined r (Some (unwrap_or (option_map f i) Empty)) (Some v))) (c.found_on-has_twos.ensures.value k (omega arith))
    ∙ joined_where r f g i j
