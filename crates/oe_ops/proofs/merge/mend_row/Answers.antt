use Rattle.std.proofs.Common.{◌≡◌, ℕ, ◌+◌, slice_index_or, sym, ap, ◌∙◌, arith}
use Rattle.std.proofs.lemmas.List.{get_or-set_other, get_or_read}
use Rattle.std.proofs.lemmas.List.Edits.{fill_by_more}
use Rattle.oe_cell.specs.declared.cell.Cell.{Cell}
use Rattle.oe_cell.specs.declared.cell.Cell.TheVariants.{Empty}
use Rattle.oe_dims.specs.declared.kind.Kind.TheVariants.{X}
use Rattle.oe_dims.proofs.ShapeLemmas.{extents_of_shape}
use Rattle.oe_ops.specs.Indices.{index_in_argument}
use Rattle.oe_ops.specs.Joins.{where_found}
use Rattle.oe_ops.proofs.MergeLemmas.{where_both}
use Rattle.oe_ops.proofs.merge.mend_row.Goals as goal

pub overflow_cast-k : goal.overflow_cast-k
overflow_cast-k c =
    let extents = extents_of_shape c.args.one.now.shape.now c.requires.valid in
    omega (arith, extents.x, c.requires.inside)

pub loop-k-preserved : goal.loop-k-preserved
loop-k-preserved c =
    let i = λ (k : ℕ). index_in_argument X c.args.one.now.shape.now c.args.one.now.argument.now (c.args.x + k) in
    let j = λ (k : ℕ). index_in_argument X c.args.one.now.shape.now c.args.two.now.argument.now (c.args.x + k) in
    let f : ℕ → Cell = λ k. where_found (i k) (j k) (slice_index_or c.args.ones.now k Empty) (slice_index_or c.args.twos.now k Empty) (slice_index_or c.args.out.now k Empty) in
    let n = c.loop-k.k in
    let here : slice_index_or c.loop-k.out n Empty ≡ slice_index_or c.args.out.now n Empty = c.loop-k.invariant.1 n (omega arith) in
    let value : c.cell_where.result ≡ f n = c.cell_where.ensures
    ∙ ap (λ (a : Cell). where_found (i n) (j n) a c.index-twos-k.result c.index-out-k.result) (get_or_read c.args.ones.now n c.index-ones-k.result (omega arith) c.index-ones-k.is Empty)
    ∙ ap (λ (b : Cell). where_found (i n) (j n) (slice_index_or c.args.ones.now n Empty) b c.index-out-k.result) (get_or_read c.args.twos.now n c.index-twos-k.result (omega arith) c.index-twos-k.is Empty)
    ∙ ap (where_found (i n) (j n) (slice_index_or c.args.ones.now n Empty) (slice_index_or c.args.twos.now n Empty)) (get_or_read c.loop-k.out n c.index-out-k.result (omega arith) c.index-out-k.is Empty ∙ here) in (
      rw value (fill_by_more f c.loop-k.out n Empty (omega arith) c.loop-k.invariant.0),
      λ k lt. get_or-set_other c.loop-k.out n k c.cell_where.result Empty (λ e. omega (arith, e)) ∙ c.loop-k.invariant.1 k (omega arith),
    )

pub overflow_add-x : goal.overflow_add-x
overflow_add-x c =
    let extents = extents_of_shape c.args.one.now.shape.now c.requires.valid in
    omega (arith, extents.x, c.requires.inside)

pub returns-then-all : goal.returns-then-all
returns-then-all c = λ k lt. sym (where_both _ _ _ _ _ (c.requires.all c.if-all.true k lt))
