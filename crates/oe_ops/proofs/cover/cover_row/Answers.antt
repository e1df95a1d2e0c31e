use Rattle.std.proofs.Common.{◌≡◌, ℕ, slice_index_or, ap, ◌∙◌, arith}
use Rattle.std.proofs.lemmas.List.{get_or_default, get_or-set_other}
use Rattle.std.proofs.lemmas.List.{get_or_read}
use Rattle.std.proofs.lemmas.List.Edits.{fill_by_more}
use Rattle.oe_cell.specs.declared.cell.Cell.{Cell}
use Rattle.oe_cell.specs.declared.cell.Cell.TheVariants.{Empty}
use Rattle.oe_meanings.specs.Meaning.{covered_by}
use Rattle.oe_ops.proofs.cover.cover_row.Goals as goal

pub loop-k-preserved : goal.loop-k-preserved
loop-k-preserved c =
    let f : ℕ → Cell = λ k. covered_by c.args.replacement.now (slice_index_or c.args.out.now k Empty) (slice_index_or c.args.cells.now k Empty) in
    let here : slice_index_or c.loop-k.out c.loop-k.k Empty ≡ slice_index_or c.args.out.now c.loop-k.k Empty = c.loop-k.invariant.1 c.loop-k.k (omega arith) in
    let value : c.cover_cell.new.mask ≡ f c.loop-k.k = c.cover_cell.ensures
    ∙ ap (λ (mask : Cell). covered_by c.args.replacement.now mask c.index-cells-k.result) (get_or_default c.loop-k.out c.loop-k.k c.index-out-k.result Empty (omega arith) ∙ here)
    ∙ ap (covered_by c.args.replacement.now (slice_index_or c.args.out.now c.loop-k.k Empty)) (get_or_read c.args.cells.now c.loop-k.k c.index-cells-k.result (omega arith) c.index-cells-k.is Empty) in (
      rw value (fill_by_more f c.loop-k.out c.loop-k.k Empty (omega arith) c.loop-k.invariant.0),
      λ k lt. get_or-set_other c.loop-k.out c.loop-k.k k c.cover_cell.new.mask Empty (λ e. omega (arith, e)) ∙ c.loop-k.invariant.1 k (omega arith),
    )
