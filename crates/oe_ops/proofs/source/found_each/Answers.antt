use Rattle.std.proofs.Common.{◌≡◌, ℕ, ◌+◌, arith}
use Rattle.std.specs.Option.{option_map, unwrap_or}
use Rattle.std.proofs.lemmas.List.Edits.{fill_by_more}
use Rattle.oe_cell.specs.declared.cell.Cell.{Cell}
use Rattle.oe_cell.specs.declared.cell.Cell.TheVariants.{Empty}
use Rattle.oe_dims.specs.declared.kind.Kind.TheVariants.{X}
use Rattle.oe_ops.specs.Indices.{index_in_argument, position_on}
use Rattle.oe_ops.specs.Slices.{cell_of}
use Rattle.oe_dims.proofs.ShapeLemmas.{extents_of_shape}
use Rattle.oe_ops.proofs.source.found_each.Goals as goal

pub overflow_cast-k : goal.overflow_cast-k
overflow_cast-k c =
    let extents = extents_of_shape c.args.source.now.shape.now c.requires.labels.valid in
    omega (arith, extents.x, c.requires.labels.inside)

pub overflow_add-x : goal.overflow_add-x
overflow_add-x c =
    let extents = extents_of_shape c.args.source.now.shape.now c.requires.labels.valid in
    omega (arith, extents.x, c.requires.labels.inside)

pub loop-k-preserved : goal.loop-k-preserved
loop-k-preserved c =
    let f : ℕ → Cell = λ k. unwrap_or (option_map (λ i. cell_of c.args.source.now.slice (position_on c.args.row i)) (index_in_argument X c.args.source.now.shape.now c.args.source.now.argument.now (c.args.x + k))) Empty in
    let value : c.found_at.result ≡ f c.loop-k.k = c.found_at.ensures in
    rw value (fill_by_more f c.loop-k.out c.loop-k.k Empty (omega arith) c.loop-k.invariant)
