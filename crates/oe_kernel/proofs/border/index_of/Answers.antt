use Rattle.std.proofs.Common.{◌≡◌, ◌∙◌, ap, sym, arith, w64, to_z, of_z}
use Rattle.std.specs.Prelude.{ℤ, pos, ◌<ℤ◌, ◌≤ℤ◌, unsigned_abs, Some, false}
use Rattle.std.proofs.lemmas.Int.{ints, to_z-of_z}
use Rattle.oe_kernel.specs.Borders.{is_on, outside}
use Rattle.oe_kernel.proofs.BorderLemmas.{on_from, off_below, off_above, border_position-on, border_position-off}
use Rattle.oe_kernel.proofs.border.index_of.Goals as goal
use Rattle.oe_kernel.proofs.border.index_of.Goals.{else-at-ge0-via-then-at-ge0+else-at-from, else-at-ge0-via-else-at-ge0}

pub returns-then-at-from-clause-value : goal.returns-then-at-from-clause-value
returns-then-at-from-clause-value c =
    let same : to_z w64 (of_z w64 c.args.at) ≡ c.args.at = to_z-of_z w64 c.args.at c.ranges.at in
    let low : pos 0 ≤ℤ c.args.at = omega (arith, ints) in
    let high : c.args.at <ℤ pos c.args.side = omega (arith, ints) in
    ap (λ (z : ℤ). Some (unsigned_abs z)) same ∙ sym (border_position-on c.args.border.now c.args.at c.args.side (on_from c.args.at c.args.side low high))

pub returns-clause-value : goal.returns-clause-value
returns-clause-value c =
    let same : to_z w64 (of_z w64 c.args.at) ≡ c.args.at = to_z-of_z w64 c.args.at c.ranges.at in
    let off : is_on c.args.at c.args.side ≡ false = elim c.else-at-ge0.branch [
      | else-at-ge0-via-then-at-ge0+else-at-from w ↦ off_above c.args.at c.args.side (omega (arith, ints))
      | else-at-ge0-via-else-at-ge0 w ↦ off_below c.args.at c.args.side (omega (arith, ints))
    ] in
    c.outside_index.ensures.value ∙ ap (λ (z : ℤ). outside c.args.border.now z c.args.side) same ∙ sym (border_position-off c.args.border.now c.args.at c.args.side off)
