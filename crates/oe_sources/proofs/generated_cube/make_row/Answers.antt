use Rattle.std.proofs.Common.{◌≡◌, ℕ, ◌%◌, length, ap, ◌∙◌, arith}
use Rattle.oe_sources.proofs.GeneratedLemmas.{row_cells}
use Rattle.oe_sources.proofs.generated_cube.make_row.Goals as goal

pub returns : goal.returns
returns c =
    let kept : length c.make_rests.new.into ≡ length c.args.into.now = c.make_rests.auto.into in
    row_cells c.args.seed (c.sum_at-first.result % 101) c.args.row.now c.make_rests.new.into c.requires.row (ap (λ (n : ℕ). n % 101) c.sum_at-first.ensures) (kept ∙ c.requires.room) (λ k below. c.make_rests.ensures k (omega (arith, below, kept)))
