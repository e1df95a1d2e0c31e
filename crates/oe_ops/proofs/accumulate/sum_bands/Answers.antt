use Rattle.std.proofs.Common.{◌≡◌, ◌≢◌, inl, inr, arith, ◌∙◌}
use Rattle.std.proofs.lemmas.Bool.{cases_lt}
use Rattle.oe_ops.proofs.AccumulateLemmas.{all_sums}
use Rattle.oe_ops.proofs.accumulate.sum_bands.Goals as goal

pub loop-band-preserved : goal.loop-band-preserved
loop-band-preserved c = λ p h lt. elim (cases_lt p.band c.loop-band.band) [
  | inl before ↦ let other : p.band ≢ c.loop-band.band = omega arith in
      c.sum_lines.ensures.others p h other ∙ c.loop-band.invariant p h before
  | inr ge ↦ let same : p.band ≡ c.loop-band.band = omega arith in c.sum_lines.ensures.sums p h same
]

pub returns : goal.returns
returns c =
    all_sums c.args.ignore c.args.slice.now c.args.window.now c.loop-band.out (omega (arith, c.requires.length))
    (λ p h. let before = h.bands.before in c.loop-band.invariant p h (omega arith))
