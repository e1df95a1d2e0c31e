use Rattle.std.proofs.Common.{◌≡◌, ◌≢◌, inl, inr, arith, ◌∙◌}
use Rattle.std.proofs.lemmas.Bool.{cases_lt}
use Rattle.oe_ops.proofs.accumulate.sum_lines.Goals as goal

pub loop-y-preserved : goal.loop-y-preserved
loop-y-preserved c = record {
  sums = λ p h band lt. elim (cases_lt p.y c.loop-y.y) [
    | inl before ↦ let other : p.y ≢ c.loop-y.y = omega arith in
        c.sum_line.ensures.others p h (inr other) ∙ c.loop-y.invariant.sums p h band before
    | inr ge ↦ let same : p.y ≡ c.loop-y.y = omega arith in c.sum_line.ensures.sums p h band same
  ];
  others = λ p h band. c.sum_line.ensures.others p h (inl band) ∙ c.loop-y.invariant.others p h band;
}

pub returns-clause-sums : goal.returns-clause-sums
returns-clause-sums c = λ p h band. let before = h.y.before in c.loop-y.invariant.sums p h band (omega arith)

pub returns-clause-others : goal.returns-clause-others
returns-clause-others c = λ p h band. c.loop-y.invariant.others p h band
