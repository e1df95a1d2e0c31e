use Rattle.oe_periods.proofs.SumLemmas.{first_counts}
use Rattle.oe_periods.proofs.sums.sum_next.Goals as goal

pub returns-in-Empty-sum : goal.returns-in-Empty-sum
returns-in-Empty-sum c before h = first_counts c.args.ignore before c.args.cell c.args.sum c.in_default.not-Empty c.in_default.not-Over c.in-Empty-sum.is h
