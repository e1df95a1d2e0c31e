use Rattle.oe_periods.proofs.SumLemmas.{decided}
use Rattle.oe_periods.proofs.sums.next.Goals as goal

pub returns-in_default-cell : goal.returns-in_default-cell
returns-in_default-cell c before h = decided c.args.ignore before c.args.cell c.args.sum c.args.mark c.in_default.not-Empty c.in_default-cell.not-Over h
