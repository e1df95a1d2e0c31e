use Rattle.std.proofs.Common.{arith}
use Rattle.oe_cell.proofs.HalvingLemmas.{IsGcd-from_odd}
use Rattle.oe_cell.proofs.ShareLemmas.{gcd_some}
use Rattle.oe_cell.proofs.gcd.gcd.Goals as goal

pub returns-clause-gcd : goal.returns-clause-gcd
returns-clause-gcd c =
    IsGcd-from_odd c.args.a c.args.b _ _ _ _ _ _ (omega arith) (omega arith) c.split-x.ensures.odd c.split-y.ensures.odd c.split-x.ensures.value c.split-y.ensures.value c.min.ensures c.odd_gcd.ensures

pub returns-clause-some : goal.returns-clause-some
returns-clause-some c some = gcd_some _ _ _ (returns-clause-gcd c) some
