use Rattle.std.proofs.Common.{arith, w64}
use Rattle.std.proofs.lemmas.Nat.Bits.{bit_at-trailing_zeros}
use Rattle.oe_cell.proofs.HalvingLemmas.{halved}
use Rattle.oe_cell.proofs.gcd.split.Goals as goal

pub returns-clause-odd : goal.returns-clause-odd
returns-clause-odd c = (bit_at-trailing_zeros w64 c.args.n (omega arith) (omega arith)).1

pub returns-clause-value : goal.returns-clause-value
returns-clause-value c = halved _ c.args.n (bit_at-trailing_zeros w64 c.args.n (omega arith) (omega arith)).2

pub returns-clause-short : goal.returns-clause-short
returns-clause-short c = (bit_at-trailing_zeros w64 c.args.n (omega arith) (omega arith)).0
