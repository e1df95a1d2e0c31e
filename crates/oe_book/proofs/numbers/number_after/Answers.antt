use Rattle.std.proofs.Common.{arith, inl, inr}
use Rattle.oe_book.proofs.CountLemmas.{other_number}
use Rattle.oe_book.proofs.numbers.number_after.Goals as goal

pub returns-then-number-low : goal.returns-then-number-low
returns-then-number-low c =
    other_number c.args.job.now.id c.in-Some.number c.args.low c.args.next c.in-Some.ensures (omega (arith, c.ranges.next.fits))
    (inl c.if-number-low.true)

pub returns-then-number-next : goal.returns-then-number-next
returns-then-number-next c =
    other_number c.args.job.now.id c.in-Some.number c.args.low c.args.next c.in-Some.ensures (omega (arith, c.ranges.next.fits))
    (inr c.if-number-next.true)
