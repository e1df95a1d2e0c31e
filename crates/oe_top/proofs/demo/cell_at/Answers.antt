use Rattle.std.proofs.Common.{arith, rules}
use Rattle.oe_top.proofs.Demos.{too_short, unread}
use Rattle.oe_top.proofs.demo.cell_at.Goals as goal

pub returns-in-None-clause-damage : goal.returns-in-None-clause-damage
returns-in-None-clause-damage g c = (
  unread (g.P.Store.bytes c.args.spool.now) c.args.count c.args.number c.fill_at.new.into c.requires.stored c.if-number-count.false
      (search rules) (c.in-Ok-true.ensures.held c.in-Ok-true.field-0-test) c.in-None.ensures.round_trip,
  omega arith,
  c.if-number-count.false,
)

pub returns-in-Ok-false-clause-damage : goal.returns-in-Ok-false-clause-damage
returns-in-Ok-false-clause-damage g c = (
  too_short (g.P.Store.bytes c.args.spool.now) c.args.count c.args.number c.in-Ok-false.field-0 c.requires.stored
      c.if-number-count.false c.in-Ok-false.field-0-test c.in-Ok-false.ensures.whole,
  omega arith,
  c.if-number-count.false,
)
