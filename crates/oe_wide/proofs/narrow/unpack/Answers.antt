use Rattle.std.proofs.Common.{w64, of_z, ap}
use Rattle.oe_wide.proofs.NineLemmas.{IsSmallCell, small_from_nine}
use Rattle.oe_wide.proofs.narrow.unpack.Goals as goal

pub returns-then-num-ne0-clause-complete : goal.returns-then-num-ne0-clause-complete
returns-then-num-ne0-clause-complete c cell h =
    let small : IsSmallCell c.args.tag c.args.num cell = small_from_nine c.args.tag c.args.num cell c.ranges.num c.if-tag-eq5.false h in
    absurd (c.if-num-ne0.true (ap (of_z w64) small.num_is))

pub returns-else-num-ne0-clause-complete : goal.returns-else-num-ne0-clause-complete
returns-else-num-ne0-clause-complete c cell h =
    c.of_tag.ensures.complete cell (small_from_nine c.args.tag c.args.num cell c.ranges.num c.if-tag-eq5.false h).one
