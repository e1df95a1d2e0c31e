use Rattle.std.proofs.Common.{◌/◌, pos, ap}
use Rattle.std.proofs.Math.Nat.{div-mul_cancel}
use Rattle.oe_cell.proofs.ShareLemmas.{Expands-one_left, Expands-one_right, Expands-gcd, gcd_le}
use Rattle.oe_cell.proofs.gcd.share.Goals as goal
use Rattle.oe_cell.proofs.gcd.share.Goals.{then-b-eq1-via-then-b-eq1, then-b-eq1-via-else-b-eq1+then-d-eq1}

pub returns-then-b-eq1-clause-parts : goal.returns-then-b-eq1-clause-parts
returns-then-b-eq1-clause-parts c =
    elim c.then-b-eq1.branch [
      | then-b-eq1-via-then-b-eq1 w ↦ Expands-one_left c.args.b c.args.d w.if-b-eq1.true
      | then-b-eq1-via-else-b-eq1+then-d-eq1 w ↦ Expands-one_right (pos c.args.b) c.args.d w.if-d-eq1.true
    ]

pub returns-clause-parts : goal.returns-clause-parts
returns-clause-parts c =
    Expands-gcd (pos c.args.b) (pos (c.args.b / c.gcd-common.result)) c.args.d c.gcd-common.result c.requires c.gcd-common.ensures.gcd
    (ap pos (div-mul_cancel c.gcd-common.result c.gcd-common.ensures.gcd.0))

pub returns-clause-common : goal.returns-clause-common
returns-clause-common c = gcd_le c.args.b c.args.d c.gcd-common.result c.gcd-common.ensures.gcd c.requires
