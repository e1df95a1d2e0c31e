use Rattle.std.proofs.Common.{arith}
use Rattle.jiff_core.proofs.SignedLemmas.{signed_casts}
use Rattle.oe_periods.proofs.calendar.month_of.Goals as goal
use Rattle.oe_dims.proofs.CivilLemmas.{civil_date_is}

pub overflow_sub-result : goal.overflow_sub-result
overflow_sub-result c =
    let is = civil_date_is c.args.days (omega arith) in
    omega (arith, signed_casts, c.date_after-date.ensures.year, is.year)
