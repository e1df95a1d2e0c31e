use Rattle.std.proofs.Common.{refl}
use Rattle.oe_dims.proofs.instant.text_after.Goals as goal

pub returns : goal.returns
returns c =
    rw (c.tens.ensures, c.ones.ensures, c.tens-2.ensures, c.ones-2.ensures, c.tens-3.ensures, c.ones-3.ensures, c.tens-4.ensures, c.ones-4.ensures, c.tens-5.ensures, c.ones-5.ensures, c.tens-6.ensures, c.ones-6.ensures, c.tens-7.ensures, c.ones-7.ensures, c.civil_date_after-date.ensures.year, c.civil_date_after-date.ensures.month, c.civil_date_after-date.ensures.day) refl
