use Rattle.std.proofs.Common.{Err, ap, refl}
use Rattle.oe_dial.proofs.lists.deliver_page.Goals as goal

pub returns-in-Err-Invalid-clause-delivers : goal.returns-in-Err-Invalid-clause-delivers
returns-in-Err-Invalid-clause-delivers g c =
    (c.in-Err-Invalid.ensures.invalid (ap Err c.in-Err-Invalid.field-0-is), refl, refl)
