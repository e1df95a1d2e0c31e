use Rattle.std.proofs.Common.{refl}
use Rattle.oe_dial.proofs.ListLemmas.{makes_one}
use Rattle.oe_dial.proofs.command.make_call.Goals as goal

pub returns-in-ListName : goal.returns-in-ListName
returns-in-ListName g c = rw c.in-ListName.is ((refl, refl), c.list_pages.ensures.pages, c.list_pages.ensures.counts)

pub returns-in_default : goal.returns-in_default
returns-in_default g c = makes_one _ _ _ _ _ _ _ c.in_default.not-ListName c.call_back_end.ensures
