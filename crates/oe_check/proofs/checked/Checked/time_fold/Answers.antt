use Rattle.std.proofs.Common.{sym, ap, ◌∙◌}
use Rattle.std.specs.Option.{option_and_then}
use Rattle.oe_check.specs.Reach.{time_fold}
use Rattle.oe_check.proofs.checked.Checked.time_fold.Goals as goal

pub returns : goal.returns
returns c = c.time_fold.ensures ∙ sym (ap (option_and_then time_fold) c.operation.ensures)
