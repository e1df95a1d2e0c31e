use Rattle.oe_database.specs.Each.{plain_statement}
use Rattle.oe_database.proofs.Lists.{four_parts}
use Rattle.oe_database.proofs.statements.put_job.Goals as goal

pub returns : goal.returns
returns c =
    four_parts plain_statement _ _ _ _ _ _ _ _ _ _ _ _ c.in_ok-statements.ensures.items c.in_ok-push.ensures.items
    c.in_ok-push-2.ensures.items c.in_ok-put_assets.ensures c.in_ok-push-3.ensures.items
    c.in_ok-put_entry.ensures c.in_ok-of_number.ensures c.in_ok-of_number-2.ensures
