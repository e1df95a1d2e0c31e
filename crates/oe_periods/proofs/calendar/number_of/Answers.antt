use Rattle.std.proofs.Common.{◌≡◌, rules}
use Rattle.oe_periods.specs.Calendar.{period_number}
use Rattle.oe_periods.specs.declared.calendar.Period.TheVariants.{Month, Year}
use Rattle.oe_periods.proofs.PartLemmas.{all_numbered}
use Rattle.oe_periods.proofs.calendar.number_of.Goals as goal

pub returns-in-Month-clause-within : goal.returns-in-Month-clause-within
returns-in-Month-clause-within c =
    let value : c.month_of.result ≡ period_number Month c.args.instant = search rules in
    rw (c.in-Month.is, value) (all_numbered Month c.args.instant c.requires)

pub returns-in-Year-clause-within : goal.returns-in-Year-clause-within
returns-in-Year-clause-within c =
    let value : c.year_of.result ≡ period_number Year c.args.instant = search rules in
    rw (c.in-Year.is, value) (all_numbered Year c.args.instant c.requires)
