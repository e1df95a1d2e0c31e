use Rattle.std.proofs.Common.{ap, sym, ◌∙◌}
use Rattle.std.specs.Option.{option_map}
use Rattle.oe_jobs.specs.Plain.{plain_book, plain_change}
use Rattle.oe_service.proofs.OpenLemmas.{free_after}
use Rattle.oe_service.proofs.open.reopen_book.Goals as goal

pub returns-in-Ok-Some-clause-free : goal.returns-in-Ok-Some-clause-free
returns-in-Ok-Some-clause-free g c =
    free_after (plain_book c.args.book.now) _ (plain_change c.in-Ok-Some.change) _ c.requires.valid
    (sym (ap (option_map plain_change) c.in-Ok-Some.field-0-is) ∙ c.in-Ok-Some.ensures.change)
    c.install.ensures.book_is
