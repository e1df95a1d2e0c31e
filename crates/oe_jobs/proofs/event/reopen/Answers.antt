use Rattle.std.proofs.Common.{◌≡◌, Option, IfSome, sym, subst}
use Rattle.std.specs.Option.{option_map}
use Rattle.oe_jobs.specs.Changes.{changed}
use Rattle.oe_jobs.specs.Events.{reopen}
use Rattle.oe_jobs.specs.Plain.{PlainChange, plain_book, plain_change}
use Rattle.oe_jobs.specs.Valid.{IsBook}
use Rattle.oe_jobs.specs.declared.change.Change.{Change}
use Rattle.oe_jobs.proofs.DecideLemmas.{if_shown, reopen_keeps}
use Rattle.oe_jobs.proofs.KeepLemmas.{if_ok}
use Rattle.oe_jobs.proofs.event.reopen.Goals as goal

pub returns-clause-valid : goal.returns-clause-valid
returns-clause-valid c =
    let book = plain_book c.args.book.now in
    if_ok (λ (x : Option Change). option_map plain_change x ≡ reopen book)
    (λ (x : Option Change). IsBook book → IfSome x (λ y. IsBook (changed book (plain_change y))))
    c.reopen_running.result
    (λ x is valid. if_shown plain_change (λ y. IsBook (changed book y)) x
    (subst (λ (o : Option PlainChange). IfSome o (λ y. IsBook (changed book y))) (sym is) (reopen_keeps book valid)))
    c.reopen_running.ensures.change
