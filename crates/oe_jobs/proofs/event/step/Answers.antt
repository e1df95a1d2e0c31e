use Rattle.std.proofs.Common.{◌≡◌, ℤ, Some, IfOk, FitsSigned, w64, to_z, of_z, rules, subst}
use Rattle.std.proofs.lemmas.Int.{to_z-of_z}
use Rattle.oe_dims.specs.Instant.{IsInstant}
use Rattle.oe_jobs.specs.Changes.{changed}
use Rattle.oe_jobs.specs.Events.{event_of, moved_book, step}
use Rattle.oe_jobs.specs.Plain.{plain_book, plain_change}
use Rattle.oe_jobs.specs.Valid.{IsBook, IsEvent}
use Rattle.oe_jobs.specs.declared.change.Change.{Change}
use Rattle.oe_jobs.proofs.KeepLemmas.{if_ok, step_keeps}
use Rattle.oe_jobs.proofs.LineLemmas.{change_is_line}
use Rattle.oe_jobs.proofs.event.step.Goals as goal

-- a moment that was handed on is the moment
at_now : (now : ℤ) (P : ℤ → Type 0) → FitsSigned w64 now → P (to_z w64 (of_z w64 now)) → P now
at_now now P fits p = subst P (to_z-of_z w64 now fits) p

pub returns-clause-line : goal.returns-clause-line
returns-clause-line c =
    let book = plain_book c.args.book.now in
    if_ok (λ (x : Change). Some (plain_change x) ≡ step book c.args.job.now c.args.event c.args.now)
    (λ (x : Change). changed book (plain_change x) ≡ moved_book book c.args.job.now (event_of c.args.event c.args.now))
    c.change_by.result
    (λ x is_step. change_is_line book c.args.job.now c.args.event c.args.now (plain_change x) c.requires is_step)
    (at_now c.args.now (λ (n : ℤ). IfOk c.change_by.result (λ (x : Change). Some (plain_change x) ≡ step book c.args.job.now c.args.event n))
    (search rules) c.change_by.ensures.change)

pub returns-clause-valid : goal.returns-clause-valid
returns-clause-valid c =
    let book = plain_book c.args.book.now in
    if_ok (λ (x : Change). Some (plain_change x) ≡ step book c.args.job.now c.args.event c.args.now)
    (λ (x : Change). IsBook book → IsEvent c.args.event → IsInstant c.args.now → IsBook (changed book (plain_change x)))
    c.change_by.result
    (λ x is_step. step_keeps book c.args.job.now c.args.event c.args.now (plain_change x) c.requires is_step)
    (at_now c.args.now (λ (n : ℤ). IfOk c.change_by.result (λ (x : Change). Some (plain_change x) ≡ step book c.args.job.now c.args.event n))
    (search rules) c.change_by.ensures.change)
