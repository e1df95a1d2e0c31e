use Rattle.std.proofs.Common.{◌≡◌, ℤ, IfOk, IfSome, FitsSigned, w64, to_z, of_z, rules, sym, subst}
use Rattle.std.proofs.lemmas.Int.{to_z-of_z}
use Rattle.oe_dims.specs.Instant.{IsInstant}
use Rattle.oe_jobs.specs.Changes.{changed}
use Rattle.oe_jobs.specs.Plain.{PlainVerdict, plain_book, plain_change, plain_command, plain_verdict}
use Rattle.oe_jobs.specs.Valid.{IsBook, IsCommand}
use Rattle.oe_jobs.specs.Verdicts.{decide}
use Rattle.oe_jobs.specs.declared.command.Verdict.{Verdict}
use Rattle.oe_jobs.proofs.DecideLemmas.{decide_keeps, if_shown}
use Rattle.oe_jobs.proofs.KeepLemmas.{if_ok}
use Rattle.oe_jobs.proofs.verdict.decide.Goals as goal

-- a moment that was handed on is the moment
at_now : (now : ℤ) (P : ℤ → Type 0) → FitsSigned w64 now → P (to_z w64 (of_z w64 now)) → P now
at_now now P fits p = subst P (to_z-of_z w64 now fits) p

pub returns-clause-valid : goal.returns-clause-valid
returns-clause-valid c =
    let book = plain_book c.args.book.now in
    let user = c.args.user.now in
    let command = plain_command c.args.command.now in
    if_ok (λ (v : Verdict). plain_verdict v ≡ decide book user command c.args.now)
    (λ (v : Verdict). IsBook book → IsCommand command → IsInstant c.args.now → IfSome v.change (λ y. IsBook (changed book (plain_change y))))
    c.verdict_on.result
    (λ v is valid brings moment. if_shown plain_change (λ y. IsBook (changed book y)) v.change
    (subst (λ (p : PlainVerdict). IfSome p.change (λ y. IsBook (changed book y))) (sym is) (decide_keeps book user command c.args.now valid brings moment)))
    (at_now c.args.now (λ (n : ℤ). IfOk c.verdict_on.result (λ (v : Verdict). plain_verdict v ≡ decide book user command n)) (search rules)
    c.verdict_on.ensures.verdict)
