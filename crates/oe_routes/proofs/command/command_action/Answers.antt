use Rattle.std.proofs.Common.{ℕ, ℤ, List, sym, subst, ap, ◌∙◌, FitsSigned, rules, w64}
use Rattle.std.specs.Option.{option_map}
use Rattle.std.proofs.lemmas.Int.{to_z-of_z}
use Rattle.oe_jobs.specs.Verdicts.{decide}
use Rattle.oe_dims.specs.Instant.{IsInstant}
use Rattle.oe_jobs.specs.Plain.{plain_book, plain_change, plain_command, plain_verdict}
use Rattle.oe_routes.specs.Actions.{plain_action}
use Rattle.oe_routes.specs.Answers as spec
use Rattle.oe_routes.specs.Rejections.{Rejects}
use Rattle.oe_routes.specs.Scenes.{plain_scene}
use Rattle.oe_routes.proofs.CommandLemmas.{commanded_refused, handed_on, made_by}
use Rattle.oe_routes.proofs.PhraseLemmas.{command_phrase}
use Rattle.oe_routes.proofs.command.command_action.Goals as goal

pub returns-in_err-response-clause-answer : goal.returns-in_err-response-clause-answer
returns-in_err-response-clause-answer c =
    let fits : FitsSigned w64 c.args.scene.moment = search rules in
    let s = plain_scene c.args.scene in
    let command = plain_command c.args.command in
    let e = c.in_err-response.field-0.0 in
    handed_on (plain_action (plain_book c.args.scene.book.now)) c.from_residual-in_err-response.result e
    (spec.commanded s c.args.user.now command) c.from_residual-in_err-response.ensures.1
    (commanded_refused s c.args.user.now command (plain_verdict c.in_ok-change.field-0) e (c.in_ok-change.ensures.verdict
    ∙ ap (λ (now : ℤ). decide s.book c.args.user.now command now) (to_z-of_z w64 c.args.scene.moment fits))
    (subst (λ (b : List ℕ). Rejects e (spec.reply_to b command c.in_ok-change.field-0.outcome)) c.as_str.ensures
    c.in_err-response.ensures))

pub returns-in-Some-clause-valid : goal.returns-in-Some-clause-valid
returns-in-Some-clause-valid c = λ asks.
    let fits : FitsSigned w64 c.args.scene.moment = search rules in
    let book = plain_book c.args.scene.book.now in
    let command = plain_command c.args.command in
    let same = to_z-of_z w64 c.args.scene.moment fits in
    let valid = rw c.in-Some.is at (c.in_ok-change.ensures.valid c.requires.book c.requires.command
    (subst IsInstant (sym same) c.requires.moment)) in (
      command_phrase c.as_str.result.now command c.in_ok-change.field-0.outcome c.in_ok-response.response c.in_ok-response.ensures,
      valid,
      made_by book c.args.user.now command c.args.scene.moment (plain_verdict c.in_ok-change.field-0) (plain_change c.in-Some.change)
          (c.in_ok-change.ensures.verdict ∙ ap (λ (now : ℤ). decide book c.args.user.now command now) same)
          (ap (option_map plain_change) c.in-Some.is),
    )

pub returns-clause-valid : goal.returns-clause-valid
returns-clause-valid c = λ asks.
    command_phrase c.as_str.result.now (plain_command c.args.command) c.in_ok-change.field-0.outcome c.in_ok-response.response
    c.in_ok-response.ensures
