use Rattle.std.proofs.Common.{◌≡◌, ℕ, List, Ok, true, refl, ap, ◌∙◌, subst}
use Rattle.oe_http.specs.Plain.{plain_request}
use Rattle.oe_jobs.specs.Plain.{plain_book, plain_job}
use Rattle.oe_routes.specs.Actions.{plain_action}
use Rattle.oe_routes.specs.Answers as spec
use Rattle.oe_routes.specs.Paths.{id_in}
use Rattle.oe_routes.specs.Scenes.{plain_scene}
use Rattle.oe_routes.specs.declared.table.Operation.TheVariants as ops
use Rattle.oe_routes.proofs.CommandLemmas.{handed_on, queue_refused}
use Rattle.oe_routes.proofs.NamedLemmas.{job_process}
use Rattle.oe_routes.proofs.judged.queue_action.Goals as goal

pub may_queue-requires-clause-process : goal.may_queue-requires-clause-process
may_queue-requires-clause-process c =
    job_process (plain_book c.args.scene.book.now) c.args.user.now c.id_in.result.now (plain_job c.in_ok-job.job.now)
    c.requires.book c.in_ok-job.ensures

pub returns-in_err-may_queue-clause-answer : goal.returns-in_err-may_queue-clause-answer
returns-in_err-may_queue-clause-answer c = λ f is.
    let s = plain_scene c.args.scene in
    let book = plain_book c.args.scene.book.now in
    let r = plain_request c.args.request.now in
    let job = plain_job c.in_ok-job.job.now in
    let e = c.in_err-may_queue.field-0.0 in
    handed_on (plain_action book) c.from_residual-in_err-may_queue.result e (spec.perform s f c.args.user.now r ops.QueueJob)
    c.from_residual-in_err-may_queue.ensures.1
    (queue_refused s f c.args.user.now r job e
    (subst (λ (i : List ℕ). spec.named_job book c.args.user.now i ≡ Ok job) (c.id_in.ensures ∙ ap id_in c.as_str.ensures)
    c.in_ok-job.ensures)
    (c.in_err-may_queue.ensures f (is.judged refl)))

pub returns-clause-valid : goal.returns-clause-valid
returns-clause-valid c = c.command_action.ensures.valid true
