use Rattle.std.proofs.Common.{◌≡◌, ℕ, List, Ok, ap, ◌∙◌, subst}
use Rattle.oe_http.specs.Replies.{plain_response}
use Rattle.oe_jobs.specs.Plain.{plain_book, plain_job}
use Rattle.oe_jobs.specs.declared.job.LogEntry.{LogEntry}
use Rattle.oe_replies.specs.Logs.{logs_data}
use Rattle.serde_json.specs.Written.{compact_text}
use Rattle.oe_routes.specs.Actions.{answer}
use Rattle.oe_routes.specs.Answers as spec
use Rattle.oe_routes.specs.Paths.{id_in}
use Rattle.oe_routes.specs.Queries.{logs_asked}
use Rattle.oe_routes.specs.Rejections.{Rejects}
use Rattle.oe_routes.specs.Scenes.{plain_scene}
use Rattle.oe_routes.specs.declared.table.Operation.TheVariants as ops
use Rattle.oe_http.specs.Plain.{plain_request}
use Rattle.oe_routes.proofs.CommandLemmas.{handed_on, logs_refused, logs_shown}
use Rattle.oe_routes.proofs.shown.logs_reply.Goals as goal

pub returns-in_err-job-clause-reply : goal.returns-in_err-job-clause-reply
returns-in_err-job-clause-reply c = λ f.
    let book = plain_book c.args.scene.book.now in
    let id = id_in c.args.request.now.path in
    let e = c.in_err-job.field-0.0 in
    let asked : logs_asked c.args.request.now.query ≡ Ok c.in_ok-asked.asked =
    subst (λ (q : List ℕ). logs_asked q ≡ Ok c.in_ok-asked.asked) c.as_str.ensures c.in_ok-asked.ensures in
    handed_on (λ r. answer (plain_response r)) c.from_residual-in_err-job.result e
    (spec.perform (plain_scene c.args.scene) f c.args.user.now (plain_request c.args.request.now) ops.ShowLogs)
    c.from_residual-in_err-job.ensures.1
    (logs_refused c.args.request.now.query c.in_ok-asked.asked book c.args.user.now id e asked
    (subst (λ (i : List ℕ). Rejects e (spec.named_job book c.args.user.now i)) (c.id_in.ensures ∙ ap id_in c.as_str-2.ensures)
    c.in_err-job.ensures))

pub returns-clause-reply : goal.returns-clause-reply
returns-clause-reply c = λ f.
    let book = plain_book c.args.scene.book.now in
    let id = id_in c.args.request.now.path in
    let job = plain_job c.in_ok-job.job.now in
    let asked : logs_asked c.args.request.now.query ≡ Ok c.in_ok-asked.asked =
    subst (λ (q : List ℕ). logs_asked q ≡ Ok c.in_ok-asked.asked) c.as_str.ensures c.in_ok-asked.ensures in
    let named : spec.named_job book c.args.user.now id ≡ Ok job =
    subst (λ (i : List ℕ). spec.named_job book c.args.user.now i ≡ Ok job) (c.id_in.ensures ∙ ap id_in c.as_str-2.ensures) c.in_ok-job.ensures in
    logs_shown c.args.request.now.query c.in_ok-asked.asked book c.args.user.now id job c.in_ok-logs_body.field-0.items
    (plain_response c.shown.result) asked named
    (c.in_ok-logs_body.ensures
    ∙ ap (λ (l : List LogEntry). compact_text (logs_data l c.in_ok-asked.asked.0 c.in_ok-asked.asked.1)) c.deref.ensures.value) c.shown.ensures.reply
