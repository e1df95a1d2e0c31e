use Rattle.std.proofs.Common.{◌≡◌, ℕ, List, Ok, ap, ◌∙◌, subst}
use Rattle.oe_http.specs.Replies.{plain_response}
use Rattle.oe_jobs.specs.Plain.{plain_book, plain_job}
use Rattle.oe_routes.specs.Answers as spec
use Rattle.oe_routes.specs.Paths.{id_in}
use Rattle.oe_routes.proofs.CommandLemmas.{job_shown}
use Rattle.oe_routes.proofs.NamedLemmas.{job_whole}
use Rattle.oe_routes.proofs.shown.job_reply.Goals as goal

pub returns-clause-reply : goal.returns-clause-reply
returns-clause-reply c = λ f.
    let book = plain_book c.args.scene.book.now in
    let id = id_in c.args.request.now.path in
    let job = plain_job c.in_ok-job.job.now in
    let named : spec.named_job book c.args.user.now id ≡ Ok job =
    subst (λ (i : List ℕ). spec.named_job book c.args.user.now i ≡ Ok job) (c.id_in.ensures ∙ ap id_in c.as_str.ensures) c.in_ok-job.ensures in
    job_shown book c.args.user.now id job c.in_ok-job_body.field-0.items (plain_response c.shown.result) named
    (c.in_ok-job_body.ensures (job_whole book c.args.user.now id job c.requires named)) c.shown.ensures.reply
