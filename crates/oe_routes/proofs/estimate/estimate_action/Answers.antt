use Rattle.std.proofs.Common.{◌≡◌, List, ℕ, Ok, ap, refl, ◌∙◌, subst}
use Rattle.oe_http.specs.Plain.{plain_request}
use Rattle.oe_jobs.specs.Plain.{plain_book, plain_job}
use Rattle.oe_routes.specs.Actions.{plain_action}
use Rattle.oe_routes.specs.Answers as spec
use Rattle.oe_routes.specs.Paths.{id_in}
use Rattle.oe_routes.specs.Scenes.{plain_scene}
use Rattle.oe_routes.proofs.EstimateLemmas.{job_estimated}
use Rattle.oe_routes.proofs.NamedLemmas.{job_process}
use Rattle.oe_routes.proofs.estimate.estimate_action.Goals as goal

pub estimated-requires-clause-process : goal.estimated-requires-clause-process
estimated-requires-clause-process c =
    job_process (plain_book c.args.scene.book.now) c.args.user.now c.id_in.result.now (plain_job c.in_ok-job.job.now)
    c.requires c.in_ok-job.ensures

pub returns-clause-answer : goal.returns-clause-answer
returns-clause-answer c = λ f is.
    let book = plain_book c.args.scene.book.now in
    job_estimated (plain_action book) c.estimated.result (plain_scene c.args.scene) f c.args.user.now
    (plain_request c.args.request.now) (plain_job c.in_ok-job.job.now)
    (subst (λ (i : List ℕ). spec.named_job book c.args.user.now i ≡ Ok (plain_job c.in_ok-job.job.now))
    (c.id_in.ensures ∙ ap id_in c.as_str.ensures) c.in_ok-job.ensures)
    (c.estimated.ensures.answer f (is.judged refl))
