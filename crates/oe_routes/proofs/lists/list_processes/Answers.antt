use Rattle.std.proofs.Common.{subst}
use Rattle.serde_json.specs.Data.{Data}
use Rattle.oe_http.specs.Plain.{plain_request}
use Rattle.oe_jobs.specs.Plain.{plain_book}
use Rattle.oe_routes.specs.Actions.{plain_action}
use Rattle.oe_routes.specs.Answers as spec
use Rattle.oe_routes.specs.Rejections.{Settles}
use Rattle.oe_routes.specs.Scenes.{plain_scene}
use Rattle.oe_routes.proofs.lists.list_processes.Goals as goal

pub returns-clause-answer : goal.returns-clause-answer
returns-clause-answer c = λ user f is.
    subst (λ (d : Data). Settles (plain_action (plain_book c.args.scene.book.now)) c.listed.result
    (spec.listed (plain_scene c.args.scene) (plain_request c.args.request.now) d))
    c.in_ok-list.ensures.list (c.listed.ensures.answer (plain_book c.args.scene.book.now))
