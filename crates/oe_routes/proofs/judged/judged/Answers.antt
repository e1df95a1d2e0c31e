use Rattle.std.proofs.Common.{ap, ◌∙◌, map}
use Rattle.oe_dims.specs.Plain.{plain_rows}
use Rattle.oe_graph.specs.Plain.{plain_graph, plain_stored}
use Rattle.oe_jobs.specs.Plain.{plain_book}
use Rattle.oe_jobs.specs.Verdicts.{stored_of}
use Rattle.oe_routes.specs.Answers as spec
use Rattle.oe_routes.specs.Rejections.{rejection_of_graph}
use Rattle.oe_routes.specs.Scenes.{plain_scene}
use Rattle.oe_routes.proofs.CommandLemmas.{handed_on}
use Rattle.oe_routes.proofs.FoundLemmas.{judged_passes, judged_refused, later_none, users_stored}
use Rattle.oe_routes.proofs.judged.judged.Goals as goal

pub judge-requires-clause-stored_valid : goal.judge-requires-clause-stored_valid
judge-requires-clause-stored_valid c =
    users_stored c.stored_is_valid.ensures.book (plain_book c.args.scene.book.now) c.args.user.now (map plain_stored c.deref.result.now)
    c.requires.book (ap (map plain_stored) c.deref.ensures.value ∙ c.in_ok-stored.ensures)

pub returns-in_err-judge-clause-sound : goal.returns-in_err-judge-clause-sound
returns-in_err-judge-clause-sound c = λ f is.
    handed_on (λ x. tt) c.from_residual-in_err-judge.result (rejection_of_graph c.in_err-judge.field-0.0)
    (spec.sound (plain_scene c.args.scene) f c.args.user.now (plain_graph c.args.graph.now)) c.from_residual-in_err-judge.ensures.1
    (judged_refused c.stored_is_valid.ensures.book (plain_rows c.args.scene.dims.now) f is (plain_book c.args.scene.book.now)
    c.args.user.now (map plain_stored c.deref.result.now) (plain_graph c.args.graph.now) c.requires.book c.requires.graph
    (ap (map plain_stored) c.deref.ensures.value ∙ c.in_ok-stored.ensures)
    c.in_err-judge.field-0.0 c.in_err-judge.ensures.refused)

pub returns-clause-sound : goal.returns-clause-sound
returns-clause-sound c = λ f is.
    judged_passes c.stored_is_valid.ensures.book (plain_rows c.args.scene.dims.now) f is (plain_book c.args.scene.book.now)
    c.args.user.now (map plain_stored c.deref.result.now) (plain_graph c.args.graph.now) c.requires.book c.requires.graph
    (ap (map plain_stored) c.deref.ensures.value ∙ c.in_ok-stored.ensures) c.in_ok-judge.ensures.none

pub returns-clause-none : goal.returns-clause-none
returns-clause-none c =
    later_none (plain_rows c.args.scene.dims.now) (map plain_stored c.deref.result.now)
    (stored_of c.args.user.now (plain_book c.args.scene.book.now)) (plain_graph c.args.graph.now)
    (ap (map plain_stored) c.deref.ensures.value ∙ c.in_ok-stored.ensures) c.in_ok-judge.ensures.none
