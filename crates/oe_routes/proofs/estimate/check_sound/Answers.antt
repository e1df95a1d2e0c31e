use Rattle.std.proofs.Common.{ap, ◌∙◌, map}
use Rattle.oe_graph.specs.Plain.{plain_stored}
use Rattle.oe_jobs.specs.Plain.{plain_book}
use Rattle.oe_routes.proofs.FoundLemmas.{users_stored}
use Rattle.oe_routes.proofs.estimate.check_sound.Goals as goal

pub judge-requires-clause-stored_valid : goal.judge-requires-clause-stored_valid
judge-requires-clause-stored_valid c =
    users_stored c.stored_is_valid.ensures.book (plain_book c.args.scene.book.now) c.args.user.now (map plain_stored c.deref.result.now)
    c.requires.book (ap (map plain_stored) c.deref.ensures.value ∙ c.in_ok-stored.ensures)
