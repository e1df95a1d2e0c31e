use Rattle.std.proofs.Common.{refl}
use Rattle.oe_replies.specs.Answers.{failed_reply}
use Rattle.oe_routes.proofs.PhraseLemmas.{reply_phrases}
use Rattle.oe_routes.proofs.results.failure.Goals as goal

pub returns-clause-phrase : goal.returns-clause-phrase
returns-clause-phrase c =
    reply_phrases c.failed_reply.result (failed_reply c.error_code.result.now) refl c.failed_reply.ensures
