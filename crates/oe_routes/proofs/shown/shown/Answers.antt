use Rattle.std.proofs.Common.{refl}
use Rattle.oe_http.specs.Laws.{json_reply}
use Rattle.oe_routes.proofs.PhraseLemmas.{reply_phrase}
use Rattle.oe_routes.proofs.shown.shown.Goals as goal

pub returns-clause-phrase : goal.returns-clause-phrase
returns-clause-phrase c = reply_phrase c.json_reply.result (json_reply 200 c.args.body.items) refl c.json_reply.ensures
