use Rattle.oe_replies.specs.Answers.{refused_reply}
use Rattle.oe_routes.proofs.PhraseLemmas.{code_phrase, reply_phrases}
use Rattle.oe_routes.proofs.action.refused.Goals as goal

pub returns-clause-phrase : goal.returns-clause-phrase
returns-clause-phrase c =
    reply_phrases c.refused_reply.result (refused_reply c.args.code c.args.detail.now) (code_phrase c.args.code)
    c.refused_reply.ensures
