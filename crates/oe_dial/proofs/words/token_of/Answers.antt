use Rattle.std.proofs.Common.{◌≡◌, ◌∙◌, true, codes, sym, true≢false}
use Rattle.oe_dial.proofs.Ports.{token_is}
use Rattle.oe_dial.proofs.words.token_of.Goals as goal

pub returns-else-eq : goal.returns-else-eq
returns-else-eq c = token_is c.args.word.now (λ is.
    let same : c.as_str.result.now ≡ codes "-" = c.as_str.ensures ∙ is in
    let found : c.eq.result ≡ true = rw same at c.eq.ensures in
    true≢false (sym found ∙ c.if-eq.false))
