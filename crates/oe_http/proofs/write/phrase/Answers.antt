use Rattle.std.proofs.Common.{sym, ap, [], unwrap_or}
use Rattle.oe_http.proofs.Phrases.{no_phrase}
use Rattle.oe_http.proofs.write.phrase.Goals as goal

pub returns-in-Err : goal.returns-in-Err
returns-in-Err c = sym (ap (λ text. unwrap_or text []) (no_phrase c.args.status c.in-Err.ensures))
