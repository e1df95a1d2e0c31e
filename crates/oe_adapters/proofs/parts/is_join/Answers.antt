use Rattle.std.proofs.Common.{codes, arith}
use Rattle.oe_adapters.proofs.PartLemmas.{one_word, verb_alone}
use Rattle.oe_adapters.proofs.parts.is_join.Goals as goal

pub returns-in-len1 : goal.returns-in-len1
returns-in-len1 c =
    let alone = one_word c.args.words.now c.verb-item.result (omega (arith, c.in-len1.len_at_least, c.in-len1.len_below))
    c.verb-item.is in
    verb_alone c.args.words.now c.verb-item.result (codes "join") c.is_join_verb.result alone c.is_join_verb.ensures
