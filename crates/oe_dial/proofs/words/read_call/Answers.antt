use Rattle.std.proofs.Common.{ℕ, List, IfNone, IfSome, subst, sym, arith}
use Rattle.std.proofs.lemmas.Grind.{common_steps}
use Rattle.oe_dial.proofs.Spellings.{five_words, six_words}
use Rattle.oe_dial.specs.Words.{PlainCall, SpellsCall, plain_call}
use Rattle.oe_dial.proofs.words.read_call.Goals as goal

pub returns-in-len5-clause-none : goal.returns-in-len5-clause-none
returns-in-len5-clause-none c =
    let words_are = five_words c.args.words.now c.word-item.result c.host-item.result c.port-item.result
    c.token-item.result c.verb-item.result (omega (arith, c.in-len5.len_at_least, c.in-len5.len_below))
    c.word-item.is c.host-item.is c.port-item.is c.token-item.is c.verb-item.is in
    let P : List (List ℕ) → Type 0 = λ words.
    IfNone c.call_of.result ((call : PlainCall) → SpellsCall words call → ⊥) in
    subst P (sym words_are) c.call_of.ensures.none

pub returns-in-len6-clause-some : goal.returns-in-len6-clause-some
returns-in-len6-clause-some c =
    let words_are = six_words c.args.words.now c.word-item-then-words-lt7.result c.host-item-then-words-lt7.result
    c.port-item-then-words-lt7.result c.token-item-then-words-lt7.result c.verb-item-then-words-lt7.result
    c.argument-item.result (omega (arith, c.in-len6.len_at_least, c.in-len6.len_below))
    c.word-item-then-words-lt7.is c.host-item-then-words-lt7.is c.port-item-then-words-lt7.is
    c.token-item-then-words-lt7.is c.verb-item-then-words-lt7.is c.argument-item.is in
    let P : List (List ℕ) → Type 0 = λ words.
    IfSome c.call_of-in-len6.result (λ call. SpellsCall words (plain_call call)) in
    subst P (sym words_are) c.call_of-in-len6.ensures.some

pub returns-in-len6-clause-none : goal.returns-in-len6-clause-none
returns-in-len6-clause-none c =
    let words_are = six_words c.args.words.now c.word-item-then-words-lt7.result c.host-item-then-words-lt7.result
    c.port-item-then-words-lt7.result c.token-item-then-words-lt7.result c.verb-item-then-words-lt7.result
    c.argument-item.result (omega (arith, c.in-len6.len_at_least, c.in-len6.len_below))
    c.word-item-then-words-lt7.is c.host-item-then-words-lt7.is c.port-item-then-words-lt7.is
    c.token-item-then-words-lt7.is c.verb-item-then-words-lt7.is c.argument-item.is in
    let P : List (List ℕ) → Type 0 = λ words.
    IfNone c.call_of-in-len6.result ((call : PlainCall) → SpellsCall words call → ⊥) in
    subst P (sym words_are) c.call_of-in-len6.ensures.none

pub returns-in-len5-clause-some : goal.returns-in-len5-clause-some
returns-in-len5-clause-some c = grind (arith, common_steps) steps 2000000
