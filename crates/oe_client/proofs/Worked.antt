-- Worked values of the table of verbs, by hand.
use Rattle.std.proofs.Common.{◌≡◌, true, None, codes, map, refl, length}
use Rattle.oe_dims.specs.Names.{names_rise}
use Rattle.oe_client.specs.Verbs.{Verb, verb_named, verbs}

-- no two verbs have one word, and the words are in byte order
words_rise : names_rise (map (λ (v : Verb). v.word) verbs) ≡ true
words_rise = refl

number_of_verbs : length verbs ≡ 18
number_of_verbs = refl

no_such_verb : verb_named (codes "every") ≡ None
no_such_verb = refl
