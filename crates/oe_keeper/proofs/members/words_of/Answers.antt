use Rattle.std.proofs.Common.{sym, ap, ◌∙◌}
use Rattle.serde_json.specs.Data.{string}
use Rattle.serde_json.specs.View.{view}
use Rattle.oe_keeper.proofs.FindLemmas.{no_words, null_is, string_is}
use Rattle.oe_keeper.proofs.members.words_of.Goals as goal

pub returns-then-is_null : goal.returns-then-is_null
returns-then-is_null c = null_is (view c.args.value.now) (sym c.is_null.ensures ∙ c.if-is_null.true)

pub returns-in_ok-of-in-Some : goal.returns-in_ok-of-in-Some
returns-in_ok-of-in-Some c =
    string_is (view c.args.value.now) c.in-Some.text.now c.in-Some.ensures ∙ ap string (sym c.in_ok-of-in-Some.ensures)

pub returns-in-None : goal.returns-in-None
returns-in-None c = λ words is.
    no_words (view c.args.value.now) words c.in-None.ensures (sym c.is_null.ensures ∙ c.if-is_null.false) is
