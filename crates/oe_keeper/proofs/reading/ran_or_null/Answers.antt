use Rattle.std.proofs.Common.{sym, ◌∙◌}
use Rattle.serde_json.specs.View.{view}
use Rattle.oe_keeper.proofs.FindLemmas.{no_ran, null_is}
use Rattle.oe_keeper.proofs.reading.ran_or_null.Goals as goal

pub returns-then-is_null : goal.returns-then-is_null
returns-then-is_null c = null_is (view c.args.value.now) (sym c.is_null.ensures ∙ c.if-is_null.true)

pub returns-in-None : goal.returns-in-None
returns-in-None c = λ ran is.
    no_ran (view c.args.value.now) ran (sym c.is_null.ensures ∙ c.if-is_null.false) (rw c.in-None.is at c.in_ok-ran.ensures) is
