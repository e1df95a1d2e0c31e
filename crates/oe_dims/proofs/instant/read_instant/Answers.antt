use Rattle.std.proofs.Common.{ap, ◌∙◌}
use Rattle.oe_dims.specs.Instant.{instant_read}
use Rattle.oe_dims.proofs.SpellingLemmas.{answer_exactly, answer_in_range}
use Rattle.oe_dims.proofs.instant.read_instant.Goals as goal

pub returns-clause-exact : goal.returns-clause-exact
returns-clause-exact c =
    answer_exactly c.args.text.now c.read_bytes.result (c.read_bytes.ensures ∙ ap instant_read c.as_bytes.ensures.value)

pub returns-clause-range : goal.returns-clause-range
returns-clause-range c =
    answer_in_range c.args.text.now c.read_bytes.result (c.read_bytes.ensures ∙ ap instant_read c.as_bytes.ensures.value)
