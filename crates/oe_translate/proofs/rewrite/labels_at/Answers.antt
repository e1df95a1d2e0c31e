use Rattle.std.proofs.Common.{sym, subst, ◌∙◌}
use Rattle.std.specs.Prelude.{All}
use Rattle.oe_dims.specs.Instant.{IsInstant}
use Rattle.oe_meanings.proofs.PeriodLemmas.{shape_instants}
use Rattle.oe_translate.proofs.rewrite.labels_at.Goals as goal

pub returns : goal.returns
returns c = record {
  value = c.labels.ensures.value ∙ c.data_shape.ensures.value;
  instants = subst (All IsInstant) (sym c.labels.ensures.value) (shape_instants c.data_shape.result.now c.labels.ensures.valid);
}
