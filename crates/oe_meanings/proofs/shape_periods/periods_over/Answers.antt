use Rattle.std.proofs.Common.{◌≡◌, true, sym, subst}
use Rattle.std.specs.List.{All}
use Rattle.oe_dims.proofs.ShapeLemmas.{t_rises}
use Rattle.oe_dims.specs.Dimensions.{rises}
use Rattle.oe_dims.specs.Instant.{IsInstant}
use Rattle.oe_meanings.proofs.PeriodLemmas.{shape_instants}
use Rattle.oe_meanings.proofs.shape_periods.periods_over.Goals as goal

pub over-requires : goal.over-requires
over-requires c = record {
  rise = subst (λ ls. rises ls ≡ true) (sym c.labels.ensures.value) (t_rises c.args.shape.now c.labels.ensures.valid);
  instants = subst (All IsInstant) (sym c.labels.ensures.value) (shape_instants c.args.shape.now c.labels.ensures.valid);
}
