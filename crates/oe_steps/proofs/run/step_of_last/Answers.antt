use Rattle.std.proofs.Common.{refl, sym, subst, inl}
use Rattle.std.specs.Prelude.{Contains}
use Rattle.oe_steps.proofs.run.step_of_last.Goals as goal

pub unreachable-requires : goal.unreachable-requires
unreachable-requires c =
    let schedule = c.args.schedule.now in
    c.in-None.ensures.none.0 refl
    (subst (Contains schedule.order.steps) (sym c.last.ensures) ((c.requires.listing.members schedule.last).1 (inl refl)))
