use Rattle.std.proofs.Common.{Err, ap}
use Rattle.oe_serve.proofs.Openings.{not_opened, opened, turns_made}
use Rattle.oe_serve.proofs.turns.serve.Goals as goal

pub returns-in-Err-clause-ends : goal.returns-in-Err-clause-ends
returns-in-Err-clause-ends g c =
    rw c.from.ensures (not_opened _ _ _ _ _ _ _ c.in-Err.ensures.hidden c.in-Err.ensures.commits _ _ _ _ _ _ c.in-Err.ensures.same
    c.in-Err.fail c.in-Err.ensures.cause (λ e. c.in-Err.ensures.last (ap Err e)))

pub take_turns-requires : goal.take_turns-requires
take_turns-requires g c = (
  c.type_bounds.sync-R,
  (
    c.type_bounds.sync-G,
    record { valid = c.in-Ok.ensures.valid; is_kept = c.in-Ok.ensures.kept; going = rw c.in-Ok.ensures.free.run tt },
  ),
)

pub returns-in-Ok-clause-ends : goal.returns-in-Ok-clause-ends
returns-in-Ok-clause-ends g c =
    let e = c.in-Ok.ensures in
    turns_made _ c.args.setup.now.site.now c.args.command.size c.args.command.workers c.args.command.turns _ _ _ _ _ _ _ _
    c.in-Ok.service c.take_turns.new.service e.sizes.0 e.sizes.1
    (opened _ _ _ _ _ _ _ e.hidden e.commits _ c.in-Ok.service e.opened e.free e.kept e.cause.count) _ c.take_turns.ensures
