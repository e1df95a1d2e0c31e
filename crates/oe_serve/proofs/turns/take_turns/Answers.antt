use Rattle.std.proofs.Common.{◌+◌, refl, ap, ◌∙◌, arith, Ok}
use Rattle.oe_serve.proofs.ServerLemmas.{ends_closed, ends_failed, ends_last, so_far_next, so_far_none}
use Rattle.oe_serve.proofs.TurnLemmas.{once_as}
use Rattle.oe_serve.proofs.turns.take_turns.Goals as goal

pub loop-init : goal.loop-init
loop-init g c = record {
  service = c.requires.service.valid;
  sizes = record { size = refl; workers = refl };
  going = c.requires.service.going;
  clock = refl;
  so_far = so_far_none _ _ _ _ _ c.requires.service.is_kept;
}

pub turn-requires : goal.turn-requires
turn-requires g c = (
  c.type_bounds.sync-R,
  (
    c.type_bounds.sync-G,
    record {
      valid = c.loop.invariant.service;
      is_kept = c.loop.invariant.so_far.turned.kept;
      going = c.loop.invariant.going;
    },
  ),
)

pub loop-preserved : goal.loop-preserved
loop-preserved g c =
    let so_far = c.loop.invariant in
    let once =
    once_as _ _ _ _ _ _ _ _ _ _ so_far.sizes.size so_far.sizes.workers so_far.clock
    (c.in-Ok-true.is ∙ ap Ok c.in-Ok-true.field-0-test) c.turn.ensures.turns in
    record {
      service = once.service;
      sizes = record { size = once.sizes.size ∙ so_far.sizes.size; workers = once.sizes.workers ∙ so_far.sizes.workers };
      going = once.going;
      clock = c.turn.ensures.clock ∙ so_far.clock;
      so_far = so_far_next _ _ _ _ _ c.loop.service c.turn.new.service _ _ _ _ _ _ c.loop.counter so_far.so_far
          (c.loop.counter + 1) (omega arith) once;
    }

pub returns-in-Ok-false : goal.returns-in-Ok-false
returns-in-Ok-false g c =
    let so_far = c.loop.invariant in
    ends_closed _ _ _ _ _ c.loop.service c.turn.new.service _ _ _ _ _ _ c.loop.counter so_far.so_far c.args.turns
    (omega arith)
    (once_as _ _ _ _ _ _ _ _ _ _ so_far.sizes.size so_far.sizes.workers so_far.clock
    (c.in-Ok-false.is ∙ ap Ok c.in-Ok-false.field-0-test) c.turn.ensures.turns)

pub returns-in-Err : goal.returns-in-Err
returns-in-Err g c =
    let so_far = c.loop.invariant in
    ends_failed _ _ _ _ _ c.loop.service c.turn.new.service _ _ _ _ _ _ c.loop.counter so_far.so_far c.args.turns
    (omega arith) c.in-Err.fail
    (once_as _ _ _ _ _ _ _ _ _ _ so_far.sizes.size so_far.sizes.workers so_far.clock c.in-Err.is c.turn.ensures.turns)

pub returns : goal.returns
returns g c = ends_last _ _ _ _ _ _ _ c.loop.counter c.args.turns (omega arith) c.loop.invariant.so_far
