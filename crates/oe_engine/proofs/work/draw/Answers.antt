use Rattle.std.proofs.Common.{◌≡◌, ◌∙◌, ◌%◌, ◌+◌, ◌-◌, ◌≤◌, ◌<◌, ◌∷◌, [], ℕ, suc, List, Option, refl, sym, ap, subst, arith}
use Rattle.atomic_table.specs.Table.{Allows}
use Rattle.oe_engine.specs.Views.{AreFor, At, HasDrawn, IsOrderly, draws, laid_by, with_hand}
use Rattle.oe_engine.specs.declared.table.Worker.{Worker}
use Rattle.oe_engine.proofs.RuleLemmas.{can_draw}
use Rattle.oe_engine.proofs.work.draw.Goals as goal

pub fetch_add-drawn-requires : goal.fetch_add-drawn-requires
fetch_add-drawn-requires g c =
    let key = c.args.shelf.now.key in
    let slots = c.args.shelf.now.table_id.slots in
    let w : Worker = record { task = key; first = c.args.first; hand = 0; past = 0; laid = laid_by c.args.seat.now.me.0 } in (
      c.requires.table,
      c.requires.words,
      subst (λ (m : At). Allows (IsOrderly key) slots c.args.seat.now.id m 0 (λ n. (n + 1) % 18446744073709551616) (draws m)) (sym c.requires.idle)
          (can_draw key slots c.args.seat.now.id w refl refl),
    )

pub overflow_sub-slot : goal.overflow_sub-slot
overflow_sub-slot g c =
    let w : Worker = record { task = c.args.shelf.now.key; first = c.args.first; hand = 0; past = 0; laid = laid_by c.args.seat.now.me.0 } in
    (c.fetch_add-drawn.ensures.2 w c.requires.idle).low

pub returns-then-slot-slots-clause-past : goal.returns-then-slot-slots-clause-past
returns-then-slot-slots-clause-past g c = λ f.
    let w : Worker = record { task = c.args.shelf.now.key; first = c.args.first; hand = 0; past = 0; laid = laid_by c.args.seat.now.me.0 } in
    let has = c.fetch_add-drawn.ensures.2 w c.requires.idle in
    has.past (omega (arith, c.if-slot-slots.true, has.low, c.requires.slots.1))

pub evaluate_slot-requires-clause-has : goal.evaluate_slot-requires-clause-has
evaluate_slot-requires-clause-has g c κs within =
    let w : Worker = record { task = c.args.shelf.now.key; first = c.args.first; hand = 0; past = 0; laid = laid_by c.args.seat.now.me.0 } in
    let has = c.fetch_add-drawn.ensures.2 w c.requires.idle in
    let d = has.drawn (omega (arith, c.if-slot-slots.false, has.low, c.requires.slots.1)) in
    record {
      worker = with_hand w (suc (c.fetch_add-drawn.result - c.args.first));
      now = d.0;
      is = d.1;
      hand = refl;
      task_is = refl;
      fits = d.2;
    }

pub evaluate_slot-requires-clause-benches : goal.evaluate_slot-requires-clause-benches
evaluate_slot-requires-clause-benches g c κs within =
    let w : Worker = record { task = c.args.shelf.now.key; first = c.args.first; hand = 0; past = 0; laid = laid_by c.args.seat.now.me.0 } in
    let has = c.fetch_add-drawn.ensures.2 w c.requires.idle in
    let d = has.drawn (omega (arith, c.if-slot-slots.false, has.low, c.requires.slots.1)) in
    subst (AreFor c.args.plan.now) (sym (ap (λ (m : At). laid_by m.0) d.1)) c.requires.benches

pub returns-clause-again : goal.returns-clause-again
returns-clause-again g c = λ t.
    let w : Worker = record { task = c.args.shelf.now.key; first = c.args.first; hand = 0; past = 0; laid = laid_by c.args.seat.now.me.0 } in
    let has = c.fetch_add-drawn.ensures.2 w c.requires.idle in
    let d = has.drawn (omega (arith, c.if-slot-slots.false, has.low, c.requires.slots.1)) in
    let v = with_hand w (suc (c.fetch_add-drawn.result - c.args.first)) in
    c.evaluate_slot.ensures.back v (ap (λ (m : At). m.0) d.1) ∙ sym c.requires.idle
