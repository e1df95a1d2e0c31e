use Rattle.std.proofs.Common.{◌≡◌, ◌*◌, ◌∙◌, ℕ, length, sym, ap, subst, arith}
use Rattle.std.specs.List.{All}
use Rattle.std.specs.Vec.{with_items}
use Rattle.oe_engine.specs.Views.{HasNothing, IsSpareAt, MayWork, Stands}
use Rattle.oe_steps.proofs.BufferLemmas.{with_items_is}
use Rattle.oe_engine.proofs.SeatLemmas.{are_evaluations, are_for, are_full, have_nothing, may_work}
use Rattle.oe_engine.proofs.round_table.Crew.evaluate.Goals as goal

pub lay-requires-clause-room : goal.lay-requires-clause-room
lay-requires-clause-room g c = omega (arith, c.requires.room, c.self.invariant.3, c.self.view_is)

pub lay-requires-clause-many : goal.lay-requires-clause-many
lay-requires-clause-many g c = omega (arith, c.requires.many, c.self.invariant.3, c.self.view_is)

pub split_all-requires-clause-stands : goal.split_all-requires-clause-stands
split_all-requires-clause-stands g c =
    let l = c.lay.ensures.laid in
    (c.args.first, l.0, l.2)

pub work_all-requires-clause-idle : goal.work_all-requires-clause-idle
work_all-requires-clause-idle g c =
    let shelf = c.self.inside.board.shared in
    let p = c.args.plan.now in
    let l = c.lay.ensures.laid in
    let hands = c.split_all.new.hands.items in
    λ κs within. subst (All (MayWork shelf.key shelf.table_id p c.args.first)) (sym c.deref_mut.ensures.value)
    (may_work shelf.key shelf.table_id p c.args.first l.0 hands (are_for p c.args.benches.now.items l.0 l.1 c.requires.benches)
    (c.split_all.ensures.seats c.args.first l.0 l.2))

pub join_all-requires-clause-stands : goal.join_all-requires-clause-stands
join_all-requires-clause-stands g c =
    let key = c.self.inside.board.shared.key in
    let l = c.lay.ensures.laid in
    let worked = c.work_all.new.hands in
    let long : length worked ≡ length c.split_all.new.hands.items = c.work_all.ensures.many ∙ ap length c.deref_mut.ensures.value in
    let items = with_items_is c.split_all.new.hands worked long in
    let many = ap length items ∙ (long ∙ c.split_all.ensures.many) in (
      c.args.first,
      l.0,
      subst (λ (n : ℕ). Stands key c.args.first n 0 0 l.0 c.split_all.new.seat.me) (sym many) (c.split_all.ensures.made c.args.first l.0 l.2),
    )

pub join_all-requires-clause-hands : goal.join_all-requires-clause-hands
join_all-requires-clause-hands g c =
    let shelf = c.self.inside.board.shared in
    let l = c.lay.ensures.laid in
    let worked = c.work_all.new.hands in
    let value = c.deref_mut.ensures.value in
    let long : length worked ≡ length c.split_all.new.hands.items = c.work_all.ensures.many ∙ ap length value in
    let spares = subst (All (IsSpareAt shelf.key shelf.table_id c.args.first l.0)) (sym value) (c.split_all.ensures.seats c.args.first l.0 l.2) in
    subst (All (HasNothing shelf.table_id)) (sym (with_items_is c.split_all.new.hands worked long))
    (have_nothing shelf.key shelf.table_id c.args.first l.0 c.deref_mut.result.now worked c.work_all.ensures.many spares
    c.work_all.ensures.worked)

pub take_all-requires-clause-stands : goal.take_all-requires-clause-stands
take_all-requires-clause-stands g c =
    let key = c.self.inside.board.shared.key in
    let p = c.args.plan.now in
    let l = c.lay.ensures.laid in
    let worked = c.work_all.new.hands in
    let long : length worked ≡ length c.split_all.new.hands.items = c.work_all.ensures.many ∙ ap length c.deref_mut.ensures.value in
    let items = with_items_is c.split_all.new.hands worked long in
    let many = ap length items ∙ (long ∙ c.split_all.ensures.many) in
    let before = subst (λ (n : ℕ). Stands key c.args.first n 0 0 l.0 c.split_all.new.seat.me) (sym many)
    (c.split_all.ensures.made c.args.first l.0 l.2) in
    λ κs within. (
      c.args.first,
      length (with_items c.split_all.new.hands worked).items,
      l.0,
      c.join_all.ensures.ended c.args.first l.0 before,
      are_full p c.args.benches.now.items l.0 (2 * c.from-workers.result) (omega (arith, c.requires.many, c.self.view_is, c.from-workers.ensures)) l.1 c.requires.benches,
    )

pub returns-clause-evaluated : goal.returns-clause-evaluated
returns-clause-evaluated g c =
    let key = c.self.inside.board.shared.key in
    let p = c.args.plan.now in
    let l = c.lay.ensures.laid in
    let worked = c.work_all.new.hands in
    let long : length worked ≡ length c.split_all.new.hands.items = c.work_all.ensures.many ∙ ap length c.deref_mut.ensures.value in
    let items = with_items_is c.split_all.new.hands worked long in
    let many = ap length items ∙ (long ∙ c.split_all.ensures.many) in
    let before = subst (λ (n : ℕ). Stands key c.args.first n 0 0 l.0 c.split_all.new.seat.me) (sym many)
    (c.split_all.ensures.made c.args.first l.0 l.2) in
    are_evaluations p c.args.benches.now.items c.take_all.new.benches.items l.0 l.1
    (c.take_all.ensures.evaluated c.args.first (length (with_items c.split_all.new.hands worked).items) l.0
    (c.join_all.ensures.ended c.args.first l.0 before)
    (are_full p c.args.benches.now.items l.0 (2 * c.from-workers.result) (omega (arith, c.requires.many, c.self.view_is, c.from-workers.ensures)) l.1 c.requires.benches))
