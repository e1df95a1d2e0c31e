use Rattle.std.proofs.Common.{◌≡◌, ◌+◌, ◌<◌, ◌∙◌, [], ◌∷◌, ◌++◌, ℕ, zero, suc, List, Some, length, refl, sym, ap, subst, arith, length-append}
use Rattle.std.specs.List.{All}
use Rattle.std.proofs.lemmas.List.Elements.{All-pop}
use Rattle.oe_engine.specs.Views.{HasNothing, Stands}
use Rattle.oe_engine.specs.declared.table.Hand.{Hand}
use Rattle.oe_engine.proofs.SeatLemmas.{lead_at, stands_joined, with_none}
use Rattle.oe_engine.proofs.round_table.join_all.Goals as goal

pub loop-hand-init : goal.loop-hand-init
loop-hand-init c = record {
  table_is = refl;
  capacity = refl;
  hands = c.requires.hands;
  ended = λ first laid s. (0, omega arith, s);
}

pub join-requires-clause-table : goal.join-requires-clause-table
join-requires-clause-table c =
    let inv = c.loop-hand.invariant in
    let hand = (All-pop (HasNothing c.args.shelf.now.table_id) c.loop-hand.hands.items c.pop.new.self.items (Some c.in-Some.hand)
    c.in-Some.ensures.items inv.hands).1 in
    (inv.table_is ∙ c.requires.table, hand.table_is)

pub join-requires-clause-none : goal.join-requires-clause-none
join-requires-clause-none c =
    let r = c.requires.stands in
    let here = c.loop-hand.invariant.ended r.0 r.1 r.2 in (
      lead_at c.args.shelf.now.key r.0 (length c.args.hands.now.items) here.0 0 r.1,
      with_none c.args.shelf.now.key r.0 (length c.args.hands.now.items) here.0 r.1 c.loop-hand.seat.me here.2,
    )

pub join-requires-clause-worker : goal.join-requires-clause-worker
join-requires-clause-worker c =
    let inv = c.loop-hand.invariant in
    let hand = (All-pop (HasNothing c.args.shelf.now.table_id) c.loop-hand.hands.items c.pop.new.self.items (Some c.in-Some.hand)
    c.in-Some.ensures.items inv.hands).1 in
    (hand.worker, hand.is, hand.empty)

pub loop-hand-preserved : goal.loop-hand-preserved
loop-hand-preserved c =
    let inv = c.loop-hand.invariant in
    let key = c.args.shelf.now.key in
    let total = length c.args.hands.now.items in
    let popped : length c.loop-hand.hands.items ≡ length c.pop.new.self.items + 1 =
    ap length c.in-Some.ensures.items ∙ length-append c.pop.new.self.items (c.in-Some.hand ∷ []) in
    record {
      table_is = c.join.ensures.table ∙ inv.table_is;
      capacity = c.in-Some.ensures.capacity ∙ inv.capacity;
      hands = (All-pop (HasNothing c.args.shelf.now.table_id) c.loop-hand.hands.items c.pop.new.self.items (Some c.in-Some.hand)
          c.in-Some.ensures.items inv.hands).0;
      ended = λ first laid s.
          let here = inv.ended first laid s in (
            suc here.0,
            omega (arith, here.1, popped),
            stands_joined key first total here.0 laid c.loop-hand.seat.me c.join.new.seat.me here.2 c.join.ensures.ended,
          );
    }

pub returns-clause-ended : goal.returns-clause-ended
returns-clause-ended c = λ first laid s.
    let total = length c.args.hands.now.items in
    let here = c.loop-hand.invariant.ended first laid s in
    let none : length c.loop-hand.hands.items ≡ 0 = omega (arith, c.in_default.ensures.cases.0, c.loop-hand.hands.ok.0) in
    let all : here.0 ≡ total = omega (arith, here.1, none) in
    subst (λ (n : ℕ). Stands c.args.shelf.now.key first total n 0 laid c.loop-hand.seat.me) all here.2
