use Rattle.std.proofs.Common.{◌≡◌, ◌+◌, ◌∙◌, [], ℕ, suc, sym, subst, arith}
use Rattle.oe_engine.specs.Views.{Stands}
use Rattle.oe_engine.proofs.SeatLemmas.{holds_some, stands_taken}
use Rattle.oe_engine.proofs.round_table.hold.Goals as goal

pub take-none-requires-clause-holds : goal.take-none-requires-clause-holds
take-none-requires-clause-holds c =
    holds_some c.args.shelf.now.key 0 0 c.loop-slot.slot [] c.loop-slot.seat.me c.loop-slot.invariant.stands

pub loop-slot-preserved : goal.loop-slot-preserved
loop-slot-preserved c =
    let key = c.args.shelf.now.key in
    let slot = c.loop-slot.slot in
    let next : suc slot ≡ slot + 1 = omega arith in
    record {
      table_is = c.take-none.ensures.table ∙ c.loop-slot.invariant.table_is;
      stands = subst (λ (n : ℕ). Stands key 0 0 0 n [] c.take-none.new.seat.me) next
          (stands_taken key 0 0 slot [] c.loop-slot.seat.me c.take-none.new.seat.me c.take-none.result c.loop-slot.invariant.stands
          c.take-none.ensures.taken);
    }

pub returns-clause-ready : goal.returns-clause-ready
returns-clause-ready c =
    let key = c.args.shelf.now.key in
    let all : c.loop-slot.slot ≡ key.slots = omega (arith, c.requires.slots) in
    record {
      first = 0;
      made = 0;
      laid = [];
      stands = subst (λ (n : ℕ). Stands key 0 0 0 n [] c.loop-slot.seat.me) all c.loop-slot.invariant.stands;
    }
