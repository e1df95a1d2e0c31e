use Rattle.std.proofs.Common.{◌≡◌, ◌+◌, ◌<◌, ◌∙◌, [], ◌∷◌, ◌++◌, ℕ, suc, List, Some, IfSome, drop, length, refl, sym, ap, subst, arith, length-append}
use Rattle.oe_engine.specs.Benches.{BenchOf}
use Rattle.oe_engine.specs.Views.{AreEvaluated, AreFull, Became, Content, IsFinished, IsLentFor, Stands, laid_at}
use Rattle.oe_engine.specs.declared.table.Lent.{Lent}
use Rattle.oe_engine.proofs.RuleLemmas.{became_for}
use Rattle.oe_engine.proofs.SeatLemmas.{IsBack, became_taken, comes_back, evaluated_more, evaluated_none, first_of, holds_some, one_less, stands_taken}
use Rattle.oe_engine.proofs.round_table.take_all.Goals as goal

pub loop-slot-init : goal.loop-slot-init
loop-slot-init g c = record {
  table_is = refl;
  capacity = refl;
  many = ap length c.requires.none;
  stands = λ first made laid s full. s;
  evaluated = λ first made laid s full.
      subst (AreEvaluated c.args.plan.now laid) (sym c.requires.none) (evaluated_none c.args.plan.now laid);
}

pub take-taken-requires-clause-holds : goal.take-taken-requires-clause-holds
take-taken-requires-clause-holds g c =
    let r = c.requires.stands in
    holds_some c.args.shelf.now.key r.0 r.1 c.loop-slot.slot (drop c.loop-slot.slot r.2) c.loop-slot.seat.me
    (c.loop-slot.invariant.stands r.0 r.1 r.2 r.3 r.4)

pub finish-done-requires-clause-lent : goal.finish-done-requires-clause-lent
finish-done-requires-clause-lent g c = λ κs within.
    let p = c.args.plan.now in
    let slot = c.loop-slot.slot in
    let r = c.requires.stands in
    let laid = r.2 in
    let taken = c.take-taken.result in
    let full = r.4 slot (omega arith) in
    let became : Became (laid_at laid slot) taken =
    subst (λ (o : Content). Became o taken) (first_of slot laid)
    (became_taken c.args.shelf.now.key r.0 r.1 slot (drop slot laid) c.loop-slot.seat.me c.take-taken.new.seat.me taken
    (c.loop-slot.invariant.stands r.0 r.1 laid r.3 r.4) c.take-taken.ensures.taken) in
    became_for p (laid_at laid slot) taken (subst (λ (o : Content). IfSome o (IsLentFor p)) (sym full.1) full.2) became

pub loop-slot-preserved : goal.loop-slot-preserved
loop-slot-preserved g c =
    let p = c.args.plan.now in
    let key = c.args.shelf.now.key in
    let slot = c.loop-slot.slot in
    let inv = c.loop-slot.invariant in
    let me = c.loop-slot.seat.me in
    let after = c.take-taken.new.seat.me in
    let taken = c.take-taken.result in
    let done = c.finish-done.result in
    let old = c.loop-slot.benches.items in
    let new = c.put_behind.new.benches.items in
    let next : suc slot ≡ slot + 1 = omega arith in
    let back : (first made : ℕ) (laid : List Content) → Stands key first made made 0 laid c.args.seat.now.me → AreFull p c.args.slots laid
    → IsBack p (laid_at laid slot) done =
    λ first made laid s full.
    let here = full slot (omega arith) in
    let became : Became (laid_at laid slot) taken =
    subst (λ (o : Content). Became o taken) (first_of slot laid)
    (became_taken key first made slot (drop slot laid) me after taken (inv.stands first made laid s full) c.take-taken.ensures.taken) in
    comes_back p (laid_at laid slot) taken done here.0 here.1 here.2 became c.finish-done.ensures in
    let items : (laid_here : Content) (b : IsBack p laid_here done) → new ≡ old ++ b.after.bench ∷ [] =
    λ laid_here b. subst (λ (o : Content). IfSome o (λ (lent : Lent). new ≡ old ++ lent.bench ∷ [])) b.now_is c.put_behind.ensures.bench in
    let r = c.requires.stands in
    let some_back = back r.0 r.1 r.2 r.3 r.4 in
    record {
      table_is = c.take-taken.ensures.table ∙ inv.table_is;
      capacity = c.put_behind.ensures.capacity ∙ inv.capacity;
      many = ap length (items (laid_at r.2 slot) some_back)
          ∙ (length-append old (some_back.after.bench ∷ []) ∙ ap (λ (n : ℕ). n + 1) inv.many);
      stands = λ first made laid s full.
          subst (λ (n : ℕ). Stands key first made made n (drop n laid) after) next
          (subst (λ (l : List Content). Stands key first made made (suc slot) l after) (one_less slot laid)
          (stands_taken key first made slot (drop slot laid) me after taken (inv.stands first made laid s full) c.take-taken.ensures.taken));
      evaluated = λ first made laid s full.
          let b = back first made laid s full in
          subst (AreEvaluated p laid) (sym (items (laid_at laid slot) b))
          (evaluated_more p laid old b.before b.after.bench (inv.evaluated first made laid s full)
          (ap (λ (n : ℕ). laid_at laid n) inv.many ∙ b.laid_is) b.evaluated);
    }

pub returns-clause-evaluated : goal.returns-clause-evaluated
returns-clause-evaluated g c = c.loop-slot.invariant.evaluated

pub returns-clause-ready : goal.returns-clause-ready
returns-clause-ready g c =
    let key = c.args.shelf.now.key in
    let slot = c.loop-slot.slot in
    let r = c.requires.stands in
    let all : slot ≡ key.slots = omega (arith, c.requires.slots) in
    record {
      first = r.0;
      made = r.1;
      laid = drop slot r.2;
      stands = subst (λ (n : ℕ). Stands key r.0 r.1 r.1 n (drop slot r.2) c.loop-slot.seat.me) all
          (c.loop-slot.invariant.stands r.0 r.1 r.2 r.3 r.4);
    }
