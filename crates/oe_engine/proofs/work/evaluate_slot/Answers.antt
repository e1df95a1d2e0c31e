use Rattle.std.proofs.Common.{◌≡◌, ◌∙◌, ◌%◌, ◌+◌, ◌∷◌, [], ℕ, List, None, IfSome, get_or, sym, ap, subst, arith}
use Rattle.std.proofs.lemmas.Grind.{common_steps, elements}
use Rattle.atomic_table.specs.Table.{Allows, rest}
use Rattle.oe_engine.specs.Views.{AreFor, At, Became, Content, IsFinished, IsLentFor, IsOrderly, laid_at, laid_by, puts}
use Rattle.oe_engine.specs.declared.table.View.TheVariants.{Works}
use Rattle.oe_engine.proofs.RuleLemmas.{became_for, became_more, can_put}
use Rattle.oe_engine.proofs.work.evaluate_slot.Goals as goal

pub load-requires : goal.load-requires
load-requires g c =
    let key = c.args.shelf.now.key in
    let slots = c.args.shelf.now.table_id.slots in
    let has = c.requires.has in
    let w = has.worker in
    let slot = c.args.slot in
    let now = c.finish-now.result in
    let id = c.exchange-none.new.seat.id in
    let one = c.exchange-taken.ensures in
    let two = c.exchange-none.ensures in
    let taken_is : has.now ≡ c.exchange-taken.result =
    ap (λ (l : List (ℕ × Content)). (get_or l 0 (0, None)).1) (sym (ap (λ (m : At). m.1) has.is) ∙ one.2) in
    let me_is : c.exchange-none.new.seat.me ≡ (Works w, (slot, now) ∷ []) =
    two.3 ∙ ap (λ (m : At). let x : At = (m.0, (slot, now) ∷ rest m.1) in x) (one.3 ∙ ap (λ (m : At). let x : At = (m.0, (slot, None) ∷ rest m.1) in x) has.is) in
    let p = c.args.plan.now in
    let finished : IsFinished p has.now now =
    subst (λ (o : Content). IsFinished p o now) (sym taken_is) c.finish-now.ensures in
    let laid_is : laid_by c.args.seat.now.me.0 ≡ w.laid = ap (λ (m : At). laid_by m.0) has.is in
    let lent : IfSome (laid_at w.laid slot) (IsLentFor p) = subst (AreFor p) laid_is c.requires.benches slot in
    let fits = became_more p (laid_at w.laid slot) has.now now (became_for p (laid_at w.laid slot) has.now lent has.fits) has.fits finished in (
      two.0 ∙ (one.0 ∙ c.requires.table),
      c.requires.words,
      subst (λ (m : At). Allows (IsOrderly key) slots id m 0 (λ n. n) (puts m)) (sym me_is)
          (can_put key slots id slot w now c.requires.slots has.hand fits),
    )

pub exchange-none-requires : goal.exchange-none-requires
exchange-none-requires g c = grind (arith, common_steps) steps 2000000

pub finish-now-requires-clause-lent : goal.finish-now-requires-clause-lent
finish-now-requires-clause-lent g c = grind (arith, elements) steps 2000000
