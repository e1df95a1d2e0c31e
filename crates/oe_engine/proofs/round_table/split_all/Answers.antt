use Rattle.std.proofs.Common.{◌≡◌, ◌+◌, ◌<◌, ◌∙◌, [], ◌∷◌, ◌++◌, ℕ, suc, List, length, refl, sym, ap, subst, arith, length-append}
use Rattle.std.specs.List.{All}
use Rattle.std.proofs.lemmas.List.Elements.{All-nil, All-push}
use Rattle.oe_engine.specs.Views.{IsSpareAt, Stands}
use Rattle.oe_engine.specs.declared.table.Hand.{Hand}
use Rattle.oe_engine.proofs.SeatLemmas.{holds_none, spare_split, stands_split}
use Rattle.oe_engine.proofs.round_table.split_all.Goals as goal

pub split-place-requires-clause-none : goal.split-place-requires-clause-none
split-place-requires-clause-none c =
    let r = c.requires.stands in
    let here = c.loop-number.invariant.made r.0 r.1 r.2 in (
      c.loop-number.number,
      0,
      holds_none c.args.shelf.now.key r.0 c.loop-number.number 0 r.1 c.loop-number.seat.me here,
      omega (arith, c.requires.workers),
    )

pub loop-number-init : goal.loop-number-init
loop-number-init c = record {
  table_is = refl;
  capacity = refl;
  many = ap length c.requires.none;
  made = λ first laid s. s;
  seats = λ first laid s.
      subst (All (IsSpareAt c.args.shelf.now.key c.args.shelf.now.table_id first laid)) (sym c.requires.none)
      (All-nil (IsSpareAt c.args.shelf.now.key c.args.shelf.now.table_id first laid));
}

pub loop-number-preserved : goal.loop-number-preserved
loop-number-preserved c =
    let key = c.args.shelf.now.key in
    let number = c.loop-number.number in
    let inv = c.loop-number.invariant in
    let old = c.loop-number.hands.items in
    let hand : Hand = record { seat = c.split-place.result; number = number } in
    let items : c.push_reserved.new.self.items ≡ old ++ hand ∷ [] = c.push_reserved.ensures.items in
    let next : suc number ≡ number + 1 = omega arith in
    record {
      table_is = c.split-place.ensures.table.0 ∙ inv.table_is;
      capacity = c.push_reserved.ensures.capacity ∙ inv.capacity;
      many = ap length items ∙ (length-append old (hand ∷ []) ∙ ap (λ (n : ℕ). n + 1) inv.many);
      made = λ first laid s. subst (λ (n : ℕ). Stands key first n 0 0 laid c.split-place.new.seat.me) next
          (stands_split key first number 0 laid c.loop-number.seat.me c.split-place.new.seat.me (inv.made first laid s) c.split-place.ensures.made);
      seats = λ first laid s. subst (All (IsSpareAt key c.args.shelf.now.table_id first laid)) (sym items)
          (All-push (IsSpareAt key c.args.shelf.now.table_id first laid) old hand (inv.seats first laid s)
          (record {
            table_is = c.split-place.ensures.table.1 ∙ (inv.table_is ∙ c.requires.table);
            spare_is = spare_split key first number 0 laid c.loop-number.seat.me c.split-place.result.me (inv.made first laid s) c.split-place.ensures.worker;
          }));
    }

pub returns-clause-made : goal.returns-clause-made
returns-clause-made c = λ first laid s.
    let all : c.loop-number.number ≡ c.args.workers = omega arith in
    subst (λ (n : ℕ). Stands c.args.shelf.now.key first n 0 0 laid c.loop-number.seat.me) all (c.loop-number.invariant.made first laid s)
