use Rattle.std.proofs.Common.{◌≡◌, ◌∙◌, ◌+◌, ◌<◌, ◌∷◌, [], ℕ, List, Option, sym, ap, subst, arith}
use Rattle.atomic_table.specs.Table.{Allows, rest}
use Rattle.oe_engine.specs.Views.{At, IsOrderly, gives_up, starts, takes_back}
use Rattle.oe_engine.specs.declared.table.View.{View}
use Rattle.oe_engine.specs.declared.table.View.TheVariants.{Leads, Works}
use Rattle.oe_engine.proofs.RuleLemmas.{can_give}
use Rattle.oe_engine.proofs.lead.give.Goals as goal

pub load-requires : goal.load-requires
load-requires c =
    let key = c.args.shelf.now.key in
    let slots = c.args.shelf.now.table_id.slots in
    let has = c.requires.top in
    let one = c.exchange-there.ensures in
    let id = c.exchange-there.new.seat.id in
    let me_is : c.exchange-there.new.seat.me ≡ (Leads has.lead, (c.args.slot, c.args.bench) ∷ has.others) =
    one.3 ∙ ap (λ (m : At). let x : At = (m.0, (c.args.slot, c.args.bench) ∷ rest m.1) in x) has.is in (
      one.0 ∙ c.requires.table,
      c.requires.words,
      subst (λ (m : At). Allows (IsOrderly key) slots id m 0 (λ n. n) (gives_up m)) (sym me_is)
          (can_give key slots id c.args.slot has.lead c.args.bench has.others c.requires.slots has.calm has.held),
    )

pub returns-clause-given : goal.returns-clause-given
returns-clause-given c = λ l now others is.
    let me_is : c.exchange-there.new.seat.me ≡ (Leads l, (c.args.slot, c.args.bench) ∷ others) =
    c.exchange-there.ensures.3 ∙ ap (λ (m : At). let x : At = (m.0, (c.args.slot, c.args.bench) ∷ rest m.1) in x) is in
    c.load.ensures.2 l c.args.slot c.args.bench others me_is
