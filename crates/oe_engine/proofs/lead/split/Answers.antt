use Rattle.std.proofs.Common.{◌≡◌, ◌∙◌, ◌+◌, ◌<◌, ◌∷◌, [], ℕ, List, Option, sym, ap, subst, arith}
use Rattle.atomic_table.specs.Table.{Allows, rest}
use Rattle.oe_engine.specs.Views.{At, IsOrderly, gives_up, starts, takes_back}
use Rattle.oe_engine.specs.declared.table.View.{View}
use Rattle.oe_engine.specs.declared.table.View.TheVariants.{Leads, Works}
use Rattle.oe_engine.proofs.RuleLemmas.{can_split}
use Rattle.oe_engine.proofs.lead.split.Goals as goal

pub split_seat-requires : goal.split_seat-requires
split_seat-requires c =
    let key = c.args.shelf.now.key in
    let none = c.requires.none.2 in (
      c.requires.table,
      c.requires.words,
      can_split key c.args.seat.now.id c.args.seat.now.me.0 none.lead (ap (λ (m : At). m.0) none.is) none.held
          (omega (arith, none.made_is, c.requires.none.3)),
    )
