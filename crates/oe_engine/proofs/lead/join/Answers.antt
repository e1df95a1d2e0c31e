use Rattle.std.proofs.Common.{◌≡◌, ◌∙◌, ◌+◌, ◌<◌, ◌∷◌, [], ℕ, List, Option, sym, ap, subst, arith}
use Rattle.atomic_table.specs.Table.{Allows, rest}
use Rattle.oe_engine.specs.Views.{At, IsOrderly, gives_up, starts, takes_back}
use Rattle.oe_engine.specs.declared.table.View.{View}
use Rattle.oe_engine.specs.declared.table.View.TheVariants.{Leads, Works}
use Rattle.oe_engine.proofs.RuleLemmas.{can_join}
use Rattle.oe_engine.proofs.lead.join.Goals as goal

pub join_seat-requires : goal.join_seat-requires
join_seat-requires c =
    let key = c.args.shelf.now.key in
    let none = c.requires.none in
    let other = c.requires.worker in (
      c.requires.table.0,
      c.requires.table.1,
      ap (λ (m : At). m.1) other.1,
      c.requires.words,
      can_join key c.args.seat.now.id c.args.other.id c.args.seat.now.me.0 c.args.other.me.0 none.0 other.0
          (ap (λ (m : At). m.0) none.1) (ap (λ (m : At). m.0) other.1) other.2,
    )
