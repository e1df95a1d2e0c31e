use Rattle.std.proofs.Common.{◌≡◌, ◌∙◌, ◌+◌, ◌<◌, ◌∷◌, [], ℕ, List, Option, sym, ap, subst, arith}
use Rattle.atomic_table.specs.Table.{Allows, rest}
use Rattle.oe_engine.specs.Views.{At, IsOrderly, gives_up, starts, takes_back}
use Rattle.oe_engine.specs.declared.table.View.{View}
use Rattle.oe_engine.specs.declared.table.View.TheVariants.{Leads, Works}
use Rattle.oe_engine.proofs.RuleLemmas.{can_start}
use Rattle.oe_engine.proofs.lead.start.Goals as goal

pub store-requires : goal.store-requires
store-requires c =
    let key = c.args.shelf.now.key in
    let holds = c.requires.holds in (
      c.requires.table,
      c.requires.words,
      can_start key c.args.shelf.now.table_id.slots c.args.seat.now.id c.args.seat.now.me holds.lead c.args.first holds.is holds.calm holds.held_is c.requires.room,
    )
