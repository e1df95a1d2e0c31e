use Rattle.std.proofs.Common.{◌<◌, length, sym, ap, subst, ◌∙◌}
use Rattle.oe_dims.specs.Names.{names_rise}
use Rattle.oe_check.proofs.KeptLemmas.{ids_rise, ids_few}
use Rattle.oe_check.proofs.checked.Checked.find.Goals as goal

pub index_among-requires-clause-rising : goal.index_among-requires-clause-rising
index_among-requires-clause-rising c =
    let inside = c.self.inside in
    ap names_rise c.deref.ensures.value ∙ ids_rise _ inside.ids.items inside.states.items inside.links.items c.self.invariant

pub index_among-requires-clause-few : goal.index_among-requires-clause-few
index_among-requires-clause-few c =
    let inside = c.self.inside in
    subst (λ ids. length ids < 4294967296) (sym c.deref.ensures.value)
    (ids_few _ inside.ids.items inside.states.items inside.links.items c.self.invariant)
