use Rattle.std.proofs.Common.{subst}
use Rattle.oe_check.specs.Checked.{CheckedGraph, IsKept}
use Rattle.oe_check.proofs.KeptLemmas.{sound_there, kept_there}
use Rattle.oe_check.proofs.checked.Checked.node.Goals as goal

pub unreachable-requires : goal.unreachable-requires
unreachable-requires c =
    let inside = c.self.inside in
    let k = subst (λ (g : CheckedGraph). IsKept g inside.ids.items inside.states.items inside.links.items) c.self.view_is c.self.invariant in
    sound_there c.args.self.now inside.ids.items inside.states.items inside.links.items k c.args.node c.requires c.index.result.now c.index.ensures
    c.in_default.not-Sound

pub returns : goal.returns
returns c =
    let inside = c.self.inside in
    let k = subst (λ (g : CheckedGraph). IsKept g inside.ids.items inside.states.items inside.links.items) c.self.view_is c.self.invariant in
    let kept =
    kept_there c.args.self.now inside.ids.items inside.states.items inside.links.items k c.args.node c.requires c.index.result.now
    c.index.ensures c.in-Sound.node c.in-Sound.is in
    record { shape = kept.shape_is; kind = kept.kind_is; operation = kept.operation_is; collection = kept.collection_is }
