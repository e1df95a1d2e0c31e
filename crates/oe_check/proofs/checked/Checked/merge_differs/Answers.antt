use Rattle.std.proofs.Common.{subst, ◌∙◌, arith}
use Rattle.oe_check.specs.Checked.{CheckedGraph, IsKept}
use Rattle.oe_check.proofs.LinkLemmas.{links_length}
use Rattle.oe_check.proofs.WholeLemmas.{two_inputs, first_within, second_within, merged_here, whole_here}
use Rattle.oe_check.proofs.checked.Checked.merge_differs.Goals as goal

pub index-requires : goal.index-requires
index-requires c =
    let inside = c.self.inside in
    let k = subst (λ (g : CheckedGraph). IsKept g inside.ids.items inside.states.items inside.links.items) c.self.view_is c.self.invariant in
    let long = links_length c.args.self.now.nodes inside.links.items k.links_are in
    let ok = inside.links.ok in
    let within = c.requires.within in
    omega (arith, ok)

pub index-requires-2 : goal.index-requires-2
index-requires-2 c =
    let inside = c.self.inside in
    let k = subst (λ (g : CheckedGraph). IsKept g inside.ids.items inside.states.items inside.links.items) c.self.view_is c.self.invariant in
    let ok = c.index.result.now.arguments.ok in
    let two = two_inputs c.args.self.now k.resolved c.args.node c.requires.within c.requires.merges.0 c.requires.merges.1 inside.links.items k.links_are c.index.result.now c.index.ensures in
    omega (arith, ok)

pub shape-one-requires : goal.shape-one-requires
shape-one-requires c =
    let inside = c.self.inside in
    let k = subst (λ (g : CheckedGraph). IsKept g inside.ids.items inside.states.items inside.links.items) c.self.view_is c.self.invariant in
    first_within c.args.self.now k.resolved c.args.node c.requires.within c.requires.merges.0 c.requires.merges.1 inside.links.items k.links_are c.index.result.now c.index.ensures
    c.index-2.result.now c.index-2.ensures

pub index-requires-3 : goal.index-requires-3
index-requires-3 c =
    let inside = c.self.inside in
    let k = subst (λ (g : CheckedGraph). IsKept g inside.ids.items inside.states.items inside.links.items) c.self.view_is c.self.invariant in
    let ok = c.index.result.now.arguments.ok in
    let two = two_inputs c.args.self.now k.resolved c.args.node c.requires.within c.requires.merges.0 c.requires.merges.1 inside.links.items k.links_are c.index.result.now c.index.ensures in
    omega (arith, ok)

pub shape-two-requires : goal.shape-two-requires
shape-two-requires c =
    let inside = c.self.inside in
    let k = subst (λ (g : CheckedGraph). IsKept g inside.ids.items inside.states.items inside.links.items) c.self.view_is c.self.invariant in
    second_within c.args.self.now k.resolved c.args.node c.requires.within c.requires.merges.0 c.requires.merges.1 inside.links.items k.links_are c.index.result.now c.index.ensures
    c.index-3.result.now c.index-3.ensures

pub differ_along-requires : goal.differ_along-requires
differ_along-requires c =
    let inside = c.self.inside in
    let k = subst (λ (g : CheckedGraph). IsKept g inside.ids.items inside.states.items inside.links.items) c.self.view_is c.self.invariant in
    c.shape.ensures
    ∙ merged_here c.args.self.now k.resolved c.args.node c.requires.within c.requires.merges.0 c.requires.merges.1 inside.links.items k.links_are c.index.result.now c.index.ensures
    c.index-2.result.now c.index-3.result.now c.index-2.ensures c.index-3.ensures c.shape-one.result.now c.shape-two.result.now c.shape-one.ensures c.shape-two.ensures

pub returns : goal.returns
returns c =
    let inside = c.self.inside in
    let k = subst (λ (g : CheckedGraph). IsKept g inside.ids.items inside.states.items inside.links.items) c.self.view_is c.self.invariant in
    whole_here c.args.self.now k.resolved c.args.node c.requires.within c.requires.merges.0 c.requires.merges.1 inside.links.items k.links_are c.index.result.now c.index.ensures
    c.index-2.result.now c.index-3.result.now c.index-2.ensures c.index-3.ensures c.shape-one.result.now c.shape-two.result.now c.shape-one.ensures c.shape-two.ensures
    c.args.along c.differ_along.result c.differ_along.ensures
