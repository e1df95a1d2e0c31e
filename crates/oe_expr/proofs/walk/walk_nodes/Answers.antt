use Rattle.std.proofs.Common.{◌<◌, ◌≤◌, length, None, sym, subst, ◌∙◌, arith}
use Rattle.std.specs.Prelude.{slice_index}
use Rattle.oe_graph.specs.Indices.{AreNodesSorted}
use Rattle.oe_graph.specs.Plain.{plain_nodes}
use Rattle.oe_graph.proofs.SortedWalkLemmas.{step_below, step_within, walked_first, walked_last, walked_next}
use Rattle.oe_expr.specs.Scope.{plain_scope}
use Rattle.oe_expr.specs.Walked.{IsWalked}
use Rattle.oe_expr.proofs.StateLemmas.{count_plain}
use Rattle.oe_expr.proofs.WalkLemmas.{walked_none, checked_seen}
use Rattle.oe_expr.proofs.walk.walk_nodes.Goals as goal

pub sort_nodes-requires : goal.sort_nodes-requires
sort_nodes-requires c = record { acyclic = c.requires.resolved.resolved.acyclic }

pub loop-index-init : goal.loop-index-init
loop-index-init c =
    let scope = plain_scope c.args.scope.now in
    let nodes = c.args.nodes.now.items in
    let walk = c.in_ok-walk.walk in (
      walked_first (plain_nodes nodes) c.as_slice-indices.result.now walk.states.items
          (c.in_ok-walk.ensures.states ∙ sym (count_plain nodes)) c.in_ok-walk.ensures.unseen,
      subst (IsWalked scope c.args.context.now nodes c.args.path.now walk.states.items walk.order.items) (sym c.in_ok-walk.ensures.found)
          (subst (λ order. IsWalked scope c.args.context.now nodes c.args.path.now walk.states.items order None) (sym c.in_ok-walk.ensures.order)
          (walked_none scope c.args.context.now nodes c.args.path.now c.requires.resolved walk.states.items c.in_ok-walk.ensures.unseen)),
    )

pub visit-requires-clause-next : goal.visit-requires-clause-next
visit-requires-clause-next c =
    let nodes = c.args.nodes.now.items in
    record {
      within = subst (λ count. slice_index c.as_slice-indices.result.now c.loop-index.index-index < count) (count_plain nodes)
          (step_within (plain_nodes nodes) c.as_slice-indices.result.now
          (subst (AreNodesSorted (plain_nodes nodes)) (sym c.as_slice-indices.ensures.value) c.in_ok-sorted.ensures.sorted)
          c.loop-index.index-index c.loop-index.walk.states.items c.loop-index.invariant.0 c.loop-index-test.true);
      as_many = c.loop-index.invariant.0.as_many ∙ count_plain nodes;
      unseen = c.loop-index.invariant.0.unseen c.loop-index.index-index (omega arith) c.loop-index-test.true;
      below = step_below (plain_nodes nodes) c.as_slice-indices.result.now
          (subst (AreNodesSorted (plain_nodes nodes)) (sym c.as_slice-indices.ensures.value) c.in_ok-sorted.ensures.sorted)
          c.loop-index.index-index c.loop-index.walk.states.items c.loop-index.invariant.0 c.loop-index-test.true;
    }

pub visit-requires-clause-walked : goal.visit-requires-clause-walked
visit-requires-clause-walked c = c.loop-index.invariant.1

pub loop-index-preserved : goal.loop-index-preserved
loop-index-preserved c =
    let nodes = c.args.nodes.now.items in
    let is = c.in_ok-visit.ensures in (
      walked_next (plain_nodes nodes) c.as_slice-indices.result.now
          (subst (AreNodesSorted (plain_nodes nodes)) (sym c.as_slice-indices.ensures.value) c.in_ok-sorted.ensures.sorted)
          c.loop-index.index-index c.loop-index.walk.states.items c.loop-index.invariant.0 c.loop-index-test.true
          c.visit.new.walk.states.items (is.states ∙ sym (count_plain nodes)) is.step,
      is.walked,
    )

pub returns : goal.returns
returns c =
    let scope = plain_scope c.args.scope.now in
    let nodes = c.args.nodes.now.items in
    let walk = c.loop-index.walk in
    let r = c.loop-index.invariant in
    let all : length c.as_slice-indices.result.now ≤ c.loop-index.index-index = omega (arith, c.loop-index-test.false) in
    checked_seen scope c.args.context.now nodes c.args.path.now c.requires.resolved walk.states.items walk.order.items walk.found r.0.as_many
    (walked_last (plain_nodes nodes) c.as_slice-indices.result.now
    (subst (AreNodesSorted (plain_nodes nodes)) (sym c.as_slice-indices.ensures.value) c.in_ok-sorted.ensures.sorted)
    c.loop-index.index-index walk.states.items r.0 all) r.1
