use Rattle.std.proofs.Common.{◌≡◌, ◌<◌, get_or, sym, ap, ◌∙◌, subst, inl, inr, refl, arith}
use Rattle.std.proofs.lemmas.Bool.{cases_lt, false≢true}
use Rattle.oe_order.specs.Graph.{graph_of, arguments}
use Rattle.oe_order.specs.Order.{contains}
use Rattle.oe_order.specs.declared.Links.{Links}
use Rattle.oe_order.proofs.Graphs.{length-graph_of, arguments-graph_of}
use Rattle.oe_order.proofs.RankLemmas.{RefersWithin-ranked, IsAcyclic-ranked, IsRanking-from, IsRanking-at}
use Rattle.oe_order.proofs.ranks.is_ranked.Goals as goal

pub loop-node-preserved : goal.loop-node-preserved
loop-node-preserved c = (
  c.loop-node.invariant.0,
  λ n h a e.
      let nodes = graph_of c.args.nodes.now in
      let i = c.loop-node.node in
      elim (cases_lt n i) [
        | inl lt ↦ c.loop-node.invariant.1 n lt a e
        | inr ge ↦ (let s : n ≡ i = omega arith in
            let is = c.index-nodes-node.is in
            let args : arguments nodes i ≡ c.as_slice.result.now = arguments-graph_of c.args.nodes.now i c.index-nodes-node.result (omega arith) is ∙ ap (λ (z : Links). z.arguments.items) is ∙ sym c.as_slice.ensures.value in
            let w = c.if-not-all_below.ensures.0 refl a (ap (λ ys. contains ys a) (sym args) ∙ ap (λ m. contains (arguments nodes m) a) (sym s) ∙ e) in
            (omega (arith, w.0, c.loop-node.invariant.0, length-graph_of c.args.nodes.now), subst (λ m. get_or c.args.ranks.now a 0 < get_or c.args.ranks.now m 0) (sym s) w.1))
      ],
)

pub returns-clause-named : goal.returns-clause-named
returns-clause-named c = λ t. RefersWithin-ranked (graph_of c.args.nodes.now) c.args.ranks.now (λ n h. c.loop-node.invariant.1 n (omega (arith, h, length-graph_of c.args.nodes.now)))

pub returns-clause-acyclic : goal.returns-clause-acyclic
returns-clause-acyclic c = λ t. IsAcyclic-ranked (graph_of c.args.nodes.now) c.args.ranks.now (λ n h. c.loop-node.invariant.1 n (omega (arith, h, length-graph_of c.args.nodes.now)))

pub returns-then-ranks-nodes-clause-exact : goal.returns-then-ranks-nodes-clause-exact
returns-then-ranks-nodes-clause-exact c = (
  λ t. absurd (false≢true t),
  λ r. absurd (omega (arith, r.each, length-graph_of c.args.nodes.now, c.if-ranks-nodes.true)),
)

pub returns-then-not-all_below-clause-exact : goal.returns-then-not-all_below-clause-exact
returns-then-not-all_below-clause-exact c = (
  λ t. absurd (false≢true t),
  λ r.
      let i = c.loop-node.node in
      let is = c.index-nodes-node.is in
      let args : arguments (graph_of c.args.nodes.now) i ≡ c.as_slice.result.now = arguments-graph_of c.args.nodes.now i c.index-nodes-node.result (omega arith) is ∙ ap (λ (z : Links). z.arguments.items) is ∙ sym c.as_slice.ensures.value in
      c.if-not-all_below.ensures.1 (λ a e. IsRanking-at (graph_of c.args.nodes.now) c.args.ranks.now r i a (ap (λ ys. contains ys a) args ∙ e)),
)

pub returns-clause-exact : goal.returns-clause-exact
returns-clause-exact c = (
  λ t. IsRanking-from (graph_of c.args.nodes.now) c.args.ranks.now (omega (arith, c.loop-node.invariant.0, length-graph_of c.args.nodes.now)) (λ n h. c.loop-node.invariant.1 n (omega (arith, h, length-graph_of c.args.nodes.now))),
  λ r. refl,
)
