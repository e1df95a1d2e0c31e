use Rattle.std.proofs.Common.{◌≡◌, false, get_or, sym, ap, ◌∙◌, subst, inl, inr, arith}
use Rattle.std.proofs.lemmas.Bool.{cases_lt, false≢true, true≢false}
use Rattle.oe_order.specs.Graph.{graph_of, is_load}
use Rattle.oe_order.specs.declared.Links.{Links}
use Rattle.oe_order.proofs.Graphs.{is_load-graph_of}
use Rattle.oe_slab.proofs.parts.loads_nothing.Goals as goal

pub returns-then-links-node : goal.returns-then-links-node
returns-then-links-node c = (
  λ t. absurd (false≢true t),
  λ none.
      let i = c.loop-node.node-index in
      let below = c.requires i (omega arith) in
      let loads = is_load-graph_of c.args.links.now (get_or c.args.steps.now i 0) c.index-links-node.result below c.index-links-node.is
      ∙ ap (λ (z : Links). z.load) c.index-links-node.is in
      absurd (true≢false (sym c.if-links-node.true ∙ (sym loads ∙ none i (omega arith)))),
)

pub loop-node-preserved : goal.loop-node-preserved
loop-node-preserved c = λ i below.
    let k = c.loop-node.node-index in
    let inside = c.requires k (omega arith) in
    let none = is_load-graph_of c.args.links.now (get_or c.args.steps.now k 0) c.index-links-node.result inside c.index-links-node.is
    ∙ (ap (λ (z : Links). z.load) c.index-links-node.is ∙ c.if-links-node.false) in
    elim (cases_lt i k) [
      | inl lt ↦ c.loop-node.invariant i lt
      | inr ge ↦ (let same : k ≡ i = omega arith in
          subst (λ m. is_load (graph_of c.args.links.now) (get_or c.args.steps.now m 0) ≡ false) same none)
    ]
