use Rattle.std.proofs.Common.{◌≡◌, ◌<◌, ℕ, zero, suc, List, [], ◌∷◌, true, length, refl, sym, ap, ◌∙◌, inl, inr, arith}
use Rattle.std.proofs.lemmas.Bool.{cases_lt, false≢true}
use Rattle.oe_order.specs.Graph.{Node, arguments, graph_of}
use Rattle.oe_order.specs.Order.{contains}
use Rattle.oe_order.specs.declared.Links.{Links}
use Rattle.oe_order.proofs.Graphs.{arguments-graph_of, length-graph_of}
use Rattle.oe_resolve.proofs.cycle.lead_down.Goals as goal

-- what has arguments is a node
is_node : (nodes : List Node) (n a : ℕ) → contains (arguments nodes n) a ≡ true → n < length nodes
is_node [] n a e = absurd (false≢true e)
is_node (x ∷ xs) zero a e = omega arith
is_node (x ∷ xs) (suc n) a e = let below : n < length xs = is_node xs n a e in omega arith

pub loop-node-preserved : goal.loop-node-preserved
loop-node-preserved c = λ n h a e.
    let nodes = graph_of c.args.links.now in
    let i = c.loop-node.node in
    elim (cases_lt n i) [
      | inl lt ↦ c.loop-node.invariant n lt a e
      | inr ge ↦ (let s : n ≡ i = omega arith in
          let is = c.index-links-node.is in
          let args : arguments nodes i ≡ c.as_slice.result.now = arguments-graph_of c.args.links.now i c.index-links-node.result (omega arith) is ∙ ap (λ (z : Links). z.arguments.items) is ∙ sym c.as_slice.ensures.value in
          let w : a < i = c.if-not-all_below.ensures.0 refl a (ap (λ ys. contains ys a) (sym args) ∙ ap (λ m. contains (arguments nodes m) a) (sym s) ∙ e) in
          omega arith)
    ]

pub returns-then-not-all_below : goal.returns-then-not-all_below
returns-then-not-all_below c = (
  λ t. absurd (false≢true t),
  λ all.
      let i = c.loop-node.node in
      let is = c.index-links-node.is in
      let args : arguments (graph_of c.args.links.now) i ≡ c.as_slice.result.now = arguments-graph_of c.args.links.now i c.index-links-node.result (omega arith) is ∙ ap (λ (z : Links). z.arguments.items) is ∙ sym c.as_slice.ensures.value in
      c.if-not-all_below.ensures.1 (λ a e. all i a (ap (λ ys. contains ys a) args ∙ e)),
)

pub returns : goal.returns
returns c = (
  λ t n a e. c.loop-node.invariant n (omega (arith, is_node (graph_of c.args.links.now) n a e, length-graph_of c.args.links.now)) a e,
  λ all. refl,
)
