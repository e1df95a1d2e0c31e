use Rattle.std.proofs.Common.{◌≡◌, false, get_or, sym, ap, ◌∙◌, arith}
use Rattle.std.proofs.lemmas.List.{get_or_default}
use borrow.Author.Count.{below_more}
use Rattle.oe_dims.specs.Names.{same_name}
use Rattle.oe_dims.proofs.IndexLemmas.{index_where_found}
use Rattle.oe_dims.proofs.OrderLemmas.{same_name-bytes_eq}
use Rattle.oe_graph.specs.declared.tree.Node.{Node}
use Rattle.oe_expr.proofs.StateLemmas.{none_named}
use Rattle.oe_expr.proofs.state.node_index.Goals as goal

pub returns-then-eq : goal.returns-then-eq
returns-then-eq c =
    let d = c.index-nodes-index.result in
    let test = rw c.as_str.ensures at c.eq.ensures ∙ same_name-bytes_eq (get_or c.args.nodes.now c.loop-index.index d).id c.args.id.now in
    sym (index_where_found (λ (n : Node). same_name n.id c.args.id.now) c.args.nodes.now c.loop-index.index d (omega arith)
    (λ k below. c.loop-index.invariant k d below) (sym test ∙ c.if-eq.true))

pub loop-index-preserved : goal.loop-index-preserved
loop-index-preserved c = λ k d below.
    let e = c.index-nodes-index.result in
    let test = rw c.as_str.ensures at c.eq.ensures ∙ same_name-bytes_eq (get_or c.args.nodes.now c.loop-index.index e).id c.args.id.now in
    below_more (λ j. same_name (get_or c.args.nodes.now j d).id c.args.id.now ≡ false) c.loop-index.index
    (λ j h. c.loop-index.invariant j d h)
    (ap (λ (n : Node). same_name n.id c.args.id.now) (get_or_default c.args.nodes.now c.loop-index.index d e (omega arith)) ∙ (sym test ∙ c.if-eq.false)) k below

pub returns : goal.returns
returns c = sym (none_named c.args.nodes.now c.args.id.now (λ k d below. c.loop-index.invariant k d (omega arith)))
