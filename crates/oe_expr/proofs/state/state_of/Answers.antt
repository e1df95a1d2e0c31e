use Rattle.std.proofs.Common.{◌<◌, length, sym, ◌∙◌, arith, rules}
use Rattle.oe_dims.specs.Names.{same_name}
use Rattle.oe_dims.proofs.IndexLemmas.{index_where_within}
use Rattle.oe_graph.specs.declared.tree.Node.{Node}
use Rattle.oe_expr.proofs.state.state_of.Goals as goal

pub bounds-states-index : goal.bounds-states-index
bounds-states-index c =
    let below = index_where_within (λ (n : Node). same_name n.id c.args.id.now) c.args.nodes.now c.in-Some.index (sym c.node_index.ensures ∙ c.in-Some.is) in
    omega arith

pub offset_bounds-states-index : goal.offset_bounds-states-index
offset_bounds-states-index c =
    let below = index_where_within (λ (n : Node). same_name n.id c.args.id.now) c.args.nodes.now c.in-Some.index (sym c.node_index.ensures ∙ c.in-Some.is) in
    let within : c.in-Some.index < length c.args.states.now = omega arith in
    search rules
