use Rattle.std.proofs.Common.{ℕ, List, sym, ap, ◌∙◌, arith}
use Rattle.oe_graph.specs.Tree.{PlainGraph}
use Rattle.oe_graph.specs.declared.tree.Graph.{Graph, out-Graph}
use Rattle.oe_graph.proofs.PartLemmas.{graph_parts}
use Rattle.oe_calls.specs.Rounds.{id_at}
use Rattle.oe_calls.proofs.NodeLemmas.{id_at-found, id_at-none}
use Rattle.oe_calls.proofs.find.id_at.Goals as goal

-- the id of the result node
abbrev id_of_result : PlainGraph → List ℕ
id_of_result g = id_at g.nodes g.result

pub returns-then-index-len : goal.returns-then-index-len
returns-then-index-len c =
    let g : Graph = c.args.graph.now in
    let parts = out-Graph g in
    c.as_str.ensures
    ∙ (id_at-found parts.nodes.items parts.result c.index.result.now (omega arith) c.index.ensures
    ∙ sym (ap id_of_result (graph_parts g)))

pub returns-else-index-len : goal.returns-else-index-len
returns-else-index-len c =
    let g : Graph = c.args.graph.now in
    let parts = out-Graph g in
    id_at-none parts.nodes.items parts.result (omega arith) ∙ sym (ap id_of_result (graph_parts g))
