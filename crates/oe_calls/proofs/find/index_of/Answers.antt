use Rattle.std.proofs.Common.{◌≡◌, ap, ◌∙◌, arith}
use Rattle.std.specs.Prelude.{unwrap_or}
use Rattle.oe_graph.specs.Indices.{index_named}
use Rattle.oe_graph.specs.Plain.{plain_nodes}
use Rattle.oe_graph.specs.Printed.{node_count}
use Rattle.oe_graph.proofs.SearchLemmas.{node_count-plain}
use Rattle.oe_calls.proofs.IndexLemmas.{index_of-is}
use Rattle.oe_calls.proofs.find.index_of.Goals as goal

pub returns : goal.returns
returns c =
    let ns = c.args.nodes.now.items in
    let count : c.len.result ≡ node_count (plain_nodes ns) = omega (arith, c.len.ensures, node_count-plain ns, c.args.nodes.now.ok.0) in
    c.unwrap_or.ensures
    ∙ ap (λ o. unwrap_or o c.len.result) c.index_in.ensures
    ∙ ap (unwrap_or (index_named (plain_nodes ns) c.args.id.now)) count
    ∙ index_of-is (plain_nodes ns) c.args.id.now
