use Rattle.std.proofs.Common.{ap, ◌∙◌}
use Rattle.std.specs.Prelude.{is_some}
use Rattle.oe_graph.specs.Plain.{plain_nodes}
use Rattle.oe_calls.proofs.IndexLemmas.{some_named}
use Rattle.oe_resolve.proofs.dangling.has_id.Goals as goal

pub returns : goal.returns
returns c =
    c.is_some.ensures ∙ ap is_some c.find_index.ensures
    ∙ some_named (plain_nodes c.args.beside.now.nodes.now.items) c.args.id.now
