use Rattle.oe_graph.specs.Plain.{plain_nodes}
use Rattle.oe_check.proofs.LinkLemmas.{rises}
use Rattle.oe_check.proofs.judge_inputs.input_named.Goals as goal

pub index_of-requires-clause-rise : goal.index_of-requires-clause-rise
index_of-requires-clause-rise c = rises (plain_nodes c.args.nodes.now) c.requires.resolved
