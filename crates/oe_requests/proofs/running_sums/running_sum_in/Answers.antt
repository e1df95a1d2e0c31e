use Rattle.std.proofs.Common.{Some, None, subst}
use Rattle.oe_graph.specs.Plain.{plain_graph}
use Rattle.oe_graph.specs.declared.tree.Graph.{out-Graph}
use Rattle.oe_requests.specs.RunningSums.{IsSumsFault}
use Rattle.oe_requests.proofs.RunningSumLemmas.{of_graph, are_sums}
use Rattle.oe_requests.proofs.running_sums.running_sum_in.Goals as goal

pub returns-in-Some-clause-refused : goal.returns-in-Some-clause-refused
returns-in-Some-clause-refused c =
    let g = c.args.process.now in
    let id = c.args.id.now in
    of_graph g id (Some c.in-Some.fault) (subst (IsSumsFault _ id) c.in-Some.is (c.in_ok-fault.ensures (out-Graph g).result))

pub returns-in-None-clause-faultless : goal.returns-in-None-clause-faultless
returns-in-None-clause-faultless c =
    let g = c.args.process.now in
    let id = c.args.id.now in
    are_sums id (plain_graph g) (of_graph g id None (subst (IsSumsFault _ id) c.in-None.is (c.in_ok-fault.ensures (out-Graph g).result)))
