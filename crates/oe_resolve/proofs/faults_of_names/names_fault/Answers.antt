use Rattle.std.proofs.Common.{List, [], map, sym, ap, subst}
use Rattle.std.proofs.lemmas.Result.{IfOk-weaker}
use Rattle.oe_graph.specs.Plain.{plain_graph, plain_nodes, plain_stored}
use Rattle.oe_graph.specs.Tree.{PlainGraph}
use Rattle.oe_graph.proofs.PartLemmas.{graph_parts}
use Rattle.oe_resolve.specs.NameFaults.{IdsRise, OfObject}
use Rattle.oe_graph.specs.Faults.{IsLeastFault}
use Rattle.oe_resolve.proofs.faults_of_names.names_fault.Goals as goal

pub returns : goal.returns
returns c =
    let stored = map plain_stored c.args.judge.now.stored.now in
    let last = c.args.judge.now.last in
    let g = c.args.graph.now in
    IfOk-weaker c.object_fault.result _ (IsLeastFault (λ f. OfObject stored last f [] [] (plain_graph g).nodes))
    (λ o found. subst (λ ns. IsLeastFault (λ f. OfObject stored last f [] [] ns) o)
    (sym (ap (λ (p : PlainGraph). p.nodes) (graph_parts g)))
    (found (subst IdsRise (ap (λ (p : PlainGraph). p.nodes) (graph_parts g)) c.requires.rise)))
    c.object_fault.ensures
