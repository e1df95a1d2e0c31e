use Rattle.std.proofs.Common.{◌≡◌, Bool, false, length, replicate, sym, subst, rules, arith}
use Rattle.oe_graph.specs.Plain.{plain_nodes}
use Rattle.oe_graph.specs.References.{each_node}
use Rattle.oe_resolve.specs.NameFaults.{AreMarks}
use Rattle.oe_graph.proofs.SearchLemmas.{ids_count, ids_length}
use Rattle.oe_resolve.proofs.CycleLemmas.{marks_unasked}
use Rattle.oe_resolve.proofs.faults_of_names.marks_of.Goals as goal

pub returns-clause-exact : goal.returns-clause-exact
returns-clause-exact c rise =
    let nodes = plain_nodes c.args.nodes.now.items in
    let is : c.in_ok-vec.field-0.items ≡ replicate c.len.result false = c.in_ok-vec.ensures.items_if_clones_equal (λ y h. search rules) in
    let long : c.len.result ≡ length (each_node nodes) = omega (arith, c.len.ensures, ids_length nodes, ids_count c.args.nodes.now.items) in
    subst (λ last. AreMarks last nodes c.in_ok-vec.field-0.items) (sym c.if-last.false)
    (subst (λ ms. AreMarks false nodes ms) (sym is) (marks_unasked nodes c.len.result long))
