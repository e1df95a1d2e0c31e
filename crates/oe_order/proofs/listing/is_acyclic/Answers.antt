use Rattle.std.proofs.Common.{◌≡◌, length, arith}
use Rattle.std.proofs.lemmas.Bool.{eq-eqb, eqb-true}
use Rattle.oe_order.specs.Graph.{graph_of}
use Rattle.oe_order.proofs.Graphs.{length-graph_of}
use Rattle.oe_order.proofs.Sorting.{IsAcyclic-listed, all_by_count, all_listed, count_by_all}
use Rattle.oe_order.proofs.listing.is_acyclic.Goals as goal

pub returns : goal.returns
returns c =
    let nodes = graph_of c.args.nodes.now in
    let steps = c.in_ok-steps.steps.items in
    let size = length-graph_of c.args.nodes.now in
    let s = c.in_ok-steps.ensures.sorted in (
      λ e.
          let same : c.len.result ≡ length c.args.nodes.now = eqb-true c.len.result (length c.args.nodes.now) e in
          IsAcyclic-listed nodes steps c.requires.named s.sorted
          (all_by_count nodes steps s.sorted (omega (arith, same, size, c.len.ensures, c.in_ok-steps.steps.ok.0))),
      λ acyclic.
          let many = count_by_all nodes steps s.sorted (all_listed nodes steps acyclic c.requires.named s) in
          eq-eqb c.len.result (length c.args.nodes.now) (omega (arith, many, size, c.len.ensures, c.in_ok-steps.steps.ok.0)),
    )
