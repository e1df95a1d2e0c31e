use Rattle.std.proofs.Common.{◌≡◌, ◌<◌, ℕ, zero, suc, List, length, refl, ap, subst, ◌∙◌, arith}
use Rattle.std.specs.List.{slice_index_or}
use Rattle.oe_expr.specs.Nodes.{id_at}
use Rattle.oe_graph.specs.Printed.{ids_of, node_count}
use Rattle.oe_graph.specs.Tree.{Nodes, no_nodes, node}
use Rattle.oe_graph.proofs.ResolvedLemmas.{length-ids_of}
use Rattle.oe_check.specs.Checked.{CheckedGraph, IsKept}
use Rattle.oe_check.proofs.checked.Checked.id.Goals as goal

id_read : (nodes : Nodes) (index : ℕ) (other : List ℕ) → index < node_count nodes → slice_index_or (ids_of nodes) index other ≡ id_at index nodes
id_read no_nodes index other below = absurd (omega arith)
id_read (node id process_id namespace arguments rest) zero other below = refl
id_read (node id process_id namespace arguments rest) (suc index) other below = id_read rest index other (omega arith)

pub index-requires : goal.index-requires
index-requires c =
    let inside = c.self.inside in
    let k = subst (λ (g : CheckedGraph). IsKept g inside.ids.items inside.states.items inside.links.items) c.self.view_is c.self.invariant in
    let long : length inside.ids.items ≡ node_count c.args.self.now.nodes = ap length k.ids_are ∙ length-ids_of c.args.self.now.nodes in
    let ok = inside.ids.ok in
    let within = c.requires in
    omega (arith, ok)

pub returns : goal.returns
returns c =
    let inside = c.self.inside in
    let k = subst (λ (g : CheckedGraph). IsKept g inside.ids.items inside.states.items inside.links.items) c.self.view_is c.self.invariant in
    c.as_str.ensures
    ∙ (c.index.ensures
    ∙ (ap (λ (ids : List (List ℕ)). slice_index_or ids c.args.node c.index.result.now) k.ids_are
    ∙ id_read c.args.self.now.nodes c.args.node c.index.result.now c.requires))
