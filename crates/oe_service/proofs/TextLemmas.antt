-- The text of a process is that of one graph, and no fault of its form stands in it.
use Rattle.std.proofs.Common.{◌≡◌, ◌<◌, ℕ, ◌+◌, zero, suc, List, [], ◌∷◌, length, get_or, ap, sym, ◌∙◌, subst, arith}
use Rattle.std.specs.Prelude.{map, slice_index, option_and_then}
use Rattle.std.proofs.lemmas.List.{get_or_read, length-map}
use Rattle.std.specs.List.{AllByRecursion}
use Rattle.std.specs.Option.{option_map_or}
use Rattle.oe_graph.specs.Built.{graph_of}
use Rattle.oe_graph.specs.Form.{nodes_in}
use Rattle.oe_graph.specs.Read.{Reads}
use Rattle.oe_book.specs.Assets.{asset_ids, asset_nodes, id_at}
use Rattle.oe_book.proofs.AssetLemmas.{nodes_below}
use Rattle.oe_graph.specs.Printed.{node_count}
use Rattle.oe_graph.specs.Tree.{PlainGraph}
use Rattle.oe_service.specs.Runs.{graph_in, no_graph}

pub read_graph_is : (text : List ℕ) (g : PlainGraph) → Reads text g → g ≡ graph_in text
read_graph_is text g reads =
    reads.is_graph.built
    ∙ sym (ap (λ d. option_map_or graph_of (option_and_then nodes_in d) no_graph) reads.is_read.value
    ∙ ap (λ m. option_map_or graph_of m no_graph) reads.is_graph.is_main)

-- ---- the nodes that make assets are nodes of the graph

at_index : (n : ℕ) (xs : List ℕ) (k : ℕ) → AllByRecursion (λ i. i < n) xs → k < length xs → get_or xs k 0 < n
at_index n [] k all within = absurd (omega (arith, within))
at_index n (x ∷ xs) zero all within = all.0
at_index n (x ∷ xs) (suc k) all within = at_index n xs k all.1 (omega (arith, within))

pub asset_node_within : (g : PlainGraph) (k : ℕ) → k < length (asset_nodes g)
    → slice_index (asset_nodes g) k < node_count g.nodes
asset_node_within g k within =
    let same : 0 + node_count g.nodes ≡ node_count g.nodes = omega arith in
    at_index (node_count g.nodes) (asset_nodes g) k
    (subst (λ (n : ℕ). AllByRecursion (λ i. i < n) (asset_nodes g)) same (nodes_below g.result 0 g.nodes)) within

-- the node that is read at the index of an asset
pub asset_read_within : (g : PlainGraph) (nodes : List ℕ) (k node_at : ℕ) → nodes ≡ asset_nodes g → k < length (asset_ids g)
    → map (id_at g.nodes) nodes ≡ asset_ids g → node_at ≡ get_or nodes k node_at → node_at < node_count g.nodes
asset_read_within g nodes k node_at nodes_are within ids is =
    let long : length nodes ≡ length (asset_ids g) = sym (length-map nodes (id_at g.nodes)) ∙ ap length ids in
    let inside : k < length nodes = omega (arith, long, within) in
    let same : length nodes ≡ length (asset_nodes g) = ap length nodes_are in
    let read : node_at ≡ get_or (asset_nodes g) k 0 =
    get_or_read nodes k node_at inside is 0 ∙ ap (λ xs. get_or xs k 0) nodes_are in
    subst (λ n. n < node_count g.nodes) (sym read) (asset_node_within g k (omega (arith, same, inside)))
