-- The assets of a job: the result texts of nodes of its graph, as it was sent (openEO API, batch jobs).
use Rattle.std.specs.Prelude.{ℕ, zero, suc, ◌+◌, ◌==◌, ◌||◌, ◌++◌, Bool, List, [], ◌∷◌, codes, if◌then◌else◌}
use Rattle.oe_dims.specs.Names.{same_name}
use Rattle.oe_graph.specs.Tree.{Nodes, no_nodes, node, PlainGraph}

-- a node makes an asset: it is the result node, or a call of `save_result`
abbrev pub makes_asset : ℕ → ℕ → List ℕ → Bool
makes_asset result index process_id = (index == result) || same_name process_id (codes "save_result")

-- of nodes that are counted from an index on, the indices of those that make an asset
abbrev pub asset_nodes_from : ℕ → ℕ → Nodes → List ℕ
asset_nodes_from result index no_nodes = []
asset_nodes_from result index (node id process_id namespace arguments rest) =
    if makes_asset result index process_id
    then index ∷ asset_nodes_from result (index + 1) rest
    else asset_nodes_from result (index + 1) rest

abbrev pub asset_nodes : PlainGraph → List ℕ
asset_nodes graph = asset_nodes_from graph.result 0 graph.nodes

-- their ids
abbrev pub asset_ids_from : ℕ → ℕ → Nodes → List (List ℕ)
asset_ids_from result index no_nodes = []
asset_ids_from result index (node id process_id namespace arguments rest) =
    if makes_asset result index process_id
    then id ∷ asset_ids_from result (index + 1) rest
    else asset_ids_from result (index + 1) rest

abbrev pub asset_ids : PlainGraph → List (List ℕ)
asset_ids graph = asset_ids_from graph.result 0 graph.nodes

-- the id of the node of an index
abbrev pub id_at : Nodes → ℕ → List ℕ
id_at no_nodes index = []
id_at (node id process_id namespace arguments rest) zero = id
id_at (node id process_id namespace arguments rest) (suc index) = id_at rest index

-- the name of the asset of a node
abbrev pub asset_name : List ℕ → List ℕ
asset_name id = id ++ codes ".json"
