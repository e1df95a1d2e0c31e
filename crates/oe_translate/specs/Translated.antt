-- A graph in which no calendar periods and no running sums are left: each node of them is written by processes that
-- take intervals and merge cubes. All other nodes stay as they are.
use Rattle.std.specs.Prelude.{ℕ, ℤ, Bool, false, ◌||◌, List, [], ◌∷◌, drop, codes, if◌then◌else◌}
use Rattle.std.specs.List.{list_any}
use Rattle.std.specs.Option.{option_map_or}
use Rattle.oe_dims.specs.Dimensions.{number_labels}
use Rattle.oe_dims.specs.Names.{same_name}
use Rattle.oe_dims.specs.declared.dims.DimsRow.{DimsRow}
use Rattle.oe_dims.specs.declared.kind.Kind.TheVariants.{Time}
use Rattle.oe_expr.specs.Nodes.{result_id}
use Rattle.oe_expr.specs.Requests.{read}
use Rattle.oe_graph.specs.References.{each_node}
use Rattle.oe_graph.specs.Tree.{Nodes, no_nodes, PlainGraph, PlainNode}
use Rattle.oe_calls.specs.Rounds.{put_node, index_of}
use Rattle.oe_meanings.specs.Graphs.{outline_at}
use Rattle.oe_requests.specs.Parameters.{callback_in, cube_in, period_in}
use Rattle.oe_requests.specs.Periods.{period_intervals}
use Rattle.oe_requests.specs.RunningSums.{ignores_nulls}
use Rattle.oe_requests.specs.declared.extent.Interval.{Interval}
use Rattle.oe_translate.specs.Written.{aggregated_node, merged_node, sums_node}

-- a node of calendar periods, and one of running sums
abbrev pub is_of_periods : PlainNode → Bool
is_of_periods n = same_name n.process_id (codes "aggregate_temporal_period")

abbrev pub is_of_sums : PlainNode → Bool
is_of_sums n = same_name n.process_id (codes "apply_dimension")

abbrev pub is_of_either : PlainNode → Bool
is_of_either n = is_of_periods n || is_of_sums n

-- whether the running sums of a node ignore nulls
abbrev pub ignores_at : PlainNode → Bool
ignores_at n = option_map_or ignores_nulls (read callback_in (codes "process") n.arguments) false

-- in a graph of these nodes, over collections of these shapes and kinds
module _ (rows : List DimsRow) (nodes : Nodes) where
  -- the labels of t of the cube that a node works on
  abbrev pub labels_at : PlainNode → List ℤ
  labels_at n =
      option_map_or (λ id. number_labels (outline_at rows nodes id).shape Time)
      (read cube_in (codes "data") n.arguments) []

  -- the calendar periods of these as intervals, each with its first instant as its label
  abbrev pub periods_at : PlainNode → List Interval
  periods_at n =
      option_map_or (λ period. period_intervals period (labels_at n)) (read period_in (codes "period") n.arguments) []

  -- the two nodes that a node of running sums becomes, put among others in byte order of their ids
  abbrev pub put_sums : PlainNode → Nodes → Nodes
  put_sums n found = put_node (merged_node n) (put_node (sums_node (ignores_at n) (labels_at n) n) found)

  -- What a node becomes, put among others in byte order of their ids: of periods the aggregation over them, of running
  -- sums two nodes.
  abbrev pub put_translated : PlainNode → Nodes → Nodes
  put_translated n found =
      if is_of_periods n then put_node (aggregated_node (periods_at n) n) found
      else (
      if is_of_sums n then put_sums n found else put_node n found)

  -- all that some nodes become
  abbrev pub translations : List PlainNode → Nodes
  translations [] = no_nodes
  translations (n ∷ rest) = put_translated n (translations rest)

  -- all that the nodes from an index on become
  abbrev pub translations_from : ℕ → Nodes
  translations_from index = translations (drop index (each_node nodes))

  abbrev pub translated_nodes : Nodes
  translated_nodes = translations (each_node nodes)

-- the graph of all that the nodes become, with the result node of the same id
abbrev pub translated : List DimsRow → PlainGraph → PlainGraph
translated rows g = record {
  nodes = translated_nodes rows g.nodes;
  result = index_of (result_id g) (translated_nodes rows g.nodes);
}

-- a node of the main graph is one of calendar periods or of running sums
abbrev pub has_either : PlainGraph → Bool
has_either g = list_any is_of_either (each_node g.nodes)
