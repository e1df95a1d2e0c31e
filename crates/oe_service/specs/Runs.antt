-- What the run of a job has to make: its graph as it was queued, and the text of each asset.
use Rattle.std.specs.Prelude.{ℕ, List, [], option_and_then, slice_get, slice_index, unwrap_or}
use Rattle.std.specs.Option.{option_map_or}
use Rattle.serde_json.specs.Read.{read}
use Rattle.oe_book.specs.Assets.{asset_ids, asset_name, asset_nodes}
use Rattle.oe_dims.specs.declared.dims.DimsRow.{DimsRow}
use Rattle.oe_graph.specs.Built.{graph_of}
use Rattle.oe_graph.specs.Form.{nodes_in}
use Rattle.oe_graph.specs.Tree.{PlainGraph, no_nodes}
use Rattle.oe_jobs.specs.Plain.{PlainJob, PlainRan}
use Rattle.oe_judge.specs.Judged.{checked_over, having_result}
use Rattle.oe_plan.specs.Figures.{chunks_of}
use Rattle.oe_check.specs.Checked.{CheckedGraph}
use Rattle.oe_window.specs.declared.grid.ChunkSize.{ChunkSize}

-- ---- what was queued

abbrev pub no_graph : PlainGraph
no_graph = record { nodes = no_nodes; result = 0 }

-- the graph that a text is, and one without nodes of a text that is none
abbrev pub graph_in : List ℕ → PlainGraph
graph_in text = option_map_or graph_of (option_and_then nodes_in (read text)) no_graph

abbrev pub no_ran : PlainRan
no_ran = record { process = []; stored = [] }

-- what a job runs, as it was when the job was queued
abbrev pub ran_of : PlainJob → PlainRan
ran_of job = unwrap_or job.ran no_ran

abbrev pub graph_of_ran : PlainRan → PlainGraph
graph_of_ran ran = graph_in ran.process

-- ---- its assets

-- the ids of the nodes that make an asset each, in the order of the assets
abbrev pub ids_of_ran : PlainRan → List (List ℕ)
ids_of_ran ran = asset_ids (graph_of_ran ran)

-- the graph whose result is the node of the asset of an index
abbrev pub asset_source : PlainRan → ℕ → PlainGraph
asset_source ran k = having_result (slice_index (asset_nodes (graph_of_ran ran)) k) (graph_of_ran ran)

-- the same with all calls replaced and with all defaults, over collections of these rows
abbrev pub asset_graph : List DimsRow → PlainRan → ℕ → CheckedGraph
asset_graph dims ran k = checked_over dims ran.stored (asset_source ran k)

-- how many chunks its run has
abbrev pub asset_chunks : List DimsRow → ChunkSize → PlainRan → ℕ → ℕ
asset_chunks dims size ran k = chunks_of (asset_graph dims ran k) size

-- the name of the asset of an index, of these ids
abbrev pub name_at : List (List ℕ) → ℕ → List ℕ
name_at ids k = asset_name (unwrap_or (slice_get ids k) [])
