-- Worked meanings of whole graphs: what `process_graph` of an input becomes, over small collections.
use Rattle.std.specs.Prelude.{◌≡◌, ℕ, pos, true, List, [], ◌∷◌, Some, None, codes, refl}
use Rattle.jiff_core.specs.Calendar.{days_from_civil, day_count, days_of_years, days_of_months}
use Rattle.oe_cell.specs.Exact.{gcd_within, gcd_of, cell_of_lowest, exact}
use Rattle.oe_cell.specs.declared.cell.Cell.{Cell}
use Rattle.oe_cell.specs.declared.cell.Cell.TheVariants.{Empty, Flag}
use Rattle.oe_cube.specs.Collections.{Collection}
use Rattle.oe_dims.specs.Cube.{Cube}
use Rattle.oe_dims.specs.Instant.{instant_read}
use Rattle.oe_dims.specs.declared.kind.CellKind.{CellKind}
use Rattle.oe_dims.specs.declared.kind.CellKind.TheVariants.{Numbers, Flags}
use Rattle.oe_graph.specs.Tree as tree
use Rattle.oe_graph.specs.Tree.{Argument, Named, PlainGraph, values_from_list}
use Rattle.oe_expr.specs.Nodes.{down_from}
use Rattle.oe_meanings.specs.Graphs.{Collections, meaning, graph_outline, collection_rows}
use Rattle.oe_meanings.specs.Meaning.{Datacube, outline}
use Rattle.oe_check.proofs.WorkedWords.{whole, cells_of, largest, january_1, january_2, shape_with, cube_with, pixel, banded, dated, parameter, node_with, on_two, resolving, ratio, fraction}

abbrev of_kind : CellKind → Cube Cell → Collection
of_kind kind cube = record { shape = cube.shape; cells = cube.cells; kind = kind }

abbrev the_datacube : CellKind → Cube Cell → Datacube
the_datacube kind cube = record { cube = cube; kind = kind }

-- ONE holds 7; TWO has two dates with 1, 0; RATIO has bands B08 and B04 with 5 and 3; CLOUD is a collection of flags
collections : Collections
collections =
    (codes "ONE", of_kind Numbers (cube_with pixel (cells_of (7 ∷ []))))
    ∷ (codes "TWO", of_kind Numbers (dated (january_1 ∷ january_2 ∷ []) (cells_of (1 ∷ 0 ∷ []))))
    ∷ (codes "RATIO", of_kind Numbers (banded (codes "B08" ∷ codes "B04" ∷ []) (cells_of (5 ∷ 3 ∷ []))))
    ∷ (codes "CLOUD", of_kind Flags (dated (january_1 ∷ january_2 ∷ []) (Flag true ∷ Empty ∷ [])))
    ∷ []

-- ---- the arguments of some nodes, in byte order of their names and with their defaults

abbrev load : List ℕ → Named
load id =
    tree.named (codes "bands") tree.null (tree.named (codes "id") (tree.text id) (tree.named (codes "properties") tree.null (
    tree.named (codes "spatial_extent") tree.null (tree.named (codes "temporal_extent") tree.null tree.no_named))))

abbrev data_from : List ℕ → Named → Named
data_from id rest = tree.named (codes "data") (tree.from_node id) rest

abbrev between : List ℕ → Argument → List ℕ → Named
between from to id =
    data_from id (tree.named (codes "dimension") tree.null (tree.named (codes "extent") (tree.list (tree.argument (tree.text from)
    (tree.argument to tree.no_arguments))) tree.no_named))

abbrev calling : PlainGraph → Argument
calling g = tree.callback g.nodes g.result

abbrev applying : PlainGraph → List ℕ → Named
applying g id = tree.named (codes "context") tree.null (data_from id (tree.named (codes "process") (calling g) tree.no_named))

abbrev reducing_along : List ℕ → PlainGraph → List ℕ → Named
reducing_along dimension g id =
    tree.named (codes "context") tree.null (data_from id (tree.named (codes "dimension") (tree.text dimension)
    (tree.named (codes "reducer") (calling g) tree.no_named)))

abbrev merging : PlainGraph → List ℕ → List ℕ → Named
merging g one two =
    tree.named (codes "context") tree.null (tree.named (codes "cube1") (tree.from_node one) (
    tree.named (codes "cube2") (tree.from_node two) (tree.named (codes "overlap_resolver") (calling g) tree.no_named)))

abbrev masking : List ℕ → List ℕ → Named
masking data_id mask_id =
    data_from data_id (tree.named (codes "mask") (tree.from_node mask_id) (tree.named (codes "replacement") tree.null tree.no_named))

abbrev saving : List ℕ → Named
saving id =
    data_from id (tree.named (codes "format") (tree.text (codes "fjson")) (tree.named (codes "options") (tree.object tree.no_named) tree.no_named))

-- ---- one load, and a save of it

load_one : PlainGraph
load_one = record {
  nodes = node_with (codes "a") (codes "load_collection") (load (codes "ONE")) (node_with (codes "b") (codes "save_result") (saving (codes "a")) tree.no_nodes);
  result = 1;
}

seven : meaning collections load_one ≡ the_datacube Numbers (cube_with pixel (cells_of (7 ∷ [])))
unfolding collections load_one down_from
seven = refl

-- ---- a filter that keeps nothing

nothing_kept : PlainGraph
nothing_kept = record {
  nodes =
      node_with (codes "a") (codes "load_collection") (load (codes "ONE")) (
      node_with (codes "b") (codes "filter_temporal") (between (codes "2025-01-01") (tree.text (codes "2026-01-01")) (codes "a")) tree.no_nodes);
  result = 1;
}

no_dates : meaning collections nothing_kept ≡ the_datacube Numbers (cube_with (shape_with [] (codes "B1" ∷ []) (pos 0 ∷ []) (pos 0 ∷ [])) [])
unfolding collections nothing_kept down_from instant_read days_from_civil day_count days_of_years days_of_months
no_dates = refl

-- ---- a sum that does not fit, in a cell that a filter drops

dropped : PlainGraph
dropped = record {
  nodes =
      node_with (codes "a") (codes "load_collection") (load (codes "TWO")) (
      node_with (codes "b") (codes "apply") (applying (on_two (codes "add") (parameter (codes "x")) (tree.whole (pos 9223372036854775807))) (codes "a")) (
      node_with (codes "c") (codes "filter_temporal") (between (codes "2024-01-02") tree.null (codes "b")) tree.no_nodes));
  result = 2;
}

largest_stays : meaning collections dropped ≡ the_datacube Numbers (dated (january_2 ∷ []) (largest ∷ []))
unfolding collections dropped down_from instant_read days_from_civil day_count days_of_years days_of_months exact gcd_of gcd_within cell_of_lowest
largest_stays = refl

-- ---- the ratio of two bands, which are found by their names

band_ratio : PlainGraph
band_ratio = record {
  nodes =
      node_with (codes "a") (codes "load_collection") (load (codes "RATIO")) (
      node_with (codes "b") (codes "reduce_dimension") (reducing_along (codes "bands") ratio (codes "a")) tree.no_nodes);
  result = 1;
}

a_quarter :
    meaning collections band_ratio
    ≡ the_datacube Numbers (cube_with (record { epsg = 4326; t = Some (january_1 ∷ []); bands = None; y = Some (pos 0 ∷ []); x = Some (pos 0 ∷ []) }) (fraction (pos 1) 4 ∷ []))
unfolding collections band_ratio down_from exact gcd_of gcd_within cell_of_lowest
a_quarter = refl

-- ---- two nodes that refer to one: x + 1 and x, merged by their difference, and masked by a collection of flags

diamond : PlainGraph
diamond = record {
  nodes =
      node_with (codes "a") (codes "load_collection") (load (codes "TWO")) (
      node_with (codes "b") (codes "apply") (applying (on_two (codes "add") (parameter (codes "x")) (tree.whole (pos 1))) (codes "a")) (
      node_with (codes "c") (codes "merge_cubes") (merging (resolving (codes "subtract")) (codes "b") (codes "a")) (
      node_with (codes "d") (codes "load_collection") (load (codes "CLOUD")) (
      node_with (codes "e") (codes "mask") (masking (codes "c") (codes "d")) tree.no_nodes))));
  result = 4;
}

one_and_null : meaning collections diamond ≡ the_datacube Numbers (dated (january_1 ∷ january_2 ∷ []) (Empty ∷ whole 1 ∷ []))
unfolding collections diamond down_from exact gcd_of gcd_within cell_of_lowest
one_and_null = refl

-- ---- shapes and kinds, from those of the collections alone

outlined : graph_outline (collection_rows collections) band_ratio ≡ outline (meaning collections band_ratio)
unfolding collections band_ratio down_from exact gcd_of gcd_within cell_of_lowest
outlined = refl

outlined_diamond : graph_outline (collection_rows collections) diamond ≡ outline (meaning collections diamond)
unfolding collections diamond down_from exact gcd_of gcd_within cell_of_lowest
outlined_diamond = refl

flags_are_flags :
    graph_outline (collection_rows collections) (record { nodes = node_with (codes "a") (codes "load_collection") (load (codes "CLOUD")) tree.no_nodes; result = 0 })
    ≡ record { shape = (dated (january_1 ∷ january_2 ∷ []) []).shape; kind = Flags }
unfolding collections down_from
flags_are_flags = refl
