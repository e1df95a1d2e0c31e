-- Worked values: the figures of a small graph, found by hand.
use Rattle.std.specs.Prelude.{◌≡◌, ℕ, pos, true, List, [], ◌∷◌, Some, None, codes, refl}
use Rattle.oe_dims.specs.Dimensions.{Dimensions}
use Rattle.oe_dims.specs.declared.dims.DimsRow.{DimsRow}
use Rattle.oe_dims.specs.declared.kind.CellKind.TheVariants.{Numbers}
use Rattle.oe_fold.specs.declared.reducer.Reducer.TheVariants.{Max}
use Rattle.oe_graph.specs.Tree as tree
use Rattle.oe_graph.specs.Tree.{Argument, Named, Nodes}
use Rattle.oe_expr.specs.Nodes.{down_from}
use Rattle.oe_order.specs.Graph.{reaches_within, in_run, run_of}
use Rattle.oe_order.specs.Live.{taken_from, is_live, live_count, width_of}
use Rattle.oe_order.specs.Order.{next_of, extend_order, loads_of, order_of}
use Rattle.oe_order.specs.Turns.{order_by_turns}
use Rattle.oe_plan.specs.Figures.{chunks_of}
use Rattle.oe_plan.specs.Turns.{in_order_of, turns_of}
use Rattle.oe_check.specs.Checked.{CheckedGraph}
use Rattle.oe_check.specs.Reach.{time_fold_of_node}
use Rattle.oe_window.specs.declared.grid.ChunkSize.{ChunkSize}
use Rattle.oe_slab.specs.Cuts.{links_behind}
use Rattle.oe_slab.specs.Figures.{largest_plane, largest_slab, slab_bound, width_before}

abbrev sides : ℕ → ℕ → ℕ → ChunkSize
sides x y t = record { x = x; y = y; t = t }

-- 2 dates, 2 bands and 4 × 4 pixels
abbrev small : Dimensions
small = record {
  epsg = 4326;
  t = Some (pos 0 ∷ pos 86400 ∷ []);
  bands = Some (codes "B1" ∷ codes "B2" ∷ []);
  y = Some (pos 3 ∷ pos 2 ∷ pos 1 ∷ pos 0 ∷ []);
  x = Some (pos 0 ∷ pos 1 ∷ pos 2 ∷ pos 3 ∷ []);
}

rows : List DimsRow
rows = record { id = codes "SMALL"; shape = small; kind = Numbers } ∷ []

abbrev load : Named
load =
    tree.named (codes "bands") tree.null (tree.named (codes "id") (tree.text (codes "SMALL")) (tree.named (codes "properties") tree.null (
    tree.named (codes "spatial_extent") tree.null (tree.named (codes "temporal_extent") tree.null tree.no_named))))

abbrev greatest : Nodes
greatest =
    tree.node (codes "m") (codes "max") None (
    tree.named (codes "data") (tree.from_parameter (codes "data")) (tree.named (codes "ignore_nodata") (tree.flag true) tree.no_named)) tree.no_nodes

abbrev reducing : Named
reducing =
    tree.named (codes "context") tree.null (tree.named (codes "data") (tree.from_node (codes "a")) (
    tree.named (codes "dimension") (tree.text (codes "t")) (tree.named (codes "reducer") (tree.callback greatest 0) tree.no_named)))

abbrev ones : Argument
ones = tree.list (tree.argument (tree.whole (pos 1)) (tree.argument (tree.whole (pos 1)) (tree.argument (tree.whole (pos 1)) tree.no_arguments)))

abbrev kernel : Named
kernel =
    tree.named (codes "border") (tree.whole (pos 0)) (tree.named (codes "data") (tree.from_node (codes "f")) (tree.named (codes "factor") (tree.whole (pos 1)) (
    tree.named (codes "kernel") (tree.list (tree.argument ones (tree.argument ones (tree.argument ones tree.no_arguments)))) (
    tree.named (codes "replace_invalid") (tree.whole (pos 0)) tree.no_named))))

abbrev saving : Named
saving =
    tree.named (codes "data") (tree.from_node (codes "k")) (tree.named (codes "format") (tree.text (codes "FJSON")) (
    tree.named (codes "options") (tree.object tree.no_named) tree.no_named))

-- the greatest cell over all dates of a load, a kernel of 3 × 3 on it, and its result saved
greatest_smoothed : CheckedGraph
greatest_smoothed = record {
  nodes =
      tree.node (codes "a") (codes "load_collection") None load (
      tree.node (codes "f") (codes "reduce_dimension") None reducing (
      tree.node (codes "k") (codes "apply_kernel") None kernel (
      tree.node (codes "s") (codes "save_result") None saving tree.no_nodes)));
  result = 3;
  rows = rows;
}

folds : time_fold_of_node greatest_smoothed 1 ≡ Some (Max, true)
unfolding greatest_smoothed rows down_from
folds = refl

-- both bands, and 2 × 2 pixels with one more to each side
plane : largest_plane greatest_smoothed (sides 2 2 1) ≡ 32
unfolding greatest_smoothed rows down_from reaches_within in_run run_of next_of extend_order loads_of order_of order_by_turns turns_of in_order_of
plane = refl

slab : largest_slab greatest_smoothed (sides 2 2 2) ≡ 64
unfolding greatest_smoothed rows down_from reaches_within in_run run_of next_of extend_order loads_of order_of order_by_turns turns_of in_order_of
slab = refl

-- the load alone
before : width_before greatest_smoothed 1 ≡ 1
unfolding greatest_smoothed rows down_from reaches_within in_run run_of next_of extend_order loads_of order_of order_by_turns turns_of in_order_of taken_from is_live live_count width_of
before = refl

-- the folded cube counts as loaded
behind : order_of (links_behind greatest_smoothed 1) 3 ≡ 1 ∷ 2 ∷ 3 ∷ []
unfolding greatest_smoothed rows reaches_within in_run run_of next_of extend_order loads_of order_of
behind = refl

-- 1 · 32 + 2 · 32 + 2 · 32 + 200
bound : slab_bound greatest_smoothed (sides 2 2 1) 1 ≡ 360
unfolding greatest_smoothed rows down_from reaches_within in_run run_of next_of extend_order loads_of order_of order_by_turns turns_of in_order_of taken_from is_live live_count width_of
bound = refl

chunks : chunks_of greatest_smoothed (sides 2 2 1) ≡ 4
unfolding greatest_smoothed rows down_from
chunks = refl
