-- Worked values: the figures of small graphs, found by hand.
use Rattle.std.specs.Prelude.{◌≡◌, ℕ, true, pos, List, [], ◌∷◌, Some, None, codes, refl}
use Rattle.oe_dims.specs.Dimensions.{Dimensions}
use Rattle.oe_dims.specs.declared.dims.DimsRow.{DimsRow}
use Rattle.oe_dims.specs.declared.kind.CellKind.TheVariants.{Numbers}
use Rattle.oe_dims.specs.declared.kind.Kind.TheVariants.{Time, Bands, Y, X}
use Rattle.oe_graph.specs.Tree as tree
use Rattle.oe_graph.specs.Tree.{Argument, Named, Nodes}
use Rattle.oe_expr.specs.Nodes.{down_from}
use Rattle.oe_order.specs.Graph.{reaches_within, in_run, run_of}
use Rattle.oe_order.specs.Live.{taken_from, is_live, live_count}
use Rattle.oe_order.specs.Order.{next_of, extend_order, loads_of, order_of}
use Rattle.oe_order.specs.Turns.{order_by_turns}
use Rattle.oe_check.specs.Checked.{CheckedGraph}
use Rattle.oe_window.specs.declared.grid.ChunkSize.{ChunkSize}
use Rattle.oe_plan.specs.Figures.{steps_of, side_along, width_of_run, bound_of, chunks_of}
use Rattle.oe_plan.specs.Turns.{in_order_of, turns_of}

abbrev sides : ℕ → ℕ → ℕ → ChunkSize
sides x y t = record { x = x; y = y; t = t }

-- 2 dates, 2 bands and 4 × 4 pixels
abbrev small : Dimensions
small = record {
  epsg = 4326;
  t = Some (pos 0 ∷ pos 86400 ∷ []);
  bands = Some (codes "B1" ∷ codes "B2" ∷ []);
  y = Some (pos 3 ∷ pos 2 ∷ pos 1 ∷ pos 0 ∷ []);
  x = Some (pos 0 ∷ pos 1 ∷ pos 2 ∷ pos 3 ∷ []);
}

rows : List DimsRow
rows = record { id = codes "SMALL"; shape = small; kind = Numbers } ∷ []

abbrev load : Named
load =
    tree.named (codes "bands") tree.null (tree.named (codes "id") (tree.text (codes "SMALL")) (tree.named (codes "properties") tree.null (
    tree.named (codes "spatial_extent") tree.null (tree.named (codes "temporal_extent") tree.null tree.no_named))))

abbrev ones : Argument
ones = tree.list (tree.argument (tree.whole (pos 1)) (tree.argument (tree.whole (pos 1)) (tree.argument (tree.whole (pos 1)) tree.no_arguments)))

abbrev kernel : Argument → Named
kernel border =
    tree.named (codes "border") border (tree.named (codes "data") (tree.from_node (codes "a")) (tree.named (codes "factor") (tree.whole (pos 1)) (
    tree.named (codes "kernel") (tree.list (tree.argument ones (tree.argument ones (tree.argument ones tree.no_arguments)))) (
    tree.named (codes "replace_invalid") (tree.whole (pos 0)) tree.no_named))))

abbrev saving : Named
saving =
    tree.named (codes "data") (tree.from_node (codes "k")) (tree.named (codes "format") (tree.text (codes "FJSON")) (
    tree.named (codes "options") (tree.object tree.no_named) tree.no_named))

-- a kernel of 3 × 3 on a load, and its result saved
convolved : Argument → CheckedGraph
convolved border = record {
  nodes =
      tree.node (codes "a") (codes "load_collection") None load (
      tree.node (codes "k") (codes "apply_kernel") None (kernel border) (
      tree.node (codes "s") (codes "save_result") None saving tree.no_nodes));
  result = 2;
  rows = rows;
}

three_steps : steps_of (convolved (tree.whole (pos 0))) ≡ 0 ∷ 1 ∷ 2 ∷ []
unfolding convolved rows down_from reaches_within in_run run_of next_of extend_order loads_of order_of order_by_turns turns_of in_order_of
three_steps = refl

four_columns : side_along (convolved (tree.whole (pos 0))) (sides 2 2 1) X ≡ 4
unfolding convolved rows down_from reaches_within in_run run_of next_of extend_order loads_of order_of order_by_turns turns_of in_order_of
four_columns = refl

one_date : side_along (convolved (tree.whole (pos 0))) (sides 2 2 1) Time ≡ 1
unfolding convolved rows down_from reaches_within in_run run_of next_of extend_order loads_of order_of order_by_turns turns_of in_order_of
one_date = refl

both_bands : side_along (convolved (tree.whole (pos 0))) (sides 2 2 1) Bands ≡ 2
unfolding convolved rows down_from reaches_within in_run run_of next_of extend_order loads_of order_of order_by_turns turns_of in_order_of
both_bands = refl

three_rows : side_along (convolved (tree.whole (pos 0))) (sides 1 1 1) Y ≡ 3
unfolding convolved rows down_from reaches_within in_run run_of next_of extend_order loads_of order_of order_by_turns turns_of in_order_of
three_rows = refl

wraps_whole_rows : side_along (convolved (tree.text (codes "wrap"))) (sides 1 1 1) Y ≡ 4
unfolding convolved rows down_from reaches_within in_run run_of next_of extend_order loads_of order_of order_by_turns turns_of in_order_of
wraps_whole_rows = refl

bound : bound_of (convolved (tree.whole (pos 0))) (sides 2 2 1) 1 ≡ 528
unfolding convolved rows down_from reaches_within in_run run_of next_of extend_order loads_of order_of order_by_turns turns_of in_order_of taken_from is_live live_count
bound = refl

chunks : chunks_of (convolved (tree.whole (pos 0))) (sides 2 2 1) ≡ 8
unfolding convolved rows down_from
chunks = refl

abbrev summing : Nodes
summing =
    tree.node (codes "k") (codes "cumsum") None (
    tree.named (codes "data") (tree.from_parameter (codes "data")) (tree.named (codes "ignore_nodata") (tree.flag true) tree.no_named)) tree.no_nodes

abbrev sums : Named
sums =
    tree.named (codes "context") tree.null (tree.named (codes "data") (tree.from_node (codes "a")) (
    tree.named (codes "dimension") (tree.text (codes "t")) (tree.named (codes "process") (tree.callback summing 0) (
    tree.named (codes "target_dimension") tree.null tree.no_named))))

-- the running sums of a load
summed : CheckedGraph
summed = record {
  nodes =
      tree.node (codes "a") (codes "load_collection") None load (
      tree.node (codes "b") (codes "apply_dimension") None sums tree.no_nodes);
  result = 1;
  rows = rows;
}

-- the load, the sums and the node
three_windows : width_of_run summed ≡ 3
unfolding summed rows down_from reaches_within in_run run_of next_of extend_order loads_of order_of order_by_turns turns_of in_order_of taken_from is_live live_count
three_windows = refl

-- 2 · (3 · 16 + 200)
bound_with_sums : bound_of summed (sides 2 2 1) 1 ≡ 496
unfolding summed rows down_from reaches_within in_run run_of next_of extend_order loads_of order_of order_by_turns turns_of in_order_of taken_from is_live live_count
bound_with_sums = refl

abbrev saved : Named
saved =
    tree.named (codes "data") (tree.from_node (codes "a")) (tree.named (codes "format") (tree.text (codes "FJSON")) (
    tree.named (codes "options") (tree.object tree.no_named) tree.no_named))

abbrev merging : Named
merging =
    tree.named (codes "context") tree.null (tree.named (codes "cube1") (tree.from_node (codes "n")) (
    tree.named (codes "cube2") (tree.from_node (codes "n-1")) (tree.named (codes "overlap_resolver") tree.null tree.no_named)))

-- the running sums of a load and, under an id that goes on behind theirs, the load itself, and both merged
turned : CheckedGraph
turned = record {
  nodes =
      tree.node (codes "a") (codes "load_collection") None load (
      tree.node (codes "n") (codes "apply_dimension") None sums (
      tree.node (codes "n-1") (codes "save_result") None saved (
      tree.node (codes "o") (codes "merge_cubes") None merging tree.no_nodes)));
  result = 3;
  rows = rows;
}

-- `n-1` comes before `n/sum`
sums_later : steps_of turned ≡ 0 ∷ 2 ∷ 1 ∷ 3 ∷ []
unfolding turned rows down_from reaches_within in_run run_of next_of extend_order loads_of order_of order_by_turns turns_of in_order_of
sums_later = refl

-- the load, `n-1`, the sums and `n`
four_windows : width_of_run turned ≡ 4
unfolding turned rows down_from reaches_within in_run run_of next_of extend_order loads_of order_of order_by_turns turns_of in_order_of taken_from is_live live_count
four_windows = refl
