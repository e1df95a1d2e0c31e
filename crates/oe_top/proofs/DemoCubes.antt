-- No fault of the arguments and the cubes of the demonstration stands, and so none at all.
use Rattle.std.proofs.Common.{◌≡◌, ℕ, ◌*◌, ◌≤◌, ◌&&◌, not, Bool, true, false, List, [], ◌∷◌, length, map, Some, None, is_some, codes, ℤ, pos, Contains, nat_le, refl, sym, ap, ◌∙◌, subst, true≢false, arith}
use Rattle.std.specs.List.{range_with_len}
use Rattle.std.proofs.lemmas.Bool.{le-leb}
use Rattle.std.proofs.lemmas.List.{length-map}
use Rattle.std.proofs.lemmas.List.FromFn.{length-range_with_len}
use Rattle.std.proofs.lemmas.Nat.{mul-le}
use Rattle.oe_cell.specs.Rational.{whole_of}
use Rattle.oe_cell.specs.declared.cell.Cell.TheVariants.{Empty}
use Rattle.oe_dims.specs.Dimensions.{Dimensions, most_cells, most_labels}
use Rattle.oe_dims.specs.declared.dims.DimsRow.{DimsRow}
use Rattle.oe_dims.specs.declared.kind.CellKind.TheVariants.{Numbers}
use Rattle.oe_dims.specs.Plain.{PlainLabels, plain_names}
use Rattle.oe_expr.specs.Callback.{Callback, callback_of, IsFaultlessCallback}
use Rattle.oe_expr.specs.Nodes.{down_from}
use Rattle.oe_expr.specs.Rows.{first_row}
use Rattle.oe_expr.specs.Scope as scope
use Rattle.oe_expr.specs.Stands.{own_fault}
use Rattle.oe_expr.specs.declared.scope.ListPart.{ListPart}
use Rattle.oe_expr.proofs.NodeLemmas.{node_is}
use Rattle.oe_graph.specs.Read.{IsFaultless}
use Rattle.oe_graph.specs.References.{each_node}
use Rattle.oe_graph.specs.Tree as tree
use Rattle.oe_graph.specs.Tree.{Named, Nodes, PlainGraph, PlainNode}
use Rattle.oe_kernel.specs.Kernels.{KernelValues}
use Rattle.oe_kernel.specs.declared.border.Border.TheVariants.{Replicate}
use Rattle.oe_resolve.specs.Defaults.{graph_with_defaults, resolved}
use Rattle.oe_calls.specs.Rounds.{most_rounds}
use Rattle.oe_meanings.specs.Graphs.{outline_at}
use Rattle.oe_requests.specs.Operations.{Outline}
use Rattle.oe_requests.specs.Requests.{CubeRequest, apply_kernel, called, cube_request_at, load_collection, reduce_dimension}
use Rattle.oe_meanings.specs.Rows.{cell_kind_invalid, cube_too_large}
use Rattle.oe_meanings.specs.Stands as stands
use Rattle.oe_meanings.specs.Stands.{HasNoFault, StandsInGraph, callback_on, cubes_of, early_rows}
use Rattle.oe_meanings.specs.ValidShapes.{is_within_limits}
use Rattle.oe_sources.specs.Catalogue.{demonstration}
use Rattle.oe_sources.specs.CatalogueDims.{dims_of}
use Rattle.oe_sources.specs.Generated.{falling_labels, generated_days, generated_shape, rising_labels}
use Rattle.oe_top.specs.Demonstration.{demo_graph}
use Rattle.oe_top.proofs.DemoReadings.{demo_plain, demo_reads, kernel}
use Rattle.oe_top.proofs.DemoNames.{names_valid, node_with, of_one, of_three, same_graph}
use Rattle.oe_judge.proofs.Phases.{none_stands}
use Rattle.oe_top.proofs.Checks.{none_over}
use Rattle.oe_top.specs.Faults.{StandsOver}

-- ---- the graph with all defaults

abbrev load_filled : Named
load_filled =
    tree.named (codes "bands") tree.null (
    tree.named (codes "id") (tree.text (codes "demo")) (
    tree.named (codes "properties") tree.null (
    tree.named (codes "spatial_extent") tree.null (
    tree.named (codes "temporal_extent") tree.null tree.no_named))))

abbrev sum_filled : Named
sum_filled =
    tree.named (codes "border") (tree.text (codes "replicate")) (
    tree.named (codes "data") (tree.from_node (codes "load")) (
    tree.named (codes "factor") (tree.whole (pos 1)) (
    tree.named (codes "kernel") kernel (
    tree.named (codes "replace_invalid") (tree.whole (pos 0)) tree.no_named))))

abbrev max_filled : Named
max_filled =
    tree.named (codes "data") (tree.from_parameter (codes "data")) (
    tree.named (codes "ignore_nodata") (tree.flag true) tree.no_named)

abbrev reducer : Nodes
reducer = tree.node (codes "max") (codes "max") None max_filled tree.no_nodes

abbrev top_filled : Named
top_filled =
    tree.named (codes "context") tree.null (
    tree.named (codes "data") (tree.from_node (codes "sum")) (
    tree.named (codes "dimension") (tree.text (codes "bands")) (
    tree.named (codes "reducer") (tree.callback reducer 0) tree.no_named)))

abbrev filled : Nodes
filled =
    tree.node (codes "load") (codes "load_collection") None load_filled (
    tree.node (codes "sum") (codes "apply_kernel") None sum_filled (
    tree.node (codes "top") (codes "reduce_dimension") None top_filled tree.no_nodes))

with_defaults_is : (resolved [] demo_plain).nodes ≡ filled
with_defaults_is = ap (λ (h : PlainGraph). (graph_with_defaults h).nodes) (same_graph most_rounds)

abbrev load : PlainNode
load = node_with (codes "load") (codes "load_collection") load_filled

abbrev sum : PlainNode
sum = node_with (codes "sum") (codes "apply_kernel") sum_filled

abbrev top : PlainNode
top = node_with (codes "top") (codes "reduce_dimension") top_filled

abbrev max : PlainNode
max = node_with (codes "max") (codes "max") max_filled

-- ---- what the nodes ask for

abbrev ones : KernelValues
ones = record {
  width = 3;
  height = 3;
  values = whole_of (pos 1) ∷ whole_of (pos 1) ∷ whole_of (pos 1) ∷ whole_of (pos 1) ∷ whole_of (pos 1) ∷ whole_of (pos 1)
      ∷ whole_of (pos 1) ∷ whole_of (pos 1) ∷ whole_of (pos 1) ∷ [];
}

abbrev to_load : CubeRequest
to_load = load_collection (codes "demo") None None None

abbrev to_sum : CubeRequest
to_sum = apply_kernel (codes "load") ones (whole_of (pos 1)) Replicate (whole_of (pos 0))

abbrev to_top : CubeRequest
to_top = reduce_dimension (codes "sum") (codes "bands") (called (record { nodes = reducer; result = 0 }) Empty)

load_asks : cube_request_at load ≡ Some to_load
load_asks = refl

sum_asks : cube_request_at sum ≡ Some to_sum
sum_asks = refl

top_asks : cube_request_at top ≡ Some to_top
top_asks = refl

-- ---- a node without a fault

module _ (rows : List DimsRow) (at : List ℕ → Outline) (n : PlainNode) (r : CubeRequest) (asks : cube_request_at n ≡ Some r)
    (none_early : first_row (early_rows rows r (cubes_of rows at r)) ≡ None)
    (none_inside : (argument : List ℕ) (c : Callback) → callback_on r (cubes_of rows at r) ≡ Some (argument, c) → IsFaultlessCallback c)
    (of_its_kind : cell_kind_invalid r (cubes_of rows at r) ≡ false)
    (small : cube_too_large r (cubes_of rows at r) ≡ false)
    (no_sums : stands.sums_of r ≡ None) where
  same_request : (q : CubeRequest) → cube_request_at n ≡ Some q → r ≡ q
  same_request q is = let both : Some r ≡ Some q = sym asks ∙ is in cc

  nothing_stands : HasNoFault rows at n
  nothing_stands code name (stands.asks_for_nothing none) = let both : None ≡ Some r = sym none ∙ asks in absurd cc
  nothing_stands code name (stands.early {r = q} is holds) =
      let same = same_request q is in
      let here : None ≡ Some code =
      sym none_early ∙ ap (λ (k : CubeRequest). first_row (early_rows rows k (cubes_of rows at k))) same ∙ holds in
      absurd cc
  nothing_stands code name (stands.inside {r = q} {argument = argument} {c = c} passes on inner) =
      let same = same_request q passes.asks in
      none_inside argument c (ap (λ (k : CubeRequest). callback_on k (cubes_of rows at k)) same ∙ on) _ code name inner
  nothing_stands code name (stands.in_sums {r = q} {g = g} passes on inner) =
      let same = same_request q passes.asks in
      let both : None ≡ Some g = sym no_sums ∙ (ap stands.sums_of same ∙ on) in
      true≢false (sym (ap is_some both))
  nothing_stands code name (stands.of_kind {r = q} passes faultless invalid) =
      let same = same_request q passes.asks in
      true≢false (sym invalid ∙ ap (λ (k : CubeRequest). cell_kind_invalid k (cubes_of rows at k)) (sym same) ∙ of_its_kind)
  nothing_stands code name (stands.of_size {r = q} passes valid large) =
      let same = same_request q passes.asks in
      true≢false (sym large ∙ ap (λ (k : CubeRequest). cube_too_large k (cubes_of rows at k)) (sym same) ∙ small)

-- ---- sizes

all_three : (a b c : Bool) → a ≡ true → b ≡ true → c ≡ true → ((a && (b && true)) && c) ≡ true
all_three a b c p q r = rw (p, q, r) refl

few_labels : (n : ℕ) → n ≤ 1024 → nat_le n most_labels ≡ true
few_labels n few = le-leb n most_labels (omega (arith, few))

few_cells : (layers y x : ℕ) → layers ≤ 8 → y ≤ 1024 → x ≤ 1024 → nat_le (layers * y * x) most_cells ≡ true
few_cells layers y x few below left =
    let plane = mul-le layers y 8 1024 few below in
    let all = mul-le (layers * y) x 8192 1024 (omega (arith, plane)) left in
    le-leb (layers * y * x) most_cells (omega (arith, all))

label_number : (f : ℕ → ℤ) (side : ℕ) → side ≤ 1024 → length (map f (range_with_len 0 side)) ≤ 1024
label_number f side most =
    let is = length-map (range_with_len 0 side) f ∙ length-range_with_len 0 side in
    subst (λ n. n ≤ 1024) (sym is) most

abbrev without_bands : ℕ → Dimensions
without_bands side = record {
  epsg = 32633;
  t = Some generated_days;
  bands = None;
  y = Some (falling_labels side);
  x = Some (rising_labels side);
}

-- ---- the reducer

abbrev bands : PlainLabels
bands = plain_names (codes "B1" ∷ codes "B2" ∷ [])

abbrev all_bands : List ListPart
all_bands = record { from = 0; to = 2 } ∷ []

abbrev the_reducer : PlainLabels → List ListPart → Callback
the_reducer labels lists = callback_of (record { nodes = reducer; result = 0 }) (scope.reduce Numbers labels lists) Empty

no_own_fault : (labels : PlainLabels) (lists : List ListPart) → own_fault (scope.reduce Numbers labels lists) Empty reducer max ≡ None
no_own_fault labels lists = refl

max_sound : (labels : PlainLabels) (lists : List ListPart) → IsFaultlessCallback (the_reducer labels lists)
max_sound labels lists path code name s =
    let node_of = node_is reducer s.id s.at.node s.at.is_node in
    let none : own_fault (scope.reduce Numbers labels lists) Empty reducer s.at.node ≡ None =
    of_one (λ (n : PlainNode). own_fault (scope.reduce Numbers labels lists) Empty reducer n ≡ None) max (no_own_fault labels lists)
    s.at.node node_of.0 in
    let both : None ≡ Some code = sym none ∙ s.at.first in
    absurd cc

module _ (side : ℕ) (most : side ≤ 1024) where
  y_few : length (falling_labels side) ≤ 1024
  y_few = label_number _ side most

  x_few : length (rising_labels side) ≤ 1024
  x_few = label_number _ side most

  whole_small : is_within_limits (generated_shape side) ≡ true
  whole_small =
      all_three _ _ _ (few_labels (length (falling_labels side)) y_few) (few_labels (length (rising_labels side)) x_few)
      (few_cells 8 (length (falling_labels side)) (length (rising_labels side)) (omega arith) y_few x_few)

  reduced_small : is_within_limits (without_bands side) ≡ true
  reduced_small =
      all_three _ _ _ (few_labels (length (falling_labels side)) y_few) (few_labels (length (rising_labels side)) x_few)
      (few_cells 4 (length (falling_labels side)) (length (rising_labels side)) (omega arith) y_few x_few)

  -- ---- the nodes

  abbrev rows : List DimsRow
  rows = record { id = codes "demo"; shape = generated_shape side; kind = Numbers } ∷ []

  abbrev at : List ℕ → Outline
  at = outline_at rows filled

  abbrev whole : Outline
  whole = record { shape = generated_shape side; kind = Numbers }

  load_sound : HasNoFault rows at load
  load_sound =
      nothing_stands rows at load to_load load_asks refl (λ argument c is. absurd cc) refl (ap not whole_small) refl

  sum_sound : HasNoFault rows at sum
  unfolding down_from
  sum_sound =
      nothing_stands rows at sum to_sum sum_asks refl (λ argument c is. absurd cc) refl (ap not whole_small) refl

  reducer_sound : (argument : List ℕ) (c : Callback) → callback_on to_top (whole ∷ []) ≡ Some (argument, c) → IsFaultlessCallback c
  reducer_sound argument c is =
      let parts : (codes "reducer", the_reducer bands all_bands) ≡ (argument, c) = cc in
      subst IsFaultlessCallback (ap (λ (p : List ℕ × Callback). p.1) parts) (max_sound bands all_bands)

  top_sound : HasNoFault rows at top
  unfolding down_from
  top_sound = nothing_stands rows at top to_top top_asks refl reducer_sound refl (ap not reduced_small) refl

  each_sound : (n : PlainNode) → Contains (each_node filled) n → HasNoFault rows at n
  each_sound n has = of_three (HasNoFault rows at) load sum top load_sound sum_sound top_sound n has

  cubes_valid : IsFaultless (StandsInGraph rows filled)
  cubes_valid code name s =
      each_sound s.at.node (node_is filled s.id s.at.node s.at.is_node).0 code name s.at.here

-- ---- no fault at all

pub demo_valid : (seed side : ℕ) → side ≤ 1024 → IsFaultless (StandsOver (dims_of (demonstration seed side)) demo_graph)
demo_valid seed side most =
    let rows = dims_of (demonstration seed side) in
    none_over rows demo_graph demo_plain demo_reads (none_stands rows [] demo_plain names_valid
    (subst (λ (ns : Nodes). IsFaultless (StandsInGraph rows ns)) (sym with_defaults_is) (cubes_valid side most)))
