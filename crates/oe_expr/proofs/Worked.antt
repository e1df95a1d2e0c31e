-- Worked values of the definitions, by hand.
use Rattle.std.specs.Prelude.{◌≡◌, ℕ, ℤ, pos, negsuc, Bool, true, false, List, [], ◌∷◌, Option, Some, None, codes, refl}
use Rattle.oe_cell.specs.Exact.{gcd_within, gcd_of, cell_of_lowest, exact}
use Rattle.oe_cell.specs.declared.cell.Cell.{Cell}
use Rattle.oe_cell.specs.declared.cell.Cell.TheVariants.{Empty, Flag, Number}
use Rattle.oe_dims.specs.Instant.{instant_read}
use Rattle.oe_dims.specs.Plain.{PlainLabels, plain_instants, plain_names, plain_coordinates}
use Rattle.oe_dims.specs.declared.kind.CellKind.{CellKind}
use Rattle.oe_dims.specs.declared.kind.CellKind.TheVariants.{Numbers}
use Rattle.oe_fold.specs.Value.{reduction_of}
use Rattle.oe_graph.specs.Tree as tree
use Rattle.oe_graph.specs.Tree.{Argument, Named, Nodes, PlainGraph, PlainNode}
use Rattle.oe_graph.specs.declared.code.Code.{Code}
use Rattle.oe_graph.specs.declared.code.Code.TheVariants.{ProcessParameterInvalid, ArrayElementParameterMissing, ArrayElementParameterConflict, ArrayElementNotAvailable, CellKindInvalid}
use Rattle.oe_expr.specs.Nodes.{down_from}
use Rattle.oe_expr.specs.NodeKinds.{graph_kind}
use Rattle.oe_expr.specs.Rows.{node_fault}
use Rattle.oe_expr.specs.Scope.{PlainScope, apply, reduce, Environment, label_index, text, whole, no_labels}
use Rattle.oe_expr.specs.Value.{graph_value}

-- ---- callbacks as trees

abbrev number : ℤ → ℕ → Cell
number n d = Number (record { num = n; den = d })

abbrev node_of : List ℕ → List ℕ → Named → PlainNode
node_of id process arguments = record { id = id; process_id = process; namespace = None; arguments = arguments }

abbrev nodes_with : List ℕ → List ℕ → Named → Nodes → Nodes
nodes_with id process arguments rest = tree.node id process None arguments rest

abbrev one_argument : List ℕ → Argument → Named
one_argument name a = tree.named name a tree.no_named

abbrev x_and_y : Argument → Argument → Named
x_and_y x y = tree.named (codes "x") x (tree.named (codes "y") y tree.no_named)

-- `array_element` of `data`, by a label
abbrev by_label : List ℕ → Bool → Named
by_label label return_nodata =
    tree.named (codes "data") (tree.from_parameter (codes "data")) (tree.named (codes "index") tree.null (
    tree.named (codes "label") (tree.text label) (one_argument (codes "return_nodata") (tree.flag return_nodata))))

-- of a written list, by an index and a label
abbrev element_of_two : Argument → Argument → Bool → Named
element_of_two index label return_nodata =
    tree.named (codes "data") (tree.list (tree.argument (tree.whole (pos 8)) (tree.argument (tree.flag true) tree.no_arguments))) (
    tree.named (codes "index") index (tree.named (codes "label") label (one_argument (codes "return_nodata") (tree.flag return_nodata))))

-- (B08 - B04) / (B08 + B04)
abbrev ratio : PlainGraph
ratio = record {
  nodes =
      nodes_with (codes "b4") (codes "array_element") (by_label (codes "B04") false) (
      nodes_with (codes "b8") (codes "array_element") (by_label (codes "B08") false) (
      nodes_with (codes "down") (codes "add") (x_and_y (tree.from_node (codes "b8")) (tree.from_node (codes "b4"))) (
      nodes_with (codes "up") (codes "subtract") (x_and_y (tree.from_node (codes "b8")) (tree.from_node (codes "b4"))) (
      nodes_with (codes "z") (codes "divide") (x_and_y (tree.from_node (codes "up")) (tree.from_node (codes "down"))) tree.no_nodes))));
  result = 4;
}

abbrev bands_08_04 : PlainLabels
bands_08_04 = plain_names (codes "B08" ∷ codes "B04" ∷ [])

-- a list of two bands
abbrev two_bands : Cell → Cell → Environment
two_bands a b = record { x = Empty; y = Empty; context = Empty; cells = a ∷ b ∷ []; labels = bands_08_04 }

abbrev over_bands : PlainLabels → PlainScope
over_bands labels = reduce Numbers labels (record { from = 0; to = 2 } ∷ [])

ratio_of_5_and_3 : graph_value ratio (two_bands (number (pos 5) 1) (number (pos 3) 1)) ≡ number (pos 1) 4
unfolding down_from exact gcd_of gcd_within cell_of_lowest
ratio_of_5_and_3 = refl

ratio_of_0_and_0 : graph_value ratio (two_bands (number (pos 0) 1) (number (pos 0) 1)) ≡ Empty
unfolding down_from exact gcd_of gcd_within cell_of_lowest
ratio_of_0_and_0 = refl

ratio_of_null : graph_value ratio (two_bands Empty (number (pos 3) 1)) ≡ Empty
unfolding down_from exact gcd_of gcd_within cell_of_lowest
ratio_of_null = refl

kind_of_ratio : graph_kind (over_bands bands_08_04) Empty ratio ≡ Some Numbers
unfolding down_from
kind_of_ratio = refl

-- ---- rows

abbrev open_kinds : List ℕ → Option CellKind
open_kinds id = None

abbrev fault_under : PlainScope → List ℕ → Named → Option Code
fault_under scope process arguments = node_fault scope Empty open_kinds (node_of (codes "n") process arguments)

band_there : fault_under (over_bands bands_08_04) (codes "array_element") (by_label (codes "B04") false) ≡ None
band_there = refl

band_missing :
    fault_under (over_bands bands_08_04) (codes "array_element") (by_label (codes "B05") false) ≡ Some ArrayElementNotAvailable
band_missing = refl

band_missing_is_null : fault_under (over_bands bands_08_04) (codes "array_element") (by_label (codes "B05") true) ≡ None
band_missing_is_null = refl

-- without a list nothing is missing
no_list : fault_under (reduce Numbers bands_08_04 []) (codes "array_element") (by_label (codes "B05") false) ≡ None
no_list = refl

neither : fault_under (apply Numbers) (codes "array_element") (element_of_two tree.null tree.null true) ≡ Some ArrayElementParameterMissing
neither = refl

both :
    fault_under (apply Numbers) (codes "array_element") (element_of_two (tree.whole (pos 7)) (tree.text (codes "a")) false)
    ≡ Some ArrayElementParameterConflict
both = refl

missing_before_kinds :
    fault_under (apply Numbers) (codes "array_element") (element_of_two (tree.whole (pos 2)) tree.null false)
    ≡ Some ArrayElementNotAvailable
missing_before_kinds = refl

two_kinds :
    fault_under (apply Numbers) (codes "array_element") (element_of_two (tree.whole (pos 1)) tree.null false) ≡ Some CellKindInvalid
two_kinds = refl

number_for_flag : fault_under (apply Numbers) (codes "not") (one_argument (codes "x") (tree.from_parameter (codes "x"))) ≡ Some CellKindInvalid
number_for_flag = refl

null_fits : fault_under (apply Numbers) (codes "not") (one_argument (codes "x") tree.null) ≡ None
null_fits = refl

text_for_scalar : fault_under (apply Numbers) (codes "not") (one_argument (codes "x") (tree.text (codes "true"))) ≡ Some ProcessParameterInvalid
text_for_scalar = refl

callback_for_scalar :
    fault_under (apply Numbers) (codes "not") (one_argument (codes "x") (tree.callback tree.no_nodes 0)) ≡ Some ProcessParameterInvalid
callback_for_scalar = refl

below_the_least_literal :
    fault_under (apply Numbers) (codes "sgn") (one_argument (codes "x") (tree.whole (negsuc 9223372036854775807)))
    ≡ Some ProcessParameterInvalid
below_the_least_literal = refl

-- ---- reductions

abbrev over_data : List ℕ → Bool → PlainGraph
over_data process ignore = record {
  nodes = nodes_with (codes "r") process (
      tree.named (codes "data") (tree.from_parameter (codes "data")) (one_argument (codes "ignore_nodata") (tree.flag ignore))) tree.no_nodes;
  result = 0;
}

abbrev counted : Argument → PlainGraph
counted condition = record {
  nodes = nodes_with (codes "r") (codes "count") (
      tree.named (codes "condition") condition (tree.named (codes "context") tree.null (
      one_argument (codes "data") (tree.from_parameter (codes "data"))))) tree.no_nodes;
  result = 0;
}

abbrev list_of_two : Cell → Cell → Environment
list_of_two a b = record { x = Empty; y = Empty; context = Empty; cells = a ∷ b ∷ []; labels = no_labels }

mean_of_two : graph_value (over_data (codes "mean") true) (list_of_two (number (pos 1) 1) (number (pos 2) 1)) ≡ number (pos 3) 2
unfolding down_from reduction_of exact gcd_of gcd_within cell_of_lowest
mean_of_two = refl

mean_with_null : graph_value (over_data (codes "mean") false) (list_of_two (number (pos 1) 1) Empty) ≡ Empty
unfolding down_from reduction_of exact gcd_of gcd_within cell_of_lowest
mean_with_null = refl

nulls_not_counted : graph_value (counted tree.null) (list_of_two Empty Empty) ≡ number (pos 0) 1
unfolding down_from reduction_of
nulls_not_counted = refl

nulls_counted : graph_value (counted (tree.flag true)) (list_of_two Empty Empty) ≡ number (pos 2) 1
unfolding down_from reduction_of
nulls_counted = refl

any_beside_null : graph_value (over_data (codes "any") false) (list_of_two (Flag true) Empty) ≡ Flag true
unfolding down_from reduction_of
any_beside_null = refl

-- ---- labels

name_is_no_instant : label_index (plain_instants (pos 1704067200 ∷ [])) (text (codes "B1")) ≡ None
unfolding instant_read
name_is_no_instant = refl

seconds_are_no_instant : label_index (plain_instants (pos 1704067200 ∷ [])) (whole (pos 1704067200)) ≡ None
seconds_are_no_instant = refl

coordinate : label_index (plain_coordinates (negsuc 9 ∷ pos 0 ∷ [])) (whole (pos 0)) ≡ Some 1
coordinate = refl

text_is_no_coordinate : label_index (plain_coordinates (pos 0 ∷ [])) (text (codes "0")) ≡ None
text_is_no_coordinate = refl
