-- Small cubes and callbacks for worked values.
use Rattle.std.specs.Prelude.{ℕ, ℤ, pos, Bool, false, List, [], ◌∷◌, map, Some, None, codes}
use Rattle.oe_cell.specs.Rational.{whole_of}
use Rattle.oe_cell.specs.declared.cell.Cell.{Cell}
use Rattle.oe_cell.specs.declared.cell.Cell.TheVariants.{Empty, Number}
use Rattle.oe_dims.specs.Cube.{Cube}
use Rattle.oe_dims.specs.Dimensions.{Dimensions}
use Rattle.oe_graph.specs.Tree as tree
use Rattle.oe_graph.specs.Tree.{Argument, Named, Nodes, PlainGraph}
use Rattle.oe_expr.specs.Callback.{Callback, callback_of}
use Rattle.oe_expr.specs.Scope.{PlainScope}

-- ---- cells and labels

abbrev pub fraction : ℤ → ℕ → Cell
fraction n d = Number (record { num = n; den = d })

abbrev pub whole : ℕ → Cell
whole k = Number (whole_of (pos k))

abbrev pub cells_of : List ℕ → List Cell
cells_of numbers = map whole numbers

-- the largest number
abbrev pub largest : Cell
largest = whole 9223372036854775807

-- the first instants of days
abbrev pub january_1 : ℤ
january_1 = pos 1704067200

abbrev pub january_2 : ℤ
january_2 = pos 1704153600

abbrev pub january_3 : ℤ
january_3 = pos 1704240000

abbrev pub january_4 : ℤ
january_4 = pos 1704326400

abbrev pub february_1 : ℤ
february_1 = pos 1706745600

abbrev pub february_2 : ℤ
february_2 = pos 1706832000

abbrev pub year_2025 : ℤ
year_2025 = pos 1735689600

abbrev pub year_2026 : ℤ
year_2026 = pos 1767225600

-- ---- shapes in longitude and latitude

abbrev pub shape_with : List ℤ → List (List ℕ) → List ℤ → List ℤ → Dimensions
shape_with t bands y x = record { epsg = 4326; t = Some t; bands = Some bands; y = Some y; x = Some x }

abbrev pub cube_with : Dimensions → List Cell → Cube Cell
cube_with shape cells = record { shape = shape; cells = cells }

-- one date, one band and one pixel
abbrev pub pixel : Dimensions
pixel = shape_with (january_1 ∷ []) (codes "B1" ∷ []) (pos 0 ∷ []) (pos 0 ∷ [])

-- y 10, 0 and x 0, 10 with 1 2 / 3 4
abbrev pub square : Cube Cell
square = cube_with (shape_with (january_1 ∷ []) (codes "B1" ∷ []) (pos 10 ∷ pos 0 ∷ []) (pos 0 ∷ pos 10 ∷ []))
    (cells_of (1 ∷ 2 ∷ 3 ∷ 4 ∷ []))

-- x 0, 1, 2 with 1 2 4
abbrev pub line : Cube Cell
line = cube_with (shape_with (january_1 ∷ []) (codes "B1" ∷ []) (pos 0 ∷ []) (pos 0 ∷ pos 1 ∷ pos 2 ∷ []))
    (cells_of (1 ∷ 2 ∷ 4 ∷ []))

-- pixels of one date in bands
abbrev pub banded : List (List ℕ) → List Cell → Cube Cell
banded bands cells = cube_with (shape_with (january_1 ∷ []) bands (pos 0 ∷ []) (pos 0 ∷ [])) cells

-- pixels of one band at dates
abbrev pub dated : List ℤ → List Cell → Cube Cell
dated t cells = cube_with (shape_with t (codes "B1" ∷ []) (pos 0 ∷ []) (pos 0 ∷ [])) cells

-- a cube that has t alone, and one that has no dimension
abbrev pub series : List ℤ → List Cell → Cube Cell
series t cells = cube_with (record { epsg = 0; t = Some t; bands = None; y = None; x = None }) cells

abbrev pub single : Cell → Cube Cell
single c = cube_with (record { epsg = 0; t = None; bands = None; y = None; x = None }) (c ∷ [])

-- ---- callbacks

abbrev pub node_with : List ℕ → List ℕ → Named → Nodes → Nodes
node_with id process arguments rest = tree.node id process None arguments rest

abbrev pub parameter : List ℕ → Argument
parameter name = tree.from_parameter name

abbrev pub x_and_y : Argument → Argument → Named
x_and_y x y = tree.named (codes "x") x (tree.named (codes "y") y tree.no_named)

-- a process on two cells
abbrev pub on_two : List ℕ → Argument → Argument → PlainGraph
on_two process x y = record { nodes = node_with (codes "f") process (x_and_y x y) tree.no_nodes; result = 0 }

-- on the cells `x` and `y` of a merge
abbrev pub resolving : List ℕ → PlainGraph
resolving process = on_two process (parameter (codes "x")) (parameter (codes "y"))

-- a reducer of `data`
abbrev pub reducing : List ℕ → Bool → PlainGraph
reducing process ignore = record {
  nodes = node_with (codes "r") process (tree.named (codes "data") (parameter (codes "data"))
      (tree.named (codes "ignore_nodata") (tree.flag ignore) tree.no_named)) tree.no_nodes;
  result = 0;
}

-- `count`, of the cells that are not null or of all
abbrev pub counting : Argument → PlainGraph
counting condition = record {
  nodes = node_with (codes "r") (codes "count") (tree.named (codes "condition") condition
      (tree.named (codes "context") tree.null (tree.named (codes "data") (parameter (codes "data")) tree.no_named))) tree.no_nodes;
  result = 0;
}

-- the element of a label
abbrev pub element_named : List ℕ → Named
element_named label =
    tree.named (codes "data") (parameter (codes "data")) (tree.named (codes "index") tree.null (
    tree.named (codes "label") (tree.text label) (tree.named (codes "return_nodata") (tree.flag false) tree.no_named)))

-- (B08 - B04) / (B08 + B04)
abbrev pub ratio : PlainGraph
ratio = record {
  nodes =
      node_with (codes "b4") (codes "array_element") (element_named (codes "B04")) (
      node_with (codes "b8") (codes "array_element") (element_named (codes "B08")) (
      node_with (codes "down") (codes "add") (x_and_y (tree.from_node (codes "b8")) (tree.from_node (codes "b4"))) (
      node_with (codes "up") (codes "subtract") (x_and_y (tree.from_node (codes "b8")) (tree.from_node (codes "b4"))) (
      node_with (codes "z") (codes "divide") (x_and_y (tree.from_node (codes "up")) (tree.from_node (codes "down"))) tree.no_nodes))));
  result = 4;
}

abbrev pub under : PlainScope → PlainGraph → Callback
under given graph = callback_of graph given Empty
