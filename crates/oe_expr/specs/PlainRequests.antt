-- What contracts see of a request in the code: its plain value.
use Rattle.std.specs.Prelude.{ℤ, List, map, if◌then◌else◌}
use Rattle.std.specs.Option.{option_map}
use Rattle.oe_cell.specs.declared.cell.Cell.{Cell}
use Rattle.oe_cell.specs.declared.cell.Cell.TheVariants.{Empty, Flag as FlagCell}
use Rattle.oe_graph.specs.Built.{is_literal}
use Rattle.oe_expr.specs.Requests as spec
use Rattle.oe_expr.specs.Requests.{whole_cell}
use Rattle.oe_expr.specs.Scope as scope
use Rattle.oe_expr.specs.declared.request.Items.{Items}
use Rattle.oe_expr.specs.declared.request.Items.TheVariants.{Data, Written}
use Rattle.oe_expr.specs.declared.request.Label.{Label}
use Rattle.oe_expr.specs.declared.request.Label.TheVariants.{Text, Whole}
use Rattle.oe_expr.specs.declared.request.Request.{Request}
use Rattle.oe_expr.specs.declared.request.Request.TheVariants.{Unary, Binary, Choice, Reduction, Element}
use Rattle.oe_expr.specs.declared.request.Scalar.{Scalar}
use Rattle.oe_expr.specs.declared.request.Scalar.TheVariants.{Null, Flag, Whole as WholeNumber, Node, X, Y, Context}

-- a whole number as a cell; one that is no literal counts as null, and none is in a request
abbrev pub literal_cell : ℤ → Cell
literal_cell z = if is_literal z then whole_cell z else Empty

abbrev pub plain_scalar : Scalar → spec.Scalar
plain_scalar Null = spec.literal Empty
plain_scalar (Flag b) = spec.literal (FlagCell b)
plain_scalar (WholeNumber z) = spec.literal (literal_cell z)
plain_scalar (Node id) = spec.of_node id.now
plain_scalar X = spec.of_x
plain_scalar Y = spec.of_y
plain_scalar Context = spec.of_context

abbrev pub plain_scalars : List Scalar → List spec.Scalar
plain_scalars scalars = map plain_scalar scalars

abbrev pub plain_items : Items → spec.Items
plain_items Data = spec.the_data
plain_items (Written scalars) = spec.written (plain_scalars scalars.items)

abbrev pub plain_label : Label → scope.Label
plain_label (Text s) = scope.text s.now
plain_label (Whole z) = scope.whole z

abbrev pub plain_cell_request : Request → spec.CellRequest
plain_cell_request (Unary f x) = spec.unary f (plain_scalar x)
plain_cell_request (Binary f x y) = spec.binary f (plain_scalar x) (plain_scalar y)
plain_cell_request (Choice value accept reject) =
    spec.choice (plain_scalar value) (plain_scalar accept) (plain_scalar reject)
plain_cell_request (Reduction reducer ignore items) = spec.reduction reducer ignore (plain_items items)
plain_cell_request (Element items index label return_nodata) =
    spec.element (plain_items items) index (option_map plain_label label) return_nodata
