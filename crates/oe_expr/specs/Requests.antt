-- What the arguments of a node ask for, where each is what its parameter may hold. A scalar is null, a flag, a whole
-- number, the result of a node, or the parameter `x`, `y` or `context`; a list is `data`, or is written with at most 64
-- scalars.
use Rattle.std.specs.Prelude.{ℕ, ◌&&◌, Bool, true, false, nat_le, List, [], ◌∷◌, length, Option, Some, None, is_some, codes, option_map, option_and_then, if◌then◌else◌, ℤ, pos}
use Rattle.oe_cell.specs.Rational.{whole_of}
use Rattle.oe_cell.specs.declared.cell.Cell.{Cell}
use Rattle.oe_cell.specs.declared.cell.Cell.TheVariants.{Empty, Flag, Number}
use Rattle.oe_dims.specs.Names.{same_name}
use Rattle.oe_fold.specs.declared.reducer.Reducer.{Reducer}
use Rattle.oe_fold.specs.declared.reducer.Reducer.TheVariants.{Count, CountAll}
use Rattle.oe_graph.specs.Built.{is_literal}
use Rattle.oe_graph.specs.References.{argument_named}
use Rattle.oe_graph.specs.Tree as tree
use Rattle.oe_graph.specs.Tree.{Argument, ListValues, Named, PlainNode}
use Rattle.oe_expr.specs.Operations.{operation_named}
use Rattle.oe_expr.specs.Scope.{Label, text, whole}
use Rattle.oe_expr.specs.declared.operation.Unary.{Unary}
use Rattle.oe_expr.specs.declared.operation.Binary.{Binary}
use Rattle.oe_expr.specs.declared.operation.Binary.TheVariants.{Equal, NotEqual}
use Rattle.oe_expr.specs.declared.operation.Operation.{Operation}
use Rattle.oe_expr.specs.declared.operation.Operation.TheVariants.{OfOne, OfTwo, Choice, Reduction, Counting, Element}

-- a scalar argument
pub data Scalar : Type 0 where
  literal : Cell → Scalar
  of_node : List ℕ → Scalar
  of_x : Scalar
  of_y : Scalar
  of_context : Scalar

-- a list argument
pub data Items : Type 0 where
  the_data : Items
  written : List Scalar → Items

-- a node, by its operation and arguments; those without effect are left out
pub data CellRequest : Type 0 where
  unary : Unary → Scalar → CellRequest
  binary : Binary → Scalar → Scalar → CellRequest
  -- value, accept, reject
  choice : Scalar → Scalar → Scalar → CellRequest
  -- whether nulls are ignored
  reduction : Reducer → Bool → Items → CellRequest
  -- an index, a label, and whether a missing element is null
  element : Items → Option ℕ → Option Label → Bool → CellRequest

-- ---- what a parameter may hold: none where the argument is something else

abbrev pub scalar_parameter : List ℕ → Option Scalar
scalar_parameter name =
    if same_name name (codes "x") then Some of_x else (
    if same_name name (codes "y") then Some of_y else (
    if same_name name (codes "context") then Some of_context else None))

abbrev pub whole_cell : ℤ → Cell
whole_cell z = Number (whole_of z)

abbrev pub whole_scalar : ℤ → Option Scalar
whole_scalar z = if is_literal z then Some (literal (whole_cell z)) else None

-- a scalar
abbrev pub scalar_in : Argument → Option Scalar
scalar_in tree.null = Some (literal Empty)
scalar_in (tree.flag b) = Some (literal (Flag b))
scalar_in (tree.whole z) = whole_scalar z
scalar_in tree.inexact = None
scalar_in (tree.text s) = None
scalar_in (tree.list rest) = None
scalar_in (tree.object ms) = None
scalar_in (tree.from_node id) = Some (of_node id)
scalar_in (tree.from_parameter name) = scalar_parameter name
scalar_in (tree.callback ns result) = None

-- both, where both are there
abbrev pub with_both : {A B C : Type 0} → (A → B → C) → Option A → Option B → Option C
with_both f None b = None
with_both f (Some a) None = None
with_both f (Some a) (Some b) = Some (f a b)

abbrev pub scalars_in : ListValues → Option (List Scalar)
scalars_in tree.no_arguments = Some []
scalars_in (tree.argument a rest) = with_both (λ s scalars. s ∷ scalars) (scalar_in a) (scalars_in rest)

-- most elements of a list that is written in a callback
abbrev pub most_elements : ℕ
most_elements = 64

abbrev pub written_list : List Scalar → Option Items
written_list scalars = if nat_le (length scalars) most_elements then Some (written scalars) else None

-- a list
abbrev pub items_in : Argument → Option Items
items_in tree.null = None
items_in (tree.flag b) = None
items_in (tree.whole z) = None
items_in tree.inexact = None
items_in (tree.text s) = None
items_in (tree.list rest) = option_and_then written_list (scalars_in rest)
items_in (tree.object ms) = None
items_in (tree.from_node id) = None
items_in (tree.from_parameter name) = if same_name name (codes "data") then Some the_data else None
items_in (tree.callback ns result) = None

-- a flag that is written as such
abbrev pub flag_in : Argument → Option Bool
flag_in (tree.flag b) = Some b
flag_in _ = None

-- null alone
abbrev pub is_null : Argument → Bool
is_null tree.null = true
is_null _ = false

-- null, a flag or a whole number that is written as such
abbrev pub is_scalar_literal : Argument → Bool
is_scalar_literal tree.null = true
is_scalar_literal (tree.flag b) = true
is_scalar_literal (tree.whole z) = is_literal z
is_scalar_literal _ = false

-- null or true, by which `count` takes the cells that are not null, or all
abbrev pub counter_in : Argument → Option Reducer
counter_in tree.null = Some Count
counter_in (tree.flag true) = Some CountAll
counter_in _ = None

-- null, or a whole number not below 0
abbrev pub list_index_in : Argument → Option (Option ℕ)
list_index_in tree.null = Some None
list_index_in (tree.whole (pos n)) = Some (Some n)
list_index_in _ = None

-- null, a text or a whole number
abbrev pub whole_label : ℤ → Option (Option Label)
whole_label z = if is_literal z then Some (Some (whole z)) else None

abbrev pub label_in : Argument → Option (Option Label)
label_in tree.null = Some None
label_in (tree.text s) = Some (Some (text s))
label_in (tree.whole z) = whole_label z
label_in _ = None

-- ---- the arguments of a process

-- the argument of a name, as what its parameter may hold
abbrev pub read : {A : Type 0} → (Argument → Option A) → List ℕ → Named → Option A
read reader name arguments = option_and_then reader (argument_named name arguments)

-- the argument of a name passes a test
abbrev pub passes : (Argument → Bool) → List ℕ → Named → Bool
passes test name arguments = is_some (read (λ a. if test a then Some a else None) name arguments)

-- where a test of arguments without effect passes
abbrev pub where_passed : {A : Type 0} → Bool → Option A → Option A
where_passed passed a = if passed then a else None

abbrev pub two_cells : Binary → Named → Option CellRequest
two_cells f arguments =
    with_both (binary f) (read scalar_in (codes "x") arguments) (read scalar_in (codes "y") arguments)

-- `eq` and `neq` have `delta`, which is null, and `case_sensitive`, a flag; neither has an effect on cells
abbrev pub has_plain_equality : Named → Bool
has_plain_equality arguments =
    passes is_null (codes "delta") arguments && is_some (read flag_in (codes "case_sensitive") arguments)

abbrev pub binary_request : Binary → Named → Option CellRequest
binary_request Equal arguments = where_passed (has_plain_equality arguments) (two_cells Equal arguments)
binary_request NotEqual arguments = where_passed (has_plain_equality arguments) (two_cells NotEqual arguments)
binary_request f arguments = two_cells f arguments

abbrev pub choice_request : Named → Option CellRequest
choice_request arguments =
    option_and_then (λ value. with_both (choice value) (read scalar_in (codes "accept") arguments)
    (read scalar_in (codes "reject") arguments))
    (read scalar_in (codes "value") arguments)

abbrev pub reduction_request : Reducer → Named → Option CellRequest
reduction_request reducer arguments =
    with_both (reduction reducer) (read flag_in (codes "ignore_nodata") arguments)
    (read items_in (codes "data") arguments)

-- `count` has `context`, which has no effect
abbrev pub counting_request : Named → Option CellRequest
counting_request arguments =
    where_passed (passes is_scalar_literal (codes "context") arguments)
    (with_both (λ counter items. reduction counter true items) (read counter_in (codes "condition") arguments)
    (read items_in (codes "data") arguments))

abbrev pub element_request : Named → Option CellRequest
element_request arguments =
    option_and_then (λ items. option_and_then (λ index. with_both (element items index)
    (read label_in (codes "label") arguments)
    (read flag_in (codes "return_nodata") arguments)) (read list_index_in (codes "index") arguments))
    (read items_in (codes "data") arguments)

abbrev pub cell_request_of : Operation → Named → Option CellRequest
cell_request_of (OfOne f) arguments = option_map (unary f) (read scalar_in (codes "x") arguments)
cell_request_of (OfTwo f) arguments = binary_request f arguments
cell_request_of Choice arguments = choice_request arguments
cell_request_of (Reduction reducer) arguments = reduction_request reducer arguments
cell_request_of Counting arguments = counting_request arguments
cell_request_of Element arguments = element_request arguments

-- what a node asks for
abbrev pub cell_request_at : PlainNode → Option CellRequest
cell_request_at n = option_and_then (λ operation. cell_request_of operation n.arguments) (operation_named n.process_id)
