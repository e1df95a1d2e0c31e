-- The processes that stand in callbacks (openEO Processes): what each does with cells, which kind of cells it takes and
-- which it gives. In this profile `divide` and `mod` by 0 give null, `if` chooses among cells of one kind, and `eq` of
-- a flag and a number is refused.
use Rattle.std.specs.Prelude.{ℕ, List, [], ◌∷◌, Option, Some, None, codes, if◌then◌else◌}
use Rattle.oe_cell.specs.Operations.{add_of, subtract_of, multiply_of, divide_of, modulo_of, eq_of, neq_of, gt_of, gte_of, lt_of, lte_of, and_of, or_of, xor_of, not_of, floor_of, ceil_of, int_of, absolute_of, sgn_of}
use Rattle.oe_cell.specs.declared.cell.Cell.{Cell}
use Rattle.oe_dims.specs.Names.{same_name}
use Rattle.oe_dims.specs.declared.kind.CellKind.{CellKind}
use Rattle.oe_dims.specs.declared.kind.CellKind.TheVariants.{Numbers, Flags}
use Rattle.oe_fold.specs.declared.reducer.Reducer.{Reducer}
use Rattle.oe_fold.specs.declared.reducer.Reducer.TheVariants.{Sum, Product, Mean, Min, Max, Median, First, Last, Any, All as EveryOne, Count, CountAll}
use Rattle.oe_expr.specs.declared.operation.Unary.{Unary}
use Rattle.oe_expr.specs.declared.operation.Unary.TheVariants.{Absolute, Sgn, Floor, Ceil, Int, Not}
use Rattle.oe_expr.specs.declared.operation.Binary.{Binary}
use Rattle.oe_expr.specs.declared.operation.Binary.TheVariants.{Add, Subtract, Multiply, Divide, Modulo, Equal, NotEqual, Greater, GreaterOrEqual, Less, LessOrEqual, And, Or, Xor}
use Rattle.oe_expr.specs.declared.operation.Operation.{Operation}
use Rattle.oe_expr.specs.declared.operation.Operation.TheVariants.{OfOne, OfTwo, Choice, Reduction, Counting, Element}

-- ---- by name

abbrev pub NamedOperation : Type 0
NamedOperation = List ℕ × Operation

-- the processes, by the ids that openEO Processes gives them
abbrev pub operations : List NamedOperation
operations =
    (codes "absolute", OfOne Absolute)
    ∷ (codes "add", OfTwo Add)
    ∷ (codes "all", Reduction EveryOne)
    ∷ (codes "and", OfTwo And)
    ∷ (codes "any", Reduction Any)
    ∷ (codes "array_element", Element)
    ∷ (codes "ceil", OfOne Ceil)
    ∷ (codes "count", Counting)
    ∷ (codes "divide", OfTwo Divide)
    ∷ (codes "eq", OfTwo Equal)
    ∷ (codes "first", Reduction First)
    ∷ (codes "floor", OfOne Floor)
    ∷ (codes "gt", OfTwo Greater)
    ∷ (codes "gte", OfTwo GreaterOrEqual)
    ∷ (codes "if", Choice)
    ∷ (codes "int", OfOne Int)
    ∷ (codes "last", Reduction Last)
    ∷ (codes "lt", OfTwo Less)
    ∷ (codes "lte", OfTwo LessOrEqual)
    ∷ (codes "max", Reduction Max)
    ∷ (codes "mean", Reduction Mean)
    ∷ (codes "median", Reduction Median)
    ∷ (codes "min", Reduction Min)
    ∷ (codes "mod", OfTwo Modulo)
    ∷ (codes "multiply", OfTwo Multiply)
    ∷ (codes "neq", OfTwo NotEqual)
    ∷ (codes "not", OfOne Not)
    ∷ (codes "or", OfTwo Or)
    ∷ (codes "product", Reduction Product)
    ∷ (codes "sgn", OfOne Sgn)
    ∷ (codes "subtract", OfTwo Subtract)
    ∷ (codes "sum", Reduction Sum)
    ∷ (codes "xor", OfTwo Xor)
    ∷ []

-- of the first entry with this id
abbrev pub operation_among : List ℕ → List NamedOperation → Option Operation
operation_among id [] = None
operation_among id (o ∷ others) = if same_name o.0 id then Some o.1 else operation_among id others

-- what a process does, where it stands in callbacks
abbrev pub operation_named : List ℕ → Option Operation
operation_named id = operation_among id operations

-- ---- on cells

abbrev pub unary_of : Unary → Cell → Cell
unary_of Absolute x = absolute_of x
unary_of Sgn x = sgn_of x
unary_of Floor x = floor_of x
unary_of Ceil x = ceil_of x
unary_of Int x = int_of x
unary_of Not x = not_of x

abbrev pub binary_of : Binary → Cell → Cell → Cell
binary_of Add x y = add_of x y
binary_of Subtract x y = subtract_of x y
binary_of Multiply x y = multiply_of x y
binary_of Divide x y = divide_of x y
binary_of Modulo x y = modulo_of x y
binary_of Equal x y = eq_of x y
binary_of NotEqual x y = neq_of x y
binary_of Greater x y = gt_of x y
binary_of GreaterOrEqual x y = gte_of x y
binary_of Less x y = lt_of x y
binary_of LessOrEqual x y = lte_of x y
binary_of And x y = and_of x y
binary_of Or x y = or_of x y
binary_of Xor x y = xor_of x y

-- ---- kinds: none where the cells may be of either kind, but of one

abbrev pub unary_takes : Unary → Option CellKind
unary_takes Absolute = Some Numbers
unary_takes Sgn = Some Numbers
unary_takes Floor = Some Numbers
unary_takes Ceil = Some Numbers
unary_takes Int = Some Numbers
unary_takes Not = Some Flags

abbrev pub unary_gives : Unary → CellKind
unary_gives Absolute = Numbers
unary_gives Sgn = Numbers
unary_gives Floor = Numbers
unary_gives Ceil = Numbers
unary_gives Int = Numbers
unary_gives Not = Flags

abbrev pub binary_takes : Binary → Option CellKind
binary_takes Add = Some Numbers
binary_takes Subtract = Some Numbers
binary_takes Multiply = Some Numbers
binary_takes Divide = Some Numbers
binary_takes Modulo = Some Numbers
binary_takes Equal = None
binary_takes NotEqual = None
binary_takes Greater = Some Numbers
binary_takes GreaterOrEqual = Some Numbers
binary_takes Less = Some Numbers
binary_takes LessOrEqual = Some Numbers
binary_takes And = Some Flags
binary_takes Or = Some Flags
binary_takes Xor = Some Flags

abbrev pub binary_gives : Binary → CellKind
binary_gives Add = Numbers
binary_gives Subtract = Numbers
binary_gives Multiply = Numbers
binary_gives Divide = Numbers
binary_gives Modulo = Numbers
binary_gives Equal = Flags
binary_gives NotEqual = Flags
binary_gives Greater = Flags
binary_gives GreaterOrEqual = Flags
binary_gives Less = Flags
binary_gives LessOrEqual = Flags
binary_gives And = Flags
binary_gives Or = Flags
binary_gives Xor = Flags

abbrev pub reducer_takes : Reducer → Option CellKind
reducer_takes Sum = Some Numbers
reducer_takes Product = Some Numbers
reducer_takes Mean = Some Numbers
reducer_takes Min = Some Numbers
reducer_takes Max = Some Numbers
reducer_takes Median = Some Numbers
reducer_takes First = None
reducer_takes Last = None
reducer_takes Any = Some Flags
reducer_takes EveryOne = Some Flags
reducer_takes Count = None
reducer_takes CountAll = None

-- none where it gives cells of the list
abbrev pub reducer_gives : Reducer → Option CellKind
reducer_gives Sum = Some Numbers
reducer_gives Product = Some Numbers
reducer_gives Mean = Some Numbers
reducer_gives Min = Some Numbers
reducer_gives Max = Some Numbers
reducer_gives Median = Some Numbers
reducer_gives First = None
reducer_gives Last = None
reducer_gives Any = Some Flags
reducer_gives EveryOne = Some Flags
reducer_gives Count = Some Numbers
reducer_gives CountAll = Some Numbers
