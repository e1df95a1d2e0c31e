-- The words of an explanation: what each kind of parameter may hold, and what to do about each fault.
use Rattle.std.specs.Prelude.{ℕ, List, codes}
use Rattle.oe_graph.specs.declared.code.Code.{Code}
use Rattle.oe_graph.specs.declared.code.Code.TheVariants as code
use Rattle.oe_graph.specs.declared.table.ArgumentKind.{ArgumentKind}
use Rattle.oe_graph.specs.declared.table.ArgumentKind.TheVariants as kind

-- what a parameter of a kind may hold
abbrev pub kind_words : ArgumentKind → List ℕ
kind_words kind.Cube = codes "a reference to a node of the main graph, as {\"from_node\":\"n\"}"
kind_words kind.Callback = codes "a callback, as {\"process_graph\":{..}}"
kind_words kind.CallbackOrNull = codes "null, or a callback, as {\"process_graph\":{..}}"
kind_words kind.Text = codes "a text"
kind_words kind.TextOrNull = codes "null or a text"
kind_words kind.SpatialExtent = codes "a box: an object of whole numbers west, south, east and north, and perhaps crs"
kind_words kind.SpatialExtentOrNull =
    codes "null, or a box: an object of whole numbers west, south, east and north, and perhaps crs"
kind_words kind.TemporalExtent = codes "a list of two instants, of which one may be null"
kind_words kind.TemporalExtentOrNull = codes "null, or a list of two instants, of which one may be null"
kind_words kind.Intervals = codes "a list of lists of two instants, of which one may be null"
kind_words kind.IntervalLabels =
    codes "a list of instants, as many as there are intervals; or [], where each interval has a start"
kind_words kind.Bands = codes "a list of names, none twice"
kind_words kind.BandsOrNull = codes "null, or a list of names, one at least and none twice"
kind_words kind.KernelRows = codes "a list of rows, each a list of as many whole numbers as the first, one at least"
kind_words kind.Whole = codes "a whole number"
kind_words kind.Border = codes "a whole number, or \"replicate\", \"reflect\", \"reflect_pixel\" or \"wrap\""
kind_words kind.ScalarLiteral = codes "null, true, false or a whole number"
kind_words kind.EmptyList = codes "[]"
kind_words kind.EmptyObject = codes "{}"
kind_words kind.EmptyObjectOrNull = codes "null or {}"
kind_words kind.Number = codes "a number: null, a whole number, or a reference to a node or to x, y or context"
kind_words kind.Flag = codes "a flag: null, true, false, or a reference to a node or to x, y or context"
kind_words kind.Cell = codes "a cell: null, true, false, a whole number, or a reference to a node or to x, y or context"
kind_words kind.Numbers = codes "a list of numbers: a reference to data, or at most 64 numbers"
kind_words kind.Flags = codes "a list of flags: a reference to data, or at most 64 flags"
kind_words kind.Cells = codes "a list of cells: a reference to data, or at most 64 cells"
kind_words kind.FlagLiteral = codes "true or false"
kind_words kind.Null = codes "null"
kind_words kind.TrueOrNull = codes "null or true"
kind_words kind.IndexOrNull = codes "null, or a whole number not below 0"
kind_words kind.LabelOrNull = codes "null, a text or a whole number"
kind_words kind.Period = codes "\"day\", \"month\" or \"year\""
kind_words kind.TimeName = codes "\"t\""
kind_words kind.Data = codes "a reference to data, as {\"from_parameter\":\"data\"}"

-- what to do about a fault of a code
abbrev pub hint_words : Code → List ℕ
hint_words code.InputTooLong = codes "An input has at most 1048576 bytes: leave out blanks and descriptions, or split the graph."
hint_words code.GraphUnreadable =
    codes "The input is to be a JSON object: see whether it is empty or cut, is UTF-8 and has no comma too many."
hint_words code.ProcessGraphMissing =
    codes "Put the nodes under process_graph; the body of a batch job has it one level deeper, in process."
hint_words code.NodeInvalid =
    codes "A node has an id of letters, digits, '_', '-' and '.', a text process_id and an object arguments."
hint_words code.ResultNodeCount = codes "Mark exactly one node by a member result that is true, in each callback too."
hint_words code.ParametersInvalid = codes "Give parameters as a list of objects, each with a name of its own."
hint_words code.ProcessUnsupported =
    codes "Take a process that there is: some stand in the main graph alone, others in callbacks alone."
hint_words code.ProcessRecursive = codes "Break the cycle of calls: a stored process must not reach itself."
hint_words code.GraphTooLarge = codes "Split the graph: the main graph has at most 256 nodes, and a callback 64."
hint_words code.ArgumentUnknown = codes "The process has no parameter of this name: correct it or leave the argument out."
hint_words code.ProcessParameterMissing = codes "Give the argument: the process has no default for it."
hint_words code.ParameterUnknown =
    codes "Refer to a parameter that is seen here: in a callback those of its process, in the main graph none."
hint_words code.NodeUnknown =
    codes "Refer to a node of the same graph: a callback sees its own nodes, and none of the main graph."
hint_words code.GraphCycle = codes "Break the cycle: the references of the node lead back to itself."
hint_words code.ProcessParameterInvalid =
    codes "Give the argument what it must hold: a number has no point, and null stands only where it is named."
hint_words code.CollectionNotFound =
    codes "Mount the file of the collection, or take the id of one that is: 'openeo describe' lists them."
hint_words code.CrsUnsupported = codes "Give the box the EPSG code of the cube as its crs: without one it is 4326."
hint_words code.FormatUnsupported = codes "Give FJSON as the format, in any letter case."
hint_words code.DimensionNotAvailable =
    codes "Keep the dimension until here, or name one that the cube has; instants are on t alone."
hint_words code.TemporalExtentEmpty = codes "Exchange the instants: the end is later than the start, and is left out."
hint_words code.BandFilterParameterMissing = codes "List the bands to be kept."
hint_words code.BandNotAvailable = codes "Take bands that the cube has; letter case counts."
hint_words code.KernelDimensionsUneven = codes "Add a row or a column of zeros: the kernel has an odd number of each."
hint_words code.KernelTooLarge = codes "Take a smaller kernel: it has at most 31 rows and 31 columns."
hint_words code.DistinctDimensionLabelsRequired = codes "Give labels of which no two are one instant."
hint_words code.MergeDimensionsDiffer =
    codes "Filter or reduce one cube first: only one dimension may differ, and only one cube may lack any."
hint_words code.OverlapResolverMissing = codes "Give overlap_resolver: a position is in both cubes."
hint_words code.MaskDimensionsDiffer =
    codes "Filter or reduce the mask first: the data have each of its dimensions, with the same labels."
hint_words code.ArrayElementParameterMissing = codes "Give index or label."
hint_words code.ArrayElementParameterConflict = codes "Leave out index or label."
hint_words code.ArrayElementNotAvailable =
    codes "Take an element that each list has, or give return_nodata as true to get null."
hint_words code.CellKindInvalid =
    codes "Do not mix numbers and flags: compare numbers to get flags, and take 'if' to get numbers."
hint_words code.CubeTooLarge = codes "Load less: a cube has at most 65536 labels in a dimension, and 2^40 cells."
