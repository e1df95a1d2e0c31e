-- The table of faults: the phase in which each code is looked for, and its number in that phase.
use Rattle.std.specs.Prelude.{ℕ, List, codes}
use Rattle.oe_graph.specs.declared.code.Code.{Code}
use Rattle.oe_graph.specs.declared.code.Code.TheVariants.{InputTooLong, GraphUnreadable, ProcessGraphMissing, NodeInvalid, ResultNodeCount, ParametersInvalid, ProcessUnsupported, ProcessRecursive, GraphTooLarge, ArgumentUnknown, ProcessParameterMissing, ParameterUnknown, NodeUnknown, GraphCycle, ProcessParameterInvalid, CollectionNotFound, CrsUnsupported, FormatUnsupported, DimensionNotAvailable, TemporalExtentEmpty, BandFilterParameterMissing, BandNotAvailable, KernelDimensionsUneven, KernelTooLarge, DistinctDimensionLabelsRequired, MergeDimensionsDiffer, OverlapResolverMissing, MaskDimensionsDiffer, ArrayElementParameterMissing, ArrayElementParameterConflict, ArrayElementNotAvailable, CellKindInvalid, CubeTooLarge}

-- a row: the phase, the number in it, and the code as it is spelled
pub record Row : Type 0 where
  pub phase : ℕ
  pub number : ℕ
  pub name : List ℕ

abbrev row : ℕ → ℕ → List ℕ → Row
row phase number name = record { phase = phase; number = number; name = name }

abbrev pub row_of : Code → Row
row_of InputTooLong = row 1 1 (codes "InputTooLong")
row_of GraphUnreadable = row 1 2 (codes "GraphUnreadable")
row_of ProcessGraphMissing = row 1 3 (codes "ProcessGraphMissing")
row_of NodeInvalid = row 1 4 (codes "NodeInvalid")
row_of ResultNodeCount = row 1 5 (codes "ResultNodeCount")
row_of ParametersInvalid = row 1 6 (codes "ParametersInvalid")
row_of ProcessUnsupported = row 2 1 (codes "ProcessUnsupported")
row_of ProcessRecursive = row 2 2 (codes "ProcessRecursive")
row_of GraphTooLarge = row 3 1 (codes "GraphTooLarge")
row_of ArgumentUnknown = row 4 1 (codes "ArgumentUnknown")
row_of ProcessParameterMissing = row 4 2 (codes "ProcessParameterMissing")
row_of ParameterUnknown = row 4 3 (codes "ParameterUnknown")
row_of NodeUnknown = row 4 4 (codes "NodeUnknown")
row_of GraphCycle = row 4 5 (codes "GraphCycle")
row_of ProcessParameterInvalid = row 5 1 (codes "ProcessParameterInvalid")
row_of CollectionNotFound = row 5 2 (codes "CollectionNotFound")
row_of CrsUnsupported = row 5 3 (codes "CrsUnsupported")
row_of FormatUnsupported = row 5 4 (codes "FormatUnsupported")
row_of DimensionNotAvailable = row 5 5 (codes "DimensionNotAvailable")
row_of TemporalExtentEmpty = row 5 6 (codes "TemporalExtentEmpty")
row_of BandFilterParameterMissing = row 5 7 (codes "BandFilterParameterMissing")
row_of BandNotAvailable = row 5 8 (codes "BandNotAvailable")
row_of KernelDimensionsUneven = row 5 9 (codes "KernelDimensionsUneven")
row_of KernelTooLarge = row 5 10 (codes "KernelTooLarge")
row_of DistinctDimensionLabelsRequired = row 5 11 (codes "DistinctDimensionLabelsRequired")
row_of MergeDimensionsDiffer = row 5 12 (codes "MergeDimensionsDiffer")
row_of OverlapResolverMissing = row 5 13 (codes "OverlapResolverMissing")
row_of MaskDimensionsDiffer = row 5 14 (codes "MaskDimensionsDiffer")
row_of ArrayElementParameterMissing = row 5 15 (codes "ArrayElementParameterMissing")
row_of ArrayElementParameterConflict = row 5 16 (codes "ArrayElementParameterConflict")
row_of ArrayElementNotAvailable = row 5 17 (codes "ArrayElementNotAvailable")
row_of CellKindInvalid = row 5 18 (codes "CellKindInvalid")
row_of CubeTooLarge = row 5 19 (codes "CubeTooLarge")

abbrev pub phase_of : Code → ℕ
phase_of code = (row_of code).phase

abbrev pub number_in_phase : Code → ℕ
number_in_phase code = (row_of code).number

abbrev pub name_of : Code → List ℕ
name_of code = (row_of code).name
