-- What parts make a whole: those of one run, whose ranges have each of its chunks once.
use Rattle.std.specs.Prelude.{◌≡◌, ◌≢◌, ℕ, ◌<◌, ◌≤◌, List, slice_get, Some}
use Rattle.oe_dims.specs.Dimensions.{Dimensions}
use Rattle.oe_dims.specs.declared.kind.CellKind.{CellKind}
use Rattle.oe_window.specs.Chunks.{chunk_count, tiling_of}
use Rattle.oe_window.specs.declared.grid.ChunkSize.{ChunkSize}
use Rattle.oe_parts.specs.Head.{AreSides, IsPartHead, PartHead}
use Rattle.oe_parts.specs.declared.whole.Difference.{Difference}
use Rattle.oe_parts.specs.declared.whole.Difference.TheVariants.{Graph, Shape, Sides}
use Rattle.oe_parts.specs.declared.whole.Misfit.{Misfit}
use Rattle.oe_parts.specs.declared.whole.Misfit.TheVariants as misfit

-- what the parts are to be parts of: the run of the graph with this text, whose result has this kind and shape
pub record RunOutline : Type 0 where
  pub graph : List ℕ
  pub kind : CellKind
  pub shape : Dimensions

-- how many chunks of these sides the run has
abbrev pub run_chunks : RunOutline → ChunkSize → ℕ
run_chunks run sides = chunk_count (tiling_of run.shape sides)

-- a part of this run, in chunks of these sides
pub record IsOfRun (run : RunOutline) (sides : ChunkSize) (head : PartHead) : Type 0 where
  pub graph : head.graph ≡ run.graph
  pub kind : head.kind ≡ run.kind
  pub shape : head.shape ≡ run.shape
  pub sides_are : head.sides ≡ sides

-- all are parts of this run, in chunks of these sides
pub record AreOfRun (run : RunOutline) (sides : ChunkSize) (heads : List PartHead) : Type 0 where
  pub valid : AreSides sides
  pub each : (index : ℕ) (head : PartHead) → slice_get heads index ≡ Some head → IsOfRun run sides head

-- each head is one of a part
abbrev pub AreHeads : List PartHead → Type 0
AreHeads heads = (index : ℕ) (head : PartHead) → slice_get heads index ≡ Some head → IsPartHead head

-- the part has the chunk of this number
abbrev pub HasChunk : PartHead → ℕ → Type 0
HasChunk head k = (head.first ≤ k) × (k < head.end)

-- the part at an index has it
abbrev pub HasChunkAt : List PartHead → ℕ → ℕ → Type 0
HasChunkAt heads index k = (head : PartHead) × (slice_get heads index ≡ Some head) × HasChunk head k

-- one of the parts has it
abbrev pub IsCovered : List PartHead → ℕ → Type 0
IsCovered heads k = (index : ℕ) × HasChunkAt heads index k

-- each of so many chunks is in one of the parts and in no other, and there are no more
pub record Tile (heads : List PartHead) (total : ℕ) : Type 0 where
  pub covered : (k : ℕ) → k < total → IsCovered heads k
  pub once : (k a b : ℕ) → HasChunkAt heads a k → HasChunkAt heads b k → a ≡ b
  pub within : (k index : ℕ) → HasChunkAt heads index k → k < total

-- the parts are those of one run in chunks of one size, and have each of its chunks once
pub record AreWhole (run : RunOutline) (heads : List PartHead) : Type 0 where
  pub sides : ChunkSize
  pub of_run : AreOfRun run sides heads
  pub tile : Tile heads (run_chunks run sides)

-- ---- why parts make no whole

-- the first difference of a part from those of the run in chunks of these sides
abbrev pub Differs : RunOutline → ChunkSize → PartHead → Difference → Type 0
Differs run sides head Graph = head.graph ≢ run.graph
Differs run sides head Shape = (head.graph ≡ run.graph) × ¬ ((head.kind ≡ run.kind) × (head.shape ≡ run.shape))
Differs run sides head Sides =
    (head.graph ≡ run.graph) × (head.kind ≡ run.kind) × (head.shape ≡ run.shape) × (head.sides ≢ sides)

-- the part at an index is the first in their order that is no part of the run in chunks of the sides that the first
-- part has, and this is its difference
pub record IsFirstStranger (run : RunOutline) (heads : List PartHead) (index : ℕ) (difference : Difference) : Type 0 where
  pub sides : ChunkSize
  pub leads : (first : PartHead) → slice_get heads 0 ≡ Some first → first.sides ≡ sides
  pub head : PartHead
  pub at : slice_get heads index ≡ Some head
  pub differs : Differs run sides head difference
  pub before : (k : ℕ) (other : PartHead) → k < index → slice_get heads k ≡ Some other → IsOfRun run sides other

-- what a difference of the part at an index is called
abbrev pub misfit_of : Difference → ℕ → Misfit
misfit_of Graph index = misfit.Graph index
misfit_of Shape index = misfit.Shape index
misfit_of Sides index = misfit.Sides index

-- it has a chunk that a part before it has
abbrev pub Overlaps : List PartHead → ℕ → Type 0
Overlaps heads index = (before : ℕ) × (k : ℕ) × (before < index) × HasChunkAt heads before k × HasChunkAt heads index k

-- no part has this one of so many chunks, and each chunk before it is in one
pub record IsFirstGap (heads : List PartHead) (total k : ℕ) : Type 0 where
  pub within : k < total
  pub missing : ¬ IsCovered heads k
  pub before : (j : ℕ) → j < k → IsCovered heads j

-- What a misfit says. Of the first part that is of another run the first difference in the order of the variants is
-- named; the first overlap is looked for only where all are of one run, and the first gap only where none overlap.
abbrev pub SaysMisfit : RunOutline → List PartHead → Misfit → Type 0
SaysMisfit run heads (misfit.Graph index) = IsFirstStranger run heads index Graph
SaysMisfit run heads (misfit.Shape index) = IsFirstStranger run heads index Shape
SaysMisfit run heads (misfit.Sides index) = IsFirstStranger run heads index Sides
SaysMisfit run heads (misfit.Overlap index) =
    (sides : ChunkSize) × AreOfRun run sides heads × Overlaps heads index
    × ((before : ℕ) → before < index → ¬ Overlaps heads before)
SaysMisfit run heads (misfit.Missing k) =
    (sides : ChunkSize) × AreOfRun run sides heads × ((index : ℕ) → ¬ Overlaps heads index)
    × IsFirstGap heads (run_chunks run sides) k
