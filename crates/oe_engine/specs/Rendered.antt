-- What rendering the result of a run leaves, of a sink of type O and of a store of type P.
use Rattle.std.specs.Prelude.{ℕ, List, length, Option, OnErr, OnOk, Result}
use Rattle.oe_dims.specs.Dimensions.{cell_count}
use Rattle.oe_outside.specs.Visible.{AddsBytes, AddsSome, Appends, AppendsPrefix}
use Rattle.oe_plan.specs.Plans.{PlanOf}
use Rattle.oe_render.specs.Rendered.{BeginsCube, IsRefusalWithin, WritesCube}
use Rattle.oe_render.specs.Text.{cube_text}
use Rattle.oe_render.specs.declared.rendering.RenderFail.{RenderFail}
use Rattle.oe_engine.specs.Runs.{OfRun, RunOf, result_shape}

-- where it succeeds, the text of the cube of the run follows what was written
abbrev pub WritesRun : {O P T : Type 0} → (O → Option (List ℕ)) → O → O → RunOf → (P → Option (List ℕ)) → P
    → Result T RenderFail → Type 0
WritesRun written before after r bytes store result =
    OnOk result (OfRun r (bytes store) (λ cube. Appends (written before) (cube_text cube) (written after)))

-- the same of a prefix of the text, where it fails
abbrev pub BeginsRun : {O P T : Type 0} → (O → Option (List ℕ)) → O → O → RunOf → (P → Option (List ℕ)) → P
    → Result T RenderFail → Type 0
BeginsRun written before after r bytes store result =
    OnErr result (OfRun r (bytes store) (λ cube. AppendsPrefix (written before) (cube_text cube) (written after)))

-- where it succeeds, it is the text of cells of a store, none of them Over, also where collections or bytes are hidden
abbrev pub WritesStored : {O P T : Type 0} → (O → Option (List ℕ)) → O → O → RunOf → (P → Option (List ℕ)) → P
    → Result T RenderFail → Type 0
WritesStored written before after r bytes store result =
    WritesCube written before after bytes store r.base (result_shape r.plan) result

-- where it fails, it is a prefix of the text of such cells, none of them Over
abbrev pub BeginsStored : {O P T : Type 0} → (O → Option (List ℕ)) → O → O → RunOf → (P → Option (List ℕ)) → P
    → Result T RenderFail → Type 0
BeginsStored written before after r bytes store result =
    BeginsCube written before after bytes store r.base (result_shape r.plan) result

-- where it succeeds, the number of bytes of the text of that cube is counted
abbrev pub CountsRun : {O P T : Type 0} → (O → Option ℕ) → O → O → RunOf → (P → Option (List ℕ)) → P
    → Result T RenderFail → Type 0
CountsRun size before after r bytes store result =
    OnOk result (OfRun r (bytes store) (λ cube. AddsBytes (size before) (length (cube_text cube)) (size after)))

-- the same of a prefix of the text, where it fails
abbrev pub CountsRunPrefix : {O P T : Type 0} → (O → Option ℕ) → O → O → RunOf → (P → Option (List ℕ)) → P
    → Result T RenderFail → Type 0
CountsRunPrefix size before after r bytes store result =
    OnErr result (OfRun r (bytes store) (λ cube. AddsSome (size before) (length (cube_text cube)) (size after)))

-- what it may refuse: damage only in a store whose bytes are hidden, and at a cell of the result
abbrev pub IsRefusalOf : PlanOf → Option (List ℕ) → RenderFail → Type 0
IsRefusalOf p store = IsRefusalWithin store 0 (cell_count (result_shape p))
