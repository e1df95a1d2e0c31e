-- Which event a tick is, by what is due: the cause of each refusal of a run, and what holds where it is not refused.
use Rattle.std.specs.Prelude.{◌≡◌, ⊤, ◌<◌, ◌≤◌, ◌+◌, ℕ, ℤ, List, length, Option, Some, None, IsUtf8}
use Rattle.oe_cell.specs.declared.cell.Cell.{Cell}
use Rattle.oe_dims.specs.Cube.{Cube}
use Rattle.oe_dims.specs.declared.dims.DimsRow.{DimsRow}
use Rattle.oe_steps.specs.Collections.{LoadRose}
use Rattle.oe_engine.specs.Results.{IsVisible, IsWithoutOver, OfMeaning}
use Rattle.oe_steps.specs.Refusals.{KeepsDamage}
use Rattle.oe_graph.specs.Faults.{IsLeast}
use Rattle.oe_graph.specs.Read.{IsFaultless}
use Rattle.oe_graph.specs.declared.code.Code.{Code}
use Rattle.oe_graph.specs.declared.fault.Fault.{Fault}
use Rattle.oe_jobs.specs.Kept.{Kept}
use Rattle.oe_jobs.specs.Plain.{PlainJob, PlainRan}
use Rattle.oe_jobs.specs.Valid.{most_asset}
use Rattle.oe_judge.specs.Judged.{StandsWithCollections}
use Rattle.oe_outside.specs.Faults.{Rose}
use Rattle.oe_plan.specs.Figures.{bound_of, most_held_cells}
use Rattle.oe_render.specs.Text.{cube_text}
use Rattle.oe_check.specs.Checked.{CheckedGraph}
use Rattle.oe_sources.specs.Catalogue.{Row}
use Rattle.oe_sources.specs.CatalogueDims.{dims_of}
use Rattle.oe_spool.specs.Least.{least_over_of}
use Rattle.oe_window.specs.declared.grid.ChunkSize.{ChunkSize}
use Rattle.oe_service.specs.Runs.{asset_graph, asset_source, ran_of}
use Rattle.oe_service.specs.States.{Due, rest, start, plan, round, store, finish, Event, command, no_command, tick, refusal, reopen}
use Rattle.oe_service.specs.declared.refusal.RunRefusal.{RunRefusal}
use Rattle.oe_service.specs.declared.refusal.RunRefusal.TheVariants.{Graph, PlanTooLarge, ReadFault, SourceDamaged, SpoolFault, SpoolDamaged, NumberOverflow, AssetTooLarge, OutOfMemory}

-- ---- what a call sees of the outside

-- the collections, the bytes of the spool, what is kept of the book, and the fault counters
pub record Outside : Type 0 where
  pub rows : List Row
  pub spool : Option (List ℕ)
  pub spool_faults : ℕ
  pub kept : Option Kept
  pub keeper_faults : ℕ

abbrev pub outside : List Row → Option (List ℕ) → ℕ → Option Kept → ℕ → Outside
outside rows spool spool_faults kept keeper_faults = record {
  rows = rows;
  spool = spool;
  spool_faults = spool_faults;
  kept = kept;
  keeper_faults = keeper_faults;
}

-- of collections, a spool of type P and a keeper of type K
abbrev pub outside_of : {P K : Type 0} → (P → Option (List ℕ)) → (P → ℕ) → (K → Option Kept) → (K → ℕ) → List Row → P → K
    → Outside
outside_of bytes faults kept keeper_faults rows spool keeper =
    outside rows (bytes spool) (faults spool) (kept keeper) (keeper_faults keeper)

-- a cell is Over
pub record HasOver (cube : Cube Cell) : Type 0 where
  pub number : ℕ
  pub least : least_over_of cube.cells ≡ Some number

-- the text of the cube is longer than that of an asset may be
abbrev pub IsTooLong : Cube Cell → Type 0
IsTooLong cube = most_asset < length (cube_text cube)

-- ---- where the asset of an index is to be planned, over collections of these rows

module _ (dims : List DimsRow) (ran : PlainRan) (k : ℕ) where
  -- a fault stands in its graph
  abbrev pub Stands : Code → List ℕ → Type 0
  Stands = StandsWithCollections dims ran.stored (asset_source ran k)

  -- the least of them has this code
  pub record IsCodeOfLeast (code : Code) : Type 0 where
    pub fault : Fault
    pub least : IsLeast Stands fault
    pub code_is : fault.code ≡ code

  -- it has no fault, but its run would hold more cells than are allowed
  pub record IsTooLarge (size : ChunkSize) (workers : ℕ) : Type 0 where
    pub faultless : IsFaultless Stands
    pub over : most_held_cells < bound_of (asset_graph dims ran k) size workers

  -- it has no fault, and its run holds no more cells than that
  pub record IsPlannable (size : ChunkSize) (workers : ℕ) : Type 0 where
    pub faultless : IsFaultless Stands
    pub within : bound_of (asset_graph dims ran k) size workers ≤ most_held_cells

  -- why it is refused by its graph alone
  abbrev pub JudgeRefused : RunRefusal → Type 0
  JudgeRefused (Graph code) = IsCodeOfLeast code
  JudgeRefused PlanTooLarge = ⊥
  JudgeRefused ReadFault = ⊥
  JudgeRefused SourceDamaged = ⊥
  JudgeRefused SpoolFault = ⊥
  JudgeRefused SpoolDamaged = ⊥
  JudgeRefused NumberOverflow = ⊥
  JudgeRefused AssetTooLarge = ⊥
  JudgeRefused OutOfMemory = ⊤

  -- why its run is refused; out of memory has no cause
  abbrev pub PlanRefused : ChunkSize → ℕ → RunRefusal → Type 0
  PlanRefused size workers (Graph code) = IsCodeOfLeast code
  PlanRefused size workers PlanTooLarge = IsTooLarge size workers
  PlanRefused size workers ReadFault = ⊥
  PlanRefused size workers SourceDamaged = ⊥
  PlanRefused size workers SpoolFault = ⊥
  PlanRefused size workers SpoolDamaged = ⊥
  PlanRefused size workers NumberOverflow = ⊥
  PlanRefused size workers AssetTooLarge = ⊥
  PlanRefused size workers OutOfMemory = ⊤

-- ---- where a round of its chunks is due, or its text is to be stored

module _ (c : CheckedGraph) (rows : List Row) where
  -- a load of its run keeps a damaged position
  pub record MeetsDamage : Type 0 where
    pub node : ℕ
    pub number : ℕ
    pub keeps : KeepsDamage c rows node number

  -- the text is that of what the graph means: no cell of it is Over, and it is not too long
  pub record IsAssetText (spool : Option (List ℕ)) (text : List ℕ) : Type 0 where
    pub numbers : OfMeaning rows c IsWithoutOver
    pub short : length text ≤ most_asset
    pub text_is : IsVisible spool → OfMeaning rows c (λ cube. text ≡ cube_text cube)

  -- no cell is Over, but the text is too long
  pub record IsTextTooLong (spool : Option (List ℕ)) : Type 0 where
    pub numbers : OfMeaning rows c IsWithoutOver
    pub long : IsVisible spool → OfMeaning rows c IsTooLong

  -- why a round is refused
  abbrev pub RoundRefused : List Row → ℕ → ℕ → RunRefusal → Type 0
  RoundRefused rows_after faults faults_after (Graph code) = ⊥
  RoundRefused rows_after faults faults_after PlanTooLarge = ⊥
  RoundRefused rows_after faults faults_after ReadFault = LoadRose c rows rows_after
  RoundRefused rows_after faults faults_after SourceDamaged = MeetsDamage
  RoundRefused rows_after faults faults_after SpoolFault = Rose faults faults_after
  RoundRefused rows_after faults faults_after SpoolDamaged = ⊥
  RoundRefused rows_after faults faults_after NumberOverflow = ⊥
  RoundRefused rows_after faults faults_after AssetTooLarge = ⊥
  RoundRefused rows_after faults faults_after OutOfMemory = ⊥

  -- why a text is not stored: that a cell is Over comes before all other causes, and out of memory has none else
  abbrev pub TextRefused : Option (List ℕ) → ℕ → ℕ → RunRefusal → Type 0
  TextRefused spool faults faults_after (Graph code) = ⊥
  TextRefused spool faults faults_after PlanTooLarge = ⊥
  TextRefused spool faults faults_after ReadFault = ⊥
  TextRefused spool faults faults_after SourceDamaged = ⊥
  TextRefused spool faults faults_after SpoolFault = Rose faults faults_after × OfMeaning rows c IsWithoutOver
  -- what was read back is no text, which never comes of a spool whose bytes are visible
  TextRefused spool faults faults_after SpoolDamaged = (spool ≡ None) × OfMeaning rows c IsWithoutOver
  TextRefused spool faults faults_after NumberOverflow = OfMeaning rows c HasOver
  TextRefused spool faults faults_after AssetTooLarge = IsTextTooLong spool
  TextRefused spool faults faults_after OutOfMemory = OfMeaning rows c IsWithoutOver

-- why bytes in bounded room are no text of an asset: they fill it, or are not UTF-8; out of memory has no cause
abbrev pub HasNoText : List ℕ → RunRefusal → Type 0
HasNoText bytes (Graph code) = ⊥
HasNoText bytes PlanTooLarge = ⊥
HasNoText bytes ReadFault = ⊥
HasNoText bytes SourceDamaged = ⊥
HasNoText bytes SpoolFault = ⊥
HasNoText bytes SpoolDamaged = ¬ IsUtf8 bytes
HasNoText bytes NumberOverflow = ⊥
HasNoText bytes AssetTooLarge = length bytes ≡ most_asset + 1
HasNoText bytes OutOfMemory = ⊤

-- ---- ticks

abbrev pub IsRefusal : Event → Type 0
IsRefusal (command user asked now) = ⊥
IsRefusal no_command = ⊥
IsRefusal (tick now text) = ⊥
IsRefusal (refusal now reason) = ⊤
IsRefusal reopen = ⊥

-- The event of a tick changes the book: a plan and a round do so only where they are refused.
abbrev pub ChangesBook : Due → Event → Type 0
ChangesBook rest e = ⊥
ChangesBook (start job) e = ⊤
ChangesBook (plan job k) e = IsRefusal e
ChangesBook (round job k done) e = IsRefusal e
ChangesBook (store job k) e = ⊤
ChangesBook (finish job) e = ⊤

module _ (size : ChunkSize) (workers : ℕ) (before after : Outside) where
  -- the graph of the asset of an index
  abbrev pub graph : PlainJob → ℕ → CheckedGraph
  graph job k = asset_graph (dims_of before.rows) (ran_of job) k

  -- the run is refused by its cause
  abbrev pub IsRefused : Due → RunRefusal → Type 0
  IsRefused rest reason = ⊥
  IsRefused (start job) reason = ⊥
  IsRefused (plan job k) reason = PlanRefused (dims_of before.rows) (ran_of job) k size workers reason
  IsRefused (round job k done) reason =
      RoundRefused (graph job k) before.rows after.rows before.spool_faults after.spool_faults reason
  IsRefused (store job k) reason =
      TextRefused (graph job k) before.rows before.spool before.spool_faults after.spool_faults reason
  IsRefused (finish job) reason = ⊥

  -- nothing refuses it; of a round that is said by what the round leaves
  abbrev pub IsUnrefused : Due → List ℕ → Type 0
  IsUnrefused rest text = ⊤
  IsUnrefused (start job) text = ⊤
  IsUnrefused (plan job k) text = IsPlannable (dims_of before.rows) (ran_of job) k size workers
  IsUnrefused (round job k done) text = ⊤
  IsUnrefused (store job k) text = IsAssetText (graph job k) before.rows before.spool text
  IsUnrefused (finish job) text = ⊤

  -- a tick at a moment is this event
  abbrev pub IsOfTick : Due → ℤ → Event → Type 0
  IsOfTick due now (command user asked at) = ⊥
  IsOfTick due now no_command = ⊥
  IsOfTick due now (tick at text) = (at ≡ now) × IsUnrefused due text
  IsOfTick due now (refusal at reason) = (at ≡ now) × IsRefused due reason
  IsOfTick due now reopen = ⊥
