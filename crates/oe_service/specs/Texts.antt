-- The texts that ticks store are those of what the graphs mean, and reading leaves these texts as they are.
use Rattle.std.specs.Prelude.{◌≡◌, ⊤, ℕ, ℤ, List}
use Rattle.oe_steps.specs.Collections.{AreRead}
use Rattle.oe_engine.specs.Laws.{LoadsVisible}
use Rattle.oe_engine.specs.Results.{IsVisible, result_of}
use Rattle.oe_jobs.specs.Plain.{PlainRan}
use Rattle.oe_render.specs.Text.{cube_text}
use Rattle.oe_sources.specs.Catalogue.{Row}
use Rattle.oe_sources.specs.CatalogueDims.{dims_of}
use Rattle.oe_window.specs.declared.grid.ChunkSize.{ChunkSize}
use Rattle.oe_service.specs.Causes.{IsOfTick, Outside}
use Rattle.oe_service.specs.Finishes.{BringsText}
use Rattle.oe_service.specs.Runs.{asset_graph, ran_of}
use Rattle.oe_service.specs.States.{Due, rest, start, plan, round, store, finish, Event}

-- the text of the asset of an index: that of what its graph means over the collections of a catalogue
abbrev pub text_over : List Row → PlainRan → ℕ → List ℕ
text_over rows ran k = cube_text (result_of rows (asset_graph (dims_of rows) ran k))

-- where a text is to be stored, the collections that its graph loads are visible
abbrev pub StoresVisible : List Row → Due → Type 0
StoresVisible rows rest = ⊤
StoresVisible rows (start job) = ⊤
StoresVisible rows (plan job k) = ⊤
StoresVisible rows (round job k done) = ⊤
StoresVisible rows (store job k) = LoadsVisible (asset_graph (dims_of rows) (ran_of job) k) rows
StoresVisible rows (finish job) = ⊤

-- A tick that stores an asset brings the text of what its graph means, where collections and spool are visible. Over
-- collections that were only read between the ticks it is the same text.
pub record TicksBringTexts : Type 0 where
  pub brings : (size : ChunkSize) (workers : ℕ) (before after : Outside) (due : Due) (now : ℤ) (e : Event)
      → IsVisible before.spool → StoresVisible before.rows due → IsOfTick size workers before after due now e
      → BringsText (text_over before.rows) due e
  pub same : (before after : List Row) → AreRead before after → (ran : PlainRan) (k : ℕ)
      → text_over after ran k ≡ text_over before ran k
