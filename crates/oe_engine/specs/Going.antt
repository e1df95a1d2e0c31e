-- Runs that are under way, and two of them in one store.
use Rattle.std.specs.Prelude.{◌≡◌, ◌≤◌, ℕ, ◌+◌, ◌*◌, List, Option, None, Result}
use Rattle.oe_dims.specs.Dimensions.{cell_count}
use Rattle.oe_dims.specs.Positions.{IsPosition}
use Rattle.oe_plan.specs.Plans.{IsPlan}
use Rattle.oe_meanings.specs.Graphs.{Collections}
use Rattle.oe_check.specs.Laws.{AreCollectionsOf}
use Rattle.oe_sources.specs.Catalogue.{Row}
use Rattle.oe_sources.specs.CatalogueDims.{dims_of}
use Rattle.oe_spool.specs.Spooled.{ChangesOnly}
use Rattle.oe_steps.specs.Collections.{AreRead, HasCollections, Shows}
use Rattle.oe_engine.specs.Laws.{GivesCollections}
use Rattle.oe_engine.specs.Rounds.{Advances, ReadsChunks, WritesChunks}
use Rattle.oe_engine.specs.Runs.{HasDone, HasRunRecords, RunOf, chunk_total, result_cube, result_shape}
use Rattle.oe_engine.specs.declared.run.Progress.{Progress}
use Rattle.oe_steps.specs.declared.fail.RunFail.{RunFail}

-- ---- under way

-- A run is under way over the rows of a catalogue and a store, as both are now: its graph was checked over these rows,
-- what it loads is mounted, records of all that is done stand in the store, and over the collections that are visible
-- they are those of the result.
pub record IsGoing (r : RunOf) (rows : List Row) (store : Option (List ℕ)) : Type 0 where
  pub planned : IsPlan r.plan
  pub within : r.done ≤ chunk_total r.plan
  pub rows_are : r.plan.graph.rows ≡ dims_of rows
  pub given : GivesCollections rows
  pub mounted : HasCollections r.plan.graph rows
  pub records : HasRunRecords r store
  pub values : (collections : Collections) → AreCollectionsOf r.plan.graph collections
      → Shows r.plan.graph rows collections → HasDone r store (result_cube collections r.plan)

-- ---- records

-- where the records of a run end: one of 17 bytes for each cell of the result
abbrev pub records_end : RunOf → ℕ
records_end r = r.base + 17 * cell_count (result_shape r.plan)

-- no byte of a store is changed but of the records of a run
abbrev pub ChangesOwnRecords : RunOf → Option (List ℕ) → Option (List ℕ) → Type 0
ChangesOwnRecords r store store_after =
    ChangesOnly r.base (result_shape r.plan) (IsPosition (result_shape r.plan)) store store_after

-- the records of the second run begin behind those of the first
abbrev pub StandsBehind : RunOf → RunOf → Type 0
StandsBehind first second = records_end first ≤ second.base

-- ---- laws

-- A run none of whose chunks is done is under way, and it is after each round, whatever that answers.
pub record RunsGoOn : Type 0 where
  pub begun : (r : RunOf) (rows : List Row) (store : Option (List ℕ)) → IsPlan r.plan → r.done ≡ 0 → r.over ≡ None
      → r.plan.graph.rows ≡ dims_of rows → GivesCollections rows → HasCollections r.plan.graph rows
      → IsGoing r rows store
  pub round : (before after : RunOf) (rows rows_after : List Row) (store store_after : Option (List ℕ))
      (result : Result Progress RunFail) → IsGoing before rows store → Advances before after result
      → WritesChunks before rows store after store_after → ReadsChunks before rows rows_after
      → IsGoing after rows_after store_after

-- The records of a run stay where a store changes only at those of another that stand behind them, so that the run is
-- under way as before, also after reads of collections.
pub record RunsStayApart : Type 0 where
  pub records : (r other : RunOf) → IsPlan r.plan → StandsBehind r other → (store store_after : Option (List ℕ))
      → ChangesOwnRecords other store store_after → HasRunRecords r store → HasRunRecords r store_after
  pub done : (r other : RunOf) → IsPlan r.plan → StandsBehind r other → (store store_after : Option (List ℕ))
      → ChangesOwnRecords other store store_after → (collections : Collections)
      → AreCollectionsOf r.plan.graph collections → HasDone r store (result_cube collections r.plan)
      → HasDone r store_after (result_cube collections r.plan)
  pub going : (r other : RunOf) → StandsBehind r other → (rows rows_after : List Row) → AreRead rows rows_after
      → (store store_after : Option (List ℕ)) → ChangesOwnRecords other store store_after → IsGoing r rows store
      → IsGoing r rows_after store_after
  -- what a round changes are records of its run, and so is what several calls change one after the other
  pub round : (before after : RunOf) (rows : List Row) (store store_after : Option (List ℕ)) → IsPlan before.plan
      → WritesChunks before rows store after store_after → ChangesOwnRecords before store store_after
  pub none : (r : RunOf) (store : Option (List ℕ)) → ChangesOwnRecords r store store
  pub both : (r : RunOf) (first second third : Option (List ℕ)) → ChangesOwnRecords r first second
      → ChangesOwnRecords r second third → ChangesOwnRecords r first third
