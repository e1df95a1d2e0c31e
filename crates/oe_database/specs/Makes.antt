-- What a change of a job book makes of the database: it runs the statements of the change in turn.
use Rattle.std.specs.Prelude.{◌≡◌, ℕ, List, [], ◌∷◌, ⊤, Option, Some, None, codes}
use Rattle.sqlite.specs.Held.{Held, state}
use Rattle.sqlite.specs.State.{Shown}
use Rattle.sqlite.specs.Store.{Ghosts}
use Rattle.sqlite_value.specs.Order.{Row, column}
use Rattle.sqlite_value.specs.declared.value.Value.TheVariants.{Blob}
use Rattle.oe_jobs.specs.Plain.{PlainChange, PlainJob, put_job, add_asset, drop_job, put_process, drop_process}
use Rattle.oe_jobs.specs.Texts.{Finds, NamesNumber}
use Rattle.oe_keeper.specs.Reading.{ReadsJob}
use Rattle.oe_database.specs.Each.{RanEach}
use Rattle.oe_database.specs.Statements.{number_bytes, entry_of, puts_job, asset_statements, drop_statements, puts_process, drops_process}

-- the query for the entry of the job of a number
abbrev pub entry_query : List ℕ
entry_query = codes "SELECT entry FROM jobs WHERE number = ?1"

-- no row, or one with the entry of a job of this id
abbrev pub AreEntry : List ℕ → List Row → Option PlainJob → Type 0
AreEntry id [] None = ⊤
AreEntry id [] (Some job) = ⊥
AreEntry id (row ∷ rows) None = ⊥
AreEntry id (row ∷ []) (Some job) = (entry : List ℕ) × (column row 0 ≡ Blob entry) × ReadsJob id entry job
AreEntry id (row ∷ other ∷ rows) (Some job) = ⊥

-- the database has this job under a number as bytes, or none
pub record HoldsJob {S : Type 0} (g : Ghosts S) (id number : List ℕ) (held : Option PlainJob) (old new : Held S) : Type 0 where
  pub rows : List Row
  pub shown : Shown entry_query (Blob number ∷ []) (state g old) (state g new) rows
  pub entry : AreEntry id rows held

-- the same of a number that an id may not have
abbrev pub Holds : {S : Type 0} → Ghosts S → List ℕ → Option ℕ → Option PlainJob → Held S → Held S → Type 0
Holds g id (Some number) held old new = HoldsJob g id (number_bytes number) held old new
Holds g id None held old new = new ≡ old

-- The statements of a change are run. Where an asset is added, the entry of its job is read before.
abbrev pub Makes : {S : Type 0} → Ghosts S → PlainChange → Held S → Held S → Type 0
Makes g (put_job job next) old new =
    (number : ℕ) × NamesNumber job.id number
    × RanEach g (puts_job (number_bytes number) (entry_of job) job.assets (number_bytes next)) old new
Makes {S} g (add_asset id asset log updated) old new =
    (number : Option ℕ) × Finds (NamesNumber id) number × (held : Option PlainJob) × (mid : Held S)
    × Holds g id number held old mid × RanEach g (asset_statements number held asset log updated) mid new
Makes g (drop_job id) old new =
    (number : Option ℕ) × Finds (NamesNumber id) number × RanEach g (drop_statements number) old new
Makes g (put_process owned) old new = RanEach g (puts_process owned ∷ []) old new
Makes g (drop_process user id) old new = RanEach g (drops_process user id ∷ []) old new
