-- The statements that a change of a job book makes in the database.
use Rattle.std.specs.Prelude.{ℕ, ℤ, List, [], ◌∷◌, ◌++◌, map, Option, Some, None, codes}
use Rattle.std.specs.Int.{w64, to_be_bytes}
use Rattle.serde_json.specs.Written.{compact_text}
use Rattle.sqlite_value.specs.declared.value.Value.TheVariants.{Text, Blob}
use Rattle.oe_jobs.specs.Changes.{with_asset}
use Rattle.oe_jobs.specs.Plain.{PlainJob, PlainOwned}
use Rattle.oe_jobs.specs.declared.job.Asset.{Asset}
use Rattle.oe_jobs.specs.declared.job.LogEntry.{LogEntry}
use Rattle.oe_keeper.specs.Entry.{job_data}
use Rattle.oe_database.specs.Each.{PlainStatement}

-- a number, as the tables have it: 8 bytes, highest first
abbrev pub number_bytes : ℕ → List ℕ
number_bytes number = to_be_bytes w64 number

-- the entry of a job, whose assets stand in a table of their own
abbrev pub entry_of : PlainJob → List ℕ
entry_of job = compact_text (job_data job)

-- ---- one row, of a job by its number as bytes

-- a job has this entry
abbrev pub puts_entry : List ℕ → List ℕ → PlainStatement
puts_entry number entry = record {
  text = codes "INSERT INTO jobs VALUES (?1, ?2) ON CONFLICT (number) DO UPDATE SET entry = ?2";
  parameters = Blob number ∷ Blob entry ∷ [];
}

-- a job has no assets
abbrev pub drops_assets : List ℕ → PlainStatement
drops_assets number = record { text = codes "DELETE FROM assets WHERE number = ?1"; parameters = Blob number ∷ [] }

-- a job has this asset behind those that it has: their places count from 0
abbrev pub appends_asset : List ℕ → Asset → PlainStatement
appends_asset number asset = record {
  text = codes "INSERT INTO assets VALUES (?1, (SELECT count(*) FROM assets WHERE number = ?1), ?2, ?3)";
  parameters = Blob number ∷ Text asset.name ∷ Blob asset.text ∷ [];
}

-- this is the number of the next job or turn
abbrev pub sets_next : List ℕ → PlainStatement
sets_next next = record { text = codes "UPDATE book SET next = ?1"; parameters = Blob next ∷ [] }

-- the tables are those of version 2
abbrev pub sets_version : PlainStatement
sets_version = record { text = codes "UPDATE book SET version = 2"; parameters = [] }

-- a job has no entry
abbrev pub drops_entry : List ℕ → PlainStatement
drops_entry number = record { text = codes "DELETE FROM jobs WHERE number = ?1"; parameters = Blob number ∷ [] }

-- a user has this stored process
abbrev pub puts_process : PlainOwned → PlainStatement
puts_process owned = record {
  text = codes "INSERT INTO processes VALUES (?1, ?2, ?3) ON CONFLICT (owner, id) DO UPDATE SET body = ?3";
  parameters = Text owned.user ∷ Text owned.process.id ∷ Blob owned.process.text ∷ [];
}

-- a user has no stored process of this id
abbrev pub drops_process : List ℕ → List ℕ → PlainStatement
drops_process user id = record {
  text = codes "DELETE FROM processes WHERE owner = ?1 AND id = ?2";
  parameters = Text user ∷ Text id ∷ [];
}

-- ---- a job, by its number as bytes

-- it has this entry and these assets alone, and the book this next number
abbrev pub puts_job : List ℕ → List ℕ → List Asset → List ℕ → List PlainStatement
puts_job number entry assets next =
    puts_entry number entry ∷ drops_assets number ∷ map (appends_asset number) assets ++ sets_next next ∷ []

-- it has this entry, and this asset behind those that it has
abbrev pub adds_asset : List ℕ → List ℕ → Asset → List PlainStatement
adds_asset number entry asset = puts_entry number entry ∷ appends_asset number asset ∷ []

-- it is gone, and its assets before it
abbrev pub drops_job : List ℕ → List PlainStatement
drops_job number = drops_assets number ∷ drops_entry number ∷ []

-- ---- a change of a job that may not be there, which leaves the book then: there are no statements

-- The entry is written with the asset's log and moment. `held` is the job as its entry has it, where there is one.
abbrev pub asset_statements : Option ℕ → Option PlainJob → Asset → Option LogEntry → ℤ → List PlainStatement
asset_statements (Some number) (Some held) asset log updated =
    adds_asset (number_bytes number) (entry_of (with_asset asset log updated held)) asset
asset_statements (Some number) None asset log updated = []
asset_statements None held asset log updated = []

abbrev pub drop_statements : Option ℕ → List PlainStatement
drop_statements (Some number) = drops_job (number_bytes number)
drop_statements None = []
