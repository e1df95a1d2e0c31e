-- What loading a book makes of the database, and which book it is, in one transaction.
use Rattle.std.specs.Prelude.{◌≡◌, ◌≢◌, ◌⊎◌, ℕ, ◌+◌, ◌^◌, ◌<◌, ℤ, pos, List, [], ◌∷◌, ◌++◌, ⊤, Ok, codes}
use Rattle.sqlite.specs.Batch.{ExecutesAllInside}
use Rattle.sqlite.specs.Held.{Held, state}
use Rattle.sqlite.specs.State.{Shown}
use Rattle.sqlite.specs.Store.{Ghosts}
use Rattle.sqlite_value.specs.Order.{Row, column}
use Rattle.sqlite_value.specs.declared.value.Value.TheVariants.{Blob, Int, Text}
use Rattle.oe_graph.specs.Read.{ReadsStored}
use Rattle.oe_jobs.specs.Plain.{PlainBook, PlainJob, PlainOwned}
use Rattle.oe_jobs.specs.Texts.{NamesNumber}
use Rattle.oe_jobs.specs.Verdicts.{job_id}
use Rattle.oe_jobs.specs.declared.job.Asset.{Asset}
use Rattle.oe_keeper.specs.Reading.{ReadsJob, without_assets}
use Rattle.oe_database.specs.Each.{PlainStatement, RanEach}
use Rattle.oe_database.specs.Statements.{entry_of, number_bytes, puts_entry, sets_version}

-- ---- texts

-- how many tables and indices there are
abbrev pub schema_query : List ℕ
schema_query = codes "SELECT count(*) FROM sqlite_schema"

-- the version, and the number of the next job or turn
abbrev pub head_query : List ℕ
head_query = codes "SELECT version, next FROM book WHERE one = 1"

abbrev pub jobs_query : List ℕ
jobs_query = codes "SELECT number, entry FROM jobs ORDER BY number"

-- the assets of the job of a number
abbrev pub assets_query : List ℕ
assets_query = codes "SELECT place, name, body FROM assets WHERE number = ?1 ORDER BY place"

-- how many assets there are of no job
abbrev pub orphans_query : List ℕ
orphans_query =
    codes "SELECT count(*) FROM assets WHERE NOT EXISTS (SELECT 1 FROM jobs WHERE jobs.number = assets.number)"

abbrev pub processes_query : List ℕ
processes_query = codes "SELECT owner, id, body FROM processes ORDER BY owner, id"

-- the statements that make the tables of a book without jobs and stored processes
abbrev pub tables_text : List ℕ
tables_text =
    codes "CREATE TABLE book (one INTEGER PRIMARY KEY CHECK (one = 1), version INTEGER NOT NULL, "
    ++ codes "next BLOB NOT NULL);\n"
    ++ codes "CREATE TABLE jobs (number BLOB PRIMARY KEY, entry BLOB NOT NULL);\n"
    ++ codes "CREATE TABLE assets (number BLOB NOT NULL REFERENCES jobs(number) ON DELETE CASCADE, "
    ++ codes "place INTEGER NOT NULL,\n    name TEXT NOT NULL, body BLOB NOT NULL, PRIMARY KEY (number, place));\n"
    ++ codes "CREATE TABLE processes (owner TEXT NOT NULL, id TEXT NOT NULL, body BLOB NOT NULL, "
    ++ codes "PRIMARY KEY (owner, id));\n"
    ++ codes "INSERT INTO book VALUES (1, 2, x'0000000000000001')"

-- the statements write the entries of these jobs anew
abbrev pub AreEntries : List PlainJob → List PlainStatement → Type 0
AreEntries [] [] = ⊤
AreEntries (job ∷ jobs) (s ∷ statements) =
    ((number : ℕ) × NamesNumber job.id number × (s ≡ puts_entry (number_bytes number) (entry_of job)))
    × AreEntries jobs statements
AreEntries [] (s ∷ statements) = ⊥
AreEntries (job ∷ jobs) [] = ⊥

-- ---- rows

-- each row stands for a thing, in order, and by its place, which counts from `first`
abbrev pub AreEach : {A : Type 0} → (ℕ → Row → A → Type 0) → ℕ → List Row → List A → Type 0
AreEach Is first [] [] = ⊤
AreEach Is first (row ∷ rows) (a ∷ more) = Is first row a × AreEach Is (first + 1) rows more
AreEach Is first [] (a ∷ more) = ⊥
AreEach Is first (row ∷ rows) [] = ⊥

-- one row, with this number
abbrev pub AreCount : List Row → ℤ → Type 0
AreCount [] count = ⊥
AreCount (row ∷ []) count = column row 0 ≡ Int count
AreCount (row ∷ other ∷ rows) count = ⊥

-- one row, with the version and the next number
abbrev pub AreHead : List Row → ℤ → ℕ → Type 0
AreHead [] version next = ⊥
AreHead (row ∷ []) version next = (column row 0 ≡ Int version) × (column row 1 ≡ Blob (number_bytes next))
AreHead (row ∷ other ∷ rows) version next = ⊥

-- the row has a number, and the entry of the job of this number
pub record IsJobRow (row : Row) (number : ℕ) (job : PlainJob) : Type 0 where
  pub in_range : number < 2 ^ 64
  pub numbered : column row 0 ≡ Blob (number_bytes number)
  pub entry : List ℕ
  pub has_entry : column row 1 ≡ Blob entry
  pub reads : ReadsJob (job_id number) entry job

-- the row has the asset, which stands at this place among those of its job
pub record IsAssetRow (place : ℕ) (row : Row) (asset : Asset) : Type 0 where
  pub placed : column row 0 ≡ Int (pos place)
  pub named : column row 1 ≡ Text asset.name
  pub body : column row 2 ≡ Blob asset.text

-- the row has the user, the id and the text of the stored process
pub record IsProcessRow (place : ℕ) (row : Row) (owned : PlainOwned) : Type 0 where
  pub user : column row 0 ≡ Text owned.user
  pub id : List ℕ
  pub text : List ℕ
  pub named : column row 1 ≡ Text id
  pub body : column row 2 ≡ Blob text
  pub reads : ReadsStored id text owned.process

module _ {S : Type 0} (g : Ghosts S) where
  -- ---- queries

  -- a query without parameters shows one row with this number
  abbrev pub Counts : List ℕ → ℤ → Held S → Held S → Type 0
  Counts query count old new =
      (rows : List Row) × Shown query [] (state g old) (state g new) rows × AreCount rows count

  pub record HasHead (version : ℤ) (next : ℕ) (old new : Held S) : Type 0 where
    pub rows : List Row
    pub shown : Shown head_query [] (state g old) (state g new) rows
    pub head : AreHead rows version next

  -- the row has the entry of the job, and the rows that the query for its assets shows are these
  pub record HasJob (row : Row) (job : PlainJob) (old new : Held S) : Type 0 where
    pub number : ℕ
    pub bare : IsJobRow row number (without_assets job)
    pub rows : List Row
    pub shown : Shown assets_query (Blob (number_bytes number) ∷ []) (state g old) (state g new) rows
    pub assets : AreEach IsAssetRow 0 rows job.assets

  -- so it is of each row in turn
  abbrev pub HasEachJob : List Row → List PlainJob → Held S → Held S → Type 0
  HasEachJob [] [] old new = new ≡ old
  HasEachJob (row ∷ rows) (job ∷ jobs) old new =
      (mid : Held S) × HasJob row job old mid × HasEachJob rows jobs mid new
  HasEachJob [] (job ∷ jobs) old new = ⊥
  HasEachJob (row ∷ rows) [] old new = ⊥

  pub record HasJobs (jobs : List PlainJob) (old new : Held S) : Type 0 where
    pub rows : List Row
    pub mid : Held S
    pub shown : Shown jobs_query [] (state g old) (state g mid) rows
    pub each : HasEachJob rows jobs mid new

  pub record HasProcesses (processes : List PlainOwned) (old new : Held S) : Type 0 where
    pub rows : List Row
    pub shown : Shown processes_query [] (state g old) (state g new) rows
    pub each : AreEach IsProcessRow 0 rows processes

  -- ---- the whole

  -- what the tables of the database have, where it has tables
  pub record HasBook (version : ℤ) (book : PlainBook) (old new : Held S) : Type 0 where
    pub headed : Held S
    pub listed : Held S
    pub counted : Held S
    pub head : HasHead version book.next old headed
    pub jobs : HasJobs book.jobs headed listed
    pub orphans : Counts orphans_query (pos 0) listed counted
    pub processes : HasProcesses book.processes counted new

  -- the tables are made where there is no table
  abbrev pub MakesTables : ℤ → Held S → Held S → Type 0
  MakesTables count old new =
      ((count ≡ pos 0) × ExecutesAllInside g 0 tables_text old new (Ok tt)) ⊎ ((count ≢ pos 0) × (new ≡ old))

  pub record HasTables (old new : Held S) : Type 0 where
    pub count : ℤ
    pub mid : Held S
    pub counted : Counts schema_query count old mid
    pub made : MakesTables count mid new

  -- The tables are of version 2; or of version 1, and then each entry is written anew, and the version.
  abbrev pub IsRenewed : ℤ → List PlainJob → Held S → Held S → Type 0
  IsRenewed version jobs old new =
      ((version ≡ pos 2) × (new ≡ old))
      ⊎ ((version ≡ pos 1) × (entries : List PlainStatement) × AreEntries jobs entries
      × RanEach g (entries ++ sets_version ∷ []) old new)

  -- The database gets its tables where it has none, and is renewed where it is of version 1; and this is the book that
  -- its tables have.
  pub record Loads (book : PlainBook) (old new : Held S) : Type 0 where
    pub version : ℤ
    pub ready : Held S
    pub read : Held S
    pub tables : HasTables old ready
    pub has_book : HasBook version book ready read
    pub renewed : IsRenewed version book.jobs read new
