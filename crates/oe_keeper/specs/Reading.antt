-- Which job a JSON value is the entry of. Members stand in any order, and others than these are ignored.
use Rattle.std.specs.Prelude.{◌≡◌, ℕ, ◌<◌, ◌^◌, ℤ, List, [], ◌∷◌, ⊤, Option, Some, None, IfSome, codes, decimal, option_and_then}
use Rattle.std.specs.List.{AllByRecursion}
use Rattle.serde_json.specs.Data.{Data, null, string, array, Items, no_items, item}
use Rattle.serde_json.specs.Find.{as_i64, as_number, get}
use Rattle.oe_dims.specs.Instant.{IsInstant}
use Rattle.oe_graph.specs.Form.{IsReading}
use Rattle.oe_graph.specs.Read.{ReadsStored}
use Rattle.oe_graph.specs.Tree.{PlainStored}
use Rattle.oe_jobs.specs.Plain.{PlainJob, PlainRan}
use Rattle.oe_jobs.specs.Texts.{level_text, status_text}
use Rattle.oe_jobs.specs.declared.job.LogEntry.{LogEntry}
use Rattle.oe_jobs.specs.declared.level.Level.{Level}
use Rattle.oe_jobs.specs.declared.level.Level.TheVariants as levels
use Rattle.oe_jobs.specs.declared.status.Status.{Status}
use Rattle.oe_keeper.specs.Entry.{text_data}

-- the items of a list are these things, one each and in order
abbrev pub Each : {A : Type 0} → (Data → A → Type 0) → Items → List A → Type 0
Each Is no_items [] = ⊤
Each Is (item d ds) (a ∷ more) = Is d a × Each Is ds more
Each Is no_items (a ∷ more) = ⊥
Each Is (item d ds) [] = ⊥

-- ---- members

-- the member of this name is a list of these things
pub record HasList {A : Type 0} (Is : Data → A → Type 0) (name : List ℕ) (d : Data) (list : List A) : Type 0 where
  pub entries : Items
  pub is_list : get name d ≡ Some (array entries)
  pub each : Each Is entries list

-- the member of this name, where it is a whole number
abbrev pub whole_in : List ℕ → Data → Option ℤ
whole_in name d = option_and_then as_i64 (option_and_then as_number (get name d))

-- the member of this name is a whole number of seconds, an instant of the years 1 to 9999
pub record HasInstant (name : List ℕ) (d : Data) (seconds : ℤ) : Type 0 where
  pub value : whole_in name d ≡ Some seconds
  pub in_range : IsInstant seconds

-- the member `turn` is a number of 64 bits, as a text in decimal without leading zeros
pub record HasTurn (d : Data) (turn : ℕ) : Type 0 where
  pub value : get (codes "turn") d ≡ Some (string (decimal turn))
  pub in_range : turn < 2 ^ 64

-- the level that a member is: info where there is none, as in entries from before jobs had levels
abbrev pub IsLevel : Option Data → Level → Type 0
IsLevel None level = level ≡ levels.Info
IsLevel (Some d) level = d ≡ string (level_text level)

-- ---- parts of a job

pub record IsLog (d : Data) (log : LogEntry) : Type 0 where
  pub code : get (codes "code") d ≡ Some (text_data log.code)
  pub level : get (codes "level") d ≡ Some (string (level_text log.level))
  pub message : get (codes "message") d ≡ Some (string log.message)

-- the stored process that the text is under the id
pub record IsStoredEntry (d : Data) (process : PlainStored) : Type 0 where
  pub id : get (codes "id") d ≡ Some (string process.id)
  pub text : get (codes "text") d ≡ Some (string process.text)
  pub reads : ReadsStored process.id process.text process

pub record IsRanEntry (d : Data) (ran : PlainRan) : Type 0 where
  pub process : get (codes "process") d ≡ Some (string ran.process)
  pub stored : HasList IsStoredEntry (codes "stored") d ran.stored

-- null, or what a job runs
abbrev pub IsRanOrNull : Data → Option PlainRan → Type 0
IsRanOrNull d None = d ≡ null
IsRanOrNull d (Some ran) = IsRanEntry d ran

pub record HasRan (d : Data) (ran : Option PlainRan) : Type 0 where
  pub value : Data
  pub is_member : get (codes "ran") d ≡ Some value
  pub is_ran : IsRanOrNull value ran

-- the texts that users send
pub record HasTexts (d : Data) (user : List ℕ) (title description : Option (List ℕ)) (process : List ℕ) : Type 0 where
  pub has_user : get (codes "user") d ≡ Some (string user)
  pub has_title : get (codes "title") d ≡ Some (text_data title)
  pub has_description : get (codes "description") d ≡ Some (text_data description)
  pub has_process : get (codes "process") d ≡ Some (string process)

-- the value has none such
abbrev pub HasNoTexts : Data → Type 0
HasNoTexts d =
    (user : List ℕ) (title description : Option (List ℕ)) (process : List ℕ)
    → ¬ HasTexts d user title description process

-- where the job stands
pub record HasState (d : Data) (status : Status) (level : Level) (created updated : ℤ) (turn : ℕ) : Type 0 where
  pub has_status : get (codes "status") d ≡ Some (string (status_text status))
  pub has_level : IsLevel (get (codes "level") d) level
  pub has_created : HasInstant (codes "created") d created
  pub has_updated : HasInstant (codes "updated") d updated
  pub has_turn : HasTurn d turn

-- the value says none
abbrev pub HasNoState : Data → Type 0
HasNoState d =
    (status : Status) (level : Level) (created updated : ℤ) (turn : ℕ) → ¬ HasState d status level created updated turn

-- ---- the entry

-- the value is the entry of this job, whose assets are kept beside it
pub record IsEntry (id : List ℕ) (d : Data) (job : PlainJob) : Type 0 where
  pub named : job.id ≡ id
  pub texts : HasTexts d job.user job.title job.description job.process
  pub state : HasState d job.status job.level job.created job.updated job.turn
  pub ran : HasRan d job.ran
  pub logs : HasList IsLog (codes "logs") d job.logs
  pub bare : job.assets ≡ []

-- the bytes are the JSON text of the entry of this job
pub record ReadsJob (id bytes : List ℕ) (job : PlainJob) : Type 0 where
  pub value : Data
  pub is_read : IsReading bytes value
  pub entry : IsEntry id value job

-- ---- which jobs are read again

-- its moments are instants, and each stored process is what its text is under its id
pub record IsRestorable (job : PlainJob) : Type 0 where
  pub created : IsInstant job.created
  pub updated : IsInstant job.updated
  pub stored : IfSome job.ran
      (λ (ran : PlainRan). AllByRecursion (λ (p : PlainStored). ReadsStored p.id p.text p) ran.stored)

abbrev pub without_assets : PlainJob → PlainJob
without_assets job = record job { assets = [] }
