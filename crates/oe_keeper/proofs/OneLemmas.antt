-- One text is the entry of one job.
use Rattle.std.proofs.Common.{◌≡◌, ℕ, ℤ, ◌==◌, List, [], ◌∷◌, slice_index, if◌then◌else◌, Option, Some, None, refl, sym, ap, ◌∙◌, subst, decimal, codes}
use Rattle.std.proofs.lemmas.Fmt.{decimal_injective}
use Rattle.serde_json.specs.Data.{Data, null, string, array, Items, no_items, item}
use Rattle.serde_json.specs.Find.{get}
use Rattle.oe_graph.specs.Read.{ReadsStored}
use Rattle.oe_graph.proofs.ReadAgain.{ReadsStored-unique}
use Rattle.oe_graph.proofs.ReadLemmas.{same_value}
use Rattle.oe_graph.specs.Tree.{PlainStored}
use Rattle.oe_jobs.specs.Plain.{PlainJob, PlainRan}
use Rattle.oe_jobs.specs.Texts.{Finds, level_text, status_text}
use Rattle.oe_jobs.specs.declared.job.Asset.{Asset}
use Rattle.oe_jobs.specs.declared.job.LogEntry.{LogEntry}
use Rattle.oe_jobs.specs.declared.level.Level.{Level}
use Rattle.oe_jobs.specs.declared.level.Level.TheVariants as levels
use Rattle.oe_jobs.specs.declared.status.Status.{Status}
use Rattle.oe_jobs.specs.declared.status.Status.TheVariants.{Created, Queued, Running, Canceled, Finished, Error}
use Rattle.oe_keeper.specs.Entry.{text_data}
use Rattle.oe_keeper.specs.Reading.{Each, HasInstant, HasList, HasRan, HasTurn, IsEntry, IsLevel, IsLog, IsRanEntry, IsRanOrNull, IsStoredEntry, ReadsJob}

-- ---- words

-- a status by its first two letters, and a level by its first
status_at : List ℕ → Option Status
status_at s =
    if slice_index s 0 == 113 then Some Queued else (
    if slice_index s 0 == 114 then Some Running else (
    if slice_index s 0 == 102 then Some Finished else (
    if slice_index s 0 == 101 then Some Error else (
    if slice_index s 1 == 114 then Some Created else Some Canceled))))

status_back : (status : Status) → status_at (status_text status) ≡ Some status
unfolding status_at
status_back Created = refl
status_back Queued = refl
status_back Running = refl
status_back Canceled = refl
status_back Finished = refl
status_back Error = refl

pub status_one : (a b : Status) → status_text a ≡ status_text b → a ≡ b
status_one a b same =
    let first = status_back a in
    let other = status_back b in
    let both : status_at (status_text a) ≡ status_at (status_text b) = ap status_at same in
    cc

level_at : List ℕ → Option Level
level_at s =
    if slice_index s 0 == 101 then Some levels.Error else (
    if slice_index s 0 == 119 then Some levels.Warning else (
    if slice_index s 0 == 105 then Some levels.Info else Some levels.Debug))

level_back : (level : Level) → level_at (level_text level) ≡ Some level
unfolding level_at
level_back levels.Error = refl
level_back levels.Warning = refl
level_back levels.Info = refl
level_back levels.Debug = refl

pub level_one : (a b : Level) → level_text a ≡ level_text b → a ≡ b
level_one a b same =
    let first = level_back a in
    let other = level_back b in
    let both : level_at (level_text a) ≡ level_at (level_text b) = ap level_at same in
    cc

text_one : (a b : Option (List ℕ)) → text_data a ≡ text_data b → a ≡ b
text_one None None same = refl
text_one None (Some b) same = absurd cc
text_one (Some a) None same = absurd cc
text_one (Some a) (Some b) same = cc

-- ---- members

module _ (name : List ℕ) (d : Data) where
  string_member : (a b : List ℕ) → get name d ≡ Some (string a) → get name d ≡ Some (string b) → a ≡ b
  string_member a b first other = cc

  text_member : (a b : Option (List ℕ)) → get name d ≡ Some (text_data a) → get name d ≡ Some (text_data b) → a ≡ b
  text_member a b first other = text_one a b cc

  instant_member : (a b : ℤ) → HasInstant name d a → HasInstant name d b → a ≡ b
  instant_member a b first other = let p = first.value in let q = other.value in cc

status_member : (d : Data) (a b : Status) → get (codes "status") d ≡ Some (string (status_text a))
    → get (codes "status") d ≡ Some (string (status_text b)) → a ≡ b
status_member d a b first other = status_one a b (string_member (codes "status") d (status_text a) (status_text b) first other)

level_member : (d : Data) (a b : Level) → get (codes "level") d ≡ Some (string (level_text a))
    → get (codes "level") d ≡ Some (string (level_text b)) → a ≡ b
level_member d a b first other = level_one a b (string_member (codes "level") d (level_text a) (level_text b) first other)

level_or_info : (found : Option Data) (a b : Level) → IsLevel found a → IsLevel found b → a ≡ b
level_or_info None a b first other = cc
level_or_info (Some d) a b first other = level_one a b cc

turn_member : (d : Data) (a b : ℕ) → HasTurn d a → HasTurn d b → a ≡ b
turn_member d a b first other =
    decimal_injective a b first.in_range other.in_range
    (string_member (codes "turn") d (decimal a) (decimal b) first.value other.value)

-- ---- lists

each_one : {A : Type 0} (Is : Data → A → Type 0) → ((d : Data) (a b : A) → Is d a → Is d b → a ≡ b)
    → (ds : Items) (xs ys : List A) → Each Is ds xs → Each Is ds ys → xs ≡ ys
each_one Is one no_items [] [] first other = refl
each_one Is one no_items [] (b ∷ ys) first other = absurd other
each_one Is one no_items (a ∷ xs) ys first other = absurd first
each_one Is one (item d ds) [] ys first other = absurd first
each_one Is one (item d ds) (a ∷ xs) [] first other = absurd other
each_one Is one (item d ds) (a ∷ xs) (b ∷ ys) first other =
    let head : a ≡ b = one d a b first.0 other.0 in
    let more : xs ≡ ys = each_one Is one ds xs ys first.1 other.1 in
    cc

list_one : {A : Type 0} (Is : Data → A → Type 0) → ((d : Data) (a b : A) → Is d a → Is d b → a ≡ b)
    → (name : List ℕ) (d : Data) (xs ys : List A) → HasList Is name d xs → HasList Is name d ys → xs ≡ ys
list_one Is one name d xs ys first other =
    let both : Some (array other.entries) ≡ Some (array first.entries) = sym other.is_list ∙ first.is_list in
    let same : other.entries ≡ first.entries = cc in
    each_one Is one first.entries xs ys first.each (subst (λ (ds : Items). Each Is ds ys) same other.each)

-- ---- parts of a job

log_one : (d : Data) (a b : LogEntry) → IsLog d a → IsLog d b → a ≡ b
log_one d a b first other =
    let code : a.code ≡ b.code = text_member (codes "code") d a.code b.code first.code other.code in
    let level : a.level ≡ b.level = level_member d a.level b.level first.level other.level in
    let message : a.message ≡ b.message = string_member (codes "message") d a.message b.message first.message other.message in
    ap (λ (l : Level). record { level = l; code = a.code; message = a.message }) level
    ∙ (ap (λ (c : Option (List ℕ)). record { level = b.level; code = c; message = a.message }) code
    ∙ ap (λ (m : List ℕ). record { level = b.level; code = b.code; message = m }) message)

stored_one : (d : Data) (a b : PlainStored) → IsStoredEntry d a → IsStoredEntry d b → a ≡ b
stored_one d a b first other =
    let id : a.id ≡ b.id = string_member (codes "id") d a.id b.id first.id other.id in
    let text : a.text ≡ b.text = string_member (codes "text") d a.text b.text first.text other.text in
    ReadsStored-unique a.id a.text a b first.reads
    (subst (λ (i : List ℕ). ReadsStored i a.text b) (sym id) (subst (λ (t : List ℕ). ReadsStored b.id t b) (sym text) other.reads))

ran_entry_one : (d : Data) (a b : PlainRan) → IsRanEntry d a → IsRanEntry d b → a ≡ b
ran_entry_one d a b first other =
    let process : a.process ≡ b.process = string_member (codes "process") d a.process b.process first.process other.process in
    let stored : a.stored ≡ b.stored = list_one IsStoredEntry stored_one (codes "stored") d a.stored b.stored first.stored other.stored in
    ap (λ (p : List ℕ). record { process = p; stored = a.stored }) process
    ∙ ap (λ (s : List PlainStored). record { process = b.process; stored = s }) stored

-- null has no member
no_member : (d : Data) (text : List ℕ) → d ≡ null → get (codes "process") d ≡ Some (string text) → ⊥
no_member d text is has = let none : get (codes "process") d ≡ None = ap (get (codes "process")) is in cc

ran_value_one : (d : Data) (a b : Option PlainRan) → IsRanOrNull d a → IsRanOrNull d b → a ≡ b
ran_value_one d None None first other = refl
ran_value_one d None (Some b) first other = absurd (no_member d b.process first other.process)
ran_value_one d (Some a) None first other = absurd (no_member d a.process other first.process)
ran_value_one d (Some a) (Some b) first other = ap (λ (r : PlainRan). Some r) (ran_entry_one d a b first other)

ran_one : (d : Data) (a b : Option PlainRan) → HasRan d a → HasRan d b → a ≡ b
ran_one d a b first other =
    let both : Some other.value ≡ Some first.value = sym other.is_member ∙ first.is_member in
    let same : other.value ≡ first.value = cc in
    ran_value_one first.value a b first.is_ran (subst (λ (v : Data). IsRanOrNull v b) same other.is_ran)

-- ---- jobs

-- by its parts, without assets
same_job : (a b : PlainJob) → a.id ≡ b.id
    → a.user ≡ b.user
    → a.title ≡ b.title
    → a.description ≡ b.description
    → a.process ≡ b.process
    → a.status ≡ b.status
    → a.level ≡ b.level
    → a.created ≡ b.created
    → a.updated ≡ b.updated
    → a.turn ≡ b.turn
    → a.ran ≡ b.ran
    → a.logs ≡ b.logs
    → a.assets ≡ [] → b.assets ≡ [] → a ≡ b
same_job a b id user title description process status level created updated turn ran logs bare bare_too =
    ap (λ (x : List ℕ). record a { id = x }) id
    ∙ (ap (λ (x : List ℕ). record a { id = b.id; user = x }) user
    ∙ (ap (λ (x : Option (List ℕ)). record a { id = b.id; user = b.user; title = x }) title
    ∙ (ap (λ (x : Option (List ℕ)). record a { id = b.id; user = b.user; title = b.title; description = x }) description
    ∙ (ap (λ (x : List ℕ). record a { id = b.id; user = b.user; title = b.title; description = b.description; process = x }) process
    ∙ (ap (λ (x : Status). record a { id = b.id; user = b.user; title = b.title; description = b.description; process = b.process; status = x }) status
    ∙ (ap (λ (x : Level). record a { id = b.id; user = b.user; title = b.title; description = b.description; process = b.process; status = b.status; level = x }) level
    ∙ (ap (λ (x : ℤ). record a { id = b.id; user = b.user; title = b.title; description = b.description; process = b.process; status = b.status; level = b.level; created = x }) created
    ∙ (ap (λ (x : ℤ). record a { id = b.id; user = b.user; title = b.title; description = b.description; process = b.process; status = b.status; level = b.level; created = b.created; updated = x }) updated
    ∙ (ap (λ (x : ℕ). record a { id = b.id; user = b.user; title = b.title; description = b.description; process = b.process; status = b.status; level = b.level; created = b.created; updated = b.updated; turn = x }) turn
    ∙ (ap (λ (x : Option PlainRan). record a { id = b.id; user = b.user; title = b.title; description = b.description; process = b.process; status = b.status; level = b.level; created = b.created; updated = b.updated; turn = b.turn; ran = x }) ran
    ∙ (ap (λ (x : List LogEntry). record a { id = b.id; user = b.user; title = b.title; description = b.description; process = b.process; status = b.status; level = b.level; created = b.created; updated = b.updated; turn = b.turn; ran = b.ran; logs = x }) logs
    ∙ (ap (λ (x : List Asset). record b { assets = x }) (bare ∙ sym bare_too)))))))))))))

pub entry_one : (id : List ℕ) (d : Data) (a b : PlainJob) → IsEntry id d a → IsEntry id d b → a ≡ b
entry_one id d a b first other =
    same_job a b (first.named ∙ sym other.named)
    (string_member (codes "user") d a.user b.user first.texts.has_user other.texts.has_user)
    (text_member (codes "title") d a.title b.title first.texts.has_title other.texts.has_title)
    (text_member (codes "description") d a.description b.description first.texts.has_description other.texts.has_description)
    (string_member (codes "process") d a.process b.process first.texts.has_process other.texts.has_process)
    (status_member d a.status b.status first.state.has_status other.state.has_status)
    (level_or_info (get (codes "level") d) a.level b.level first.state.has_level other.state.has_level)
    (instant_member (codes "created") d a.created b.created first.state.has_created other.state.has_created)
    (instant_member (codes "updated") d a.updated b.updated first.state.has_updated other.state.has_updated)
    (turn_member d a.turn b.turn first.state.has_turn other.state.has_turn)
    (ran_one d a.ran b.ran first.ran other.ran)
    (list_one IsLog log_one (codes "logs") d a.logs b.logs first.logs other.logs)
    first.bare other.bare

-- two jobs that one text is the entry of
pub job_one : (id bytes : List ℕ) (a b : PlainJob) → ReadsJob id bytes a → ReadsJob id bytes b → a ≡ b
job_one id bytes a b first other =
    let same = same_value bytes other.value first.value other.is_read first.is_read in
    entry_one id first.value a b first.entry (subst (λ (v : Data). IsEntry id v b) same other.entry)

-- where a search finds the job of a text and there is one, it is that one
pub only_one : (id bytes : List ℕ) (found : Option PlainJob) (job : PlainJob) → Finds (ReadsJob id bytes) found
    → ReadsJob id bytes job → found ≡ Some job
only_one id bytes None job none is = absurd (none job is)
only_one id bytes (Some a) job is other = ap (λ (j : PlainJob). Some j) (job_one id bytes a job is other)
