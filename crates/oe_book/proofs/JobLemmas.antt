-- The rules of a job, and of a book, from their parts.
use Rattle.std.proofs.Common.{◌≡◌, ◌≤◌, ◌↔◌, ℕ, Bool, true, false, true≢false, List, [], ◌∷◌, ◌++◌, length, refl, sym, ◌∙◌, subst, arith}
use Rattle.std.specs.Prelude.{IsTrue, IsSome}
use Rattle.oe_graph.specs.Faults.{IsLeast}
use Rattle.oe_graph.specs.Parameters.{StandsStored}
use Rattle.oe_graph.specs.Read.{ReadsStored}
use Rattle.oe_graph.specs.Tree.{PlainStored}
use Rattle.oe_graph.specs.declared.fault.Fault.{Fault}
use Rattle.oe_graph.proofs.ReadAgain.{ReadsStored-unique}
use Rattle.oe_jobs.specs.Plain.{PlainBook, PlainJob, PlainRan}
use Rattle.oe_jobs.specs.Valid.{EndsInError, IsBook, IsJob, IsRan, IsStored, most_process}
use Rattle.oe_jobs.specs.declared.job.LogEntry.{LogEntry}
use Rattle.oe_jobs.specs.declared.level.Level.TheVariants as levels
use Rattle.oe_book.specs.Jobs.{HasProcesses, HasState}
use Rattle.oe_book.specs.Parts.{HasFew, HasRecords, IsRead, JobsFit, ProcessesFit}

-- a test that failed
pub fails : (told : Bool) (P : Type 0) → told ≡ false → (IsTrue told ↔ P) → ¬ P
fails told P f is = λ p. true≢false (sym (is.1 p) ∙ f)

-- nothing that is false holds
pub never : {P : Type 0} → ¬ P → IsTrue false ↔ P
never none = (λ e. absurd (true≢false (sym e)), λ p. absurd (none p))

pub always : {P : Type 0} → P → IsTrue true ↔ P
always p = (λ e. p, λ q. refl)

pub turned : {P Q : Type 0} (told : Bool) → (P → Q) → (Q → P) → (IsTrue told ↔ P) → IsTrue told ↔ Q
turned told to from is = (λ t. to (is.0 t), λ q. is.1 (from q))

-- a first fact, and what a test tells
pub both_told : {P Q : Type 0} (told : Bool) → P → (IsTrue told ↔ Q) → IsTrue told ↔ (P × Q)
both_told told p is = (λ t. (p, is.0 t), λ both. is.1 both.1)

pub job_is : (next : ℕ) (job : PlainJob) → HasState next job → HasProcesses job → IsJob next job
job_is next job state processes = record {
  process = processes.0;
  title = state.0.0;
  description = state.0.1;
  created = state.0.2;
  updated = state.0.3;
  ran = processes.1;
  assets = state.2.0;
  logs = state.2.1;
  runs = λ busy. (state.1 busy).0;
  drew = λ busy. (state.1 busy).1;
}

pub state_of : (next : ℕ) (job : PlainJob) → IsJob next job → HasState next job
state_of next job is =
    ((is.title, is.description, is.created, is.updated), (λ busy. (is.runs busy, is.drew busy)), (is.assets, is.logs))

pub processes_of : (next : ℕ) (job : PlainJob) → IsJob next job → HasProcesses job
processes_of next job is = (is.process, is.ran)

pub book_is : (book : PlainBook) → JobsFit book → ProcessesFit book → HasRecords book → IsBook book
book_is book jobs processes records = record {
  counted = jobs.0.0.0;
  bounded = jobs.0.0.1;
  numbered = jobs.0.1;
  apart = jobs.1.0;
  jobs = records.0;
  few_jobs = jobs.1.1;
  processes = records.1;
  owned_differ = processes.0;
  few_processes = processes.1;
}

pub jobs_fit : (book : PlainBook) → IsBook book → JobsFit book
jobs_fit book is = (((is.counted, is.bounded), is.numbered), (is.apart, is.few_jobs))

pub processes_fit : (book : PlainBook) → IsBook book → ProcessesFit book
processes_fit book is = (is.owned_differ, is.few_processes)

pub records_of : (book : PlainBook) → IsBook book → HasRecords book
records_of book is = (is.jobs, is.processes)

-- ---- logs

-- no entry is the last of none
pub none_last : (logs : List LogEntry) → length logs ≡ 0 → ¬ EndsInError logs
none_last [] none is = let e : [] ≡ is.before ++ is.last ∷ [] = is.is_last in not_empty is.before is.last e
  where
    not_empty : (before : List LogEntry) (last : LogEntry) → [] ≡ before ++ last ∷ [] → ⊥
    not_empty [] last e = cc
    not_empty (b ∷ before) last e = cc
none_last (log ∷ logs) none is = absurd (omega (arith, none))

last_same : (xs ys : List LogEntry) (a b : LogEntry) → xs ++ a ∷ [] ≡ ys ++ b ∷ [] → a ≡ b
last_same [] [] a b e = cc
last_same (x ∷ xs) (y ∷ ys) a b e = let rest : xs ++ a ∷ [] ≡ ys ++ b ∷ [] = cc in last_same xs ys a b rest
last_same [] (y ∷ []) a b e = cc
last_same [] (y ∷ z ∷ ys) a b e = cc
last_same (x ∷ []) [] a b e = cc
last_same (x ∷ z ∷ xs) [] a b e = cc

-- the logs end in an error just where their last entry is one with a code
pub last_told : (logs before : List LogEntry) (last : LogEntry) (told : Bool) → logs ≡ before ++ last ∷ []
    → (IsTrue told ↔ (last.level ≡ levels.Error) × IsSome last.code) → IsTrue told ↔ EndsInError logs
last_told logs before last told is same = (
  λ t. let h = same.0 t in record { before = before; last = last; is_last = is; at_error = h.0; coded = h.1 },
  λ ends.
      let one : ends.last ≡ last = last_same ends.before before ends.last last (sym ends.is_last ∙ is) in
      same.1 (subst (λ (l : LogEntry). (l.level ≡ levels.Error) × IsSome l.code) one (ends.at_error, ends.coded)),
)

-- ---- what a job runs

pub ran_is : (ran : PlainRan) → HasFew ran.stored → IsRead ran → IsRan ran
ran_is ran few read = record { process = read.0; stored = read.1; ids_differ = few.1; few = few.0 }

pub few_of : (ran : PlainRan) → IsRan ran → HasFew ran.stored
few_of ran is = (is.few, is.ids_differ)

pub read_of : (ran : PlainRan) → IsRan ran → IsRead ran
read_of ran is = (is.process, is.stored)

pub stored_is : (process : PlainStored) → length process.text ≤ most_process → ReadsStored process.id process.text process
    → IsStored process
stored_is process short reads = record { reads = reads; short = short }

-- what was read again of a text is the process that it was just where the process is what the text is
pub read_back : (named bytes id text : List ℕ) (read process : PlainStored) (told : Bool) → named ≡ id → bytes ≡ text
    → ReadsStored named bytes read → (IsTrue told ↔ read ≡ process) → IsTrue told ↔ ReadsStored id text process
read_back named bytes id text read process told same_id same_text reads is =
    let here : ReadsStored id text read =
    subst (λ (i : List ℕ). ReadsStored i text read) same_id (subst (λ (t : List ℕ). ReadsStored named t read) same_text reads) in (
      λ t. subst (ReadsStored id text) (is.0 t) here,
      λ other. is.1 (ReadsStored-unique id text read process here other),
    )

-- a text with a fault is no process
pub not_read : (bytes id text : List ℕ) (fault : Fault) (process : PlainStored) → bytes ≡ text → IsLeast (StandsStored bytes) fault
    → IsTrue false ↔ ReadsStored id text process
not_read bytes id text fault process same least =
    never (λ r. r.valid fault.code fault.node (subst (λ (t : List ℕ). StandsStored t fault.code fault.node) same least.stands))
