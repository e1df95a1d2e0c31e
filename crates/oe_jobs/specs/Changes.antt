-- The changed book of a book and a change.
use Rattle.std.specs.Prelude.{ℕ, ℤ, ◌&&◌, ◌||◌, Bool, List, [], ◌∷◌, ◌++◌, Option, if◌then◌else◌, option_to_list}
use Rattle.std.specs.List.{list_any}
use Rattle.oe_dims.specs.Names.{same_name, is_name_before}
use Rattle.oe_jobs.specs.Plain.{PlainBook, PlainJob, PlainOwned, PlainChange, put_job, add_asset, drop_job, put_process, drop_process}
use Rattle.oe_jobs.specs.declared.job.Asset.{Asset}
use Rattle.oe_jobs.specs.declared.job.LogEntry.{LogEntry}

-- ---- lists

module _ {X : Type 0} (test : X → Bool) where
  -- the first that passes is changed, if one does
  abbrev pub at_first : (X → X) → List X → List X
  at_first change [] = []
  at_first change (x ∷ xs) = if test x then change x ∷ xs else x ∷ at_first change xs

  -- the new one stands in the place of the first that passes, else at the end
  abbrev pub put_first : X → List X → List X
  put_first new [] = new ∷ []
  put_first new (x ∷ xs) = if test x then new ∷ xs else x ∷ put_first new xs

  -- the new one stands before the first that passes, else at the end
  abbrev pub put_before : X → List X → List X
  put_before new [] = new ∷ []
  put_before new (x ∷ xs) = if test x then new ∷ x ∷ xs else x ∷ put_before new xs

  -- the first that passes is gone
  abbrev pub without_first : List X → List X
  without_first [] = []
  without_first (x ∷ xs) = if test x then xs else x ∷ without_first xs

-- ---- jobs

abbrev pub is_job : List ℕ → PlainJob → Bool
is_job id job = same_name job.id id

abbrev pub with_asset : Asset → Option LogEntry → ℤ → PlainJob → PlainJob
with_asset new log now job = record job {
  updated = now;
  assets = job.assets ++ new ∷ [];
  logs = job.logs ++ option_to_list log;
}

-- ---- stored processes

abbrev pub is_owned : List ℕ → List ℕ → PlainOwned → Bool
is_owned user id owned = same_name owned.user user && same_name owned.process.id id

-- by user and then by id in byte order, the second stands behind the first
abbrev pub is_behind : PlainOwned → PlainOwned → Bool
is_behind a b =
    is_name_before a.user b.user || (same_name a.user b.user && is_name_before a.process.id b.process.id)

-- in the place of the user's one with its id, else before the first that stands behind it, else at the end
abbrev pub with_process : PlainOwned → List PlainOwned → List PlainOwned
with_process new processes =
    if list_any (is_owned new.user new.process.id) processes
    then at_first (is_owned new.user new.process.id) (λ old. new) processes
    else put_before (is_behind new) new processes

-- ---- the book

abbrev pub changed : PlainBook → PlainChange → PlainBook
changed book (put_job job next) = record book { next = next; jobs = put_first (is_job job.id) job book.jobs }
changed book (add_asset id new log now) =
    record book { jobs = at_first (is_job id) (with_asset new log now) book.jobs }
changed book (drop_job id) = record book { jobs = without_first (is_job id) book.jobs }
changed book (put_process owned) = record book { processes = with_process owned book.processes }
changed book (drop_process user id) = record book { processes = without_first (is_owned user id) book.processes }
