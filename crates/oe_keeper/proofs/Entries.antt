-- The entry that is written of a job is the entry of this job, without its assets.
use Rattle.std.proofs.Common.{◌≡◌, ◌<◌, ◌≤◌, ◌^◌, ℕ, ℤ, pos, negsuc, List, [], ◌∷◌, map, false, Option, Some, None, refl, arith}
use Rattle.std.specs.List.{AllByRecursion}
use Rattle.std.specs.Option.{IfSome}
use Rattle.std.proofs.lemmas.Bool.{lt-ltb}
use Rattle.std.proofs.lemmas.Int.{ints}
use Rattle.serde_json.specs.Data.{depth, items_depth}
use Rattle.serde_json.specs.Find.{as_i64, of_integer}
use Rattle.serde_json.specs.Read.{max_depth}
use Rattle.serde_json.specs.View.{items_of}
use Rattle.serde_json.specs.Written.{has_float, items_have_float}
use Rattle.oe_dims.specs.Instant.{IsInstant}
use Rattle.oe_graph.specs.Read.{ReadsStored}
use Rattle.oe_graph.specs.Tree.{PlainStored}
use Rattle.oe_jobs.specs.Plain.{PlainJob, PlainRan}
use Rattle.oe_jobs.specs.declared.job.LogEntry.{LogEntry}
use Rattle.oe_jobs.proofs.Floats.{integer_whole}
use Rattle.oe_keeper.specs.Entry.{job_data, log_data, ran_data, stored_data, text_data}
use Rattle.oe_keeper.specs.Reading.{Each, IsEntry, IsLog, IsRanOrNull, IsRestorable, IsStoredEntry, without_assets}

-- ---- no number in it is a float

text_whole : (text : Option (List ℕ)) → has_float (text_data text) ≡ false
text_whole None = refl
text_whole (Some text) = refl

logs_whole : (logs : List LogEntry) → items_have_float (items_of (map log_data logs)) ≡ false
logs_whole [] = refl
logs_whole (log ∷ logs) = rw (text_whole log.code) (logs_whole logs)

stored_whole : (stored : List PlainStored) → items_have_float (items_of (map stored_data stored)) ≡ false
stored_whole [] = refl
stored_whole (process ∷ stored) = stored_whole stored

ran_whole : (ran : Option PlainRan) → has_float (ran_data ran) ≡ false
ran_whole None = refl
ran_whole (Some ran) = rw (stored_whole ran.stored) refl

pub job_whole : (job : PlainJob) → has_float (job_data job) ≡ false
job_whole job =
    rw (integer_whole job.created, text_whole job.description, logs_whole job.logs, ran_whole job.ran, text_whole job.title, integer_whole job.updated) refl

-- ---- it does not nest deep

text_flat : (text : Option (List ℕ)) → depth (text_data text) ≡ 0
text_flat None = refl
text_flat (Some text) = refl

logs_flat : (logs : List LogEntry) → items_depth (items_of (map log_data logs)) ≤ 1
logs_flat [] = omega arith
logs_flat (log ∷ logs) = let flat = text_flat log.code in let more = logs_flat logs in omega (arith, flat, more)

stored_flat : (stored : List PlainStored) → items_depth (items_of (map stored_data stored)) ≤ 1
stored_flat [] = omega arith
stored_flat (process ∷ stored) = let more = stored_flat stored in omega (arith, more)

ran_flat : (ran : Option PlainRan) → depth (ran_data ran) ≤ 3
ran_flat None = omega arith
ran_flat (Some ran) = let more = stored_flat ran.stored in omega (arith, more)

pub job_flat : (job : PlainJob) → depth (job_data job) ≤ max_depth
job_flat job =
    let description = text_flat job.description in
    let logs = logs_flat job.logs in
    let ran = ran_flat job.ran in
    let title = text_flat job.title in
    omega (arith, description, logs, ran, title)

-- ---- it is the entry of the job

whole_back : (z : ℤ) → IsInstant z → as_i64 (of_integer z) ≡ Some z
whole_back (pos n) is = let below : n < 2 ^ 63 = omega (arith, ints, is.last) in rw (lt-ltb n (2 ^ 63) below) refl
whole_back (negsuc n) is = refl

logs_back : (logs : List LogEntry) → Each IsLog (items_of (map log_data logs)) logs
logs_back [] = tt
logs_back (log ∷ logs) = (record { code = refl; level = refl; message = refl }, logs_back logs)

stored_back : (stored : List PlainStored) → AllByRecursion (λ (p : PlainStored). ReadsStored p.id p.text p) stored
    → Each IsStoredEntry (items_of (map stored_data stored)) stored
stored_back [] reads = tt
stored_back (process ∷ stored) reads = (record { id = refl; text = refl; reads = reads.0 }, stored_back stored reads.1)

ran_back : (ran : Option PlainRan)
    → IfSome ran (λ (r : PlainRan). AllByRecursion (λ (p : PlainStored). ReadsStored p.id p.text p) r.stored)
    → IsRanOrNull (ran_data ran) ran
ran_back None reads = refl
ran_back (Some ran) reads = record {
  process = refl;
  stored = record {
    entries = items_of (map stored_data ran.stored);
    is_list = refl;
    each = stored_back ran.stored reads;
  };
}

pub entry_back : (job : PlainJob) → IsRestorable job → job.turn < 2 ^ 64 → IsEntry job.id (job_data job) (without_assets job)
entry_back job is fits = record {
  named = refl;
  texts = record { has_user = refl; has_title = refl; has_description = refl; has_process = refl };
  state = record {
    has_status = refl;
    has_level = refl;
    has_created = record { value = whole_back job.created is.created; in_range = is.created };
    has_updated = record { value = whole_back job.updated is.updated; in_range = is.updated };
    has_turn = record { value = refl; in_range = fits };
  };
  ran = record { value = ran_data job.ran; is_member = refl; is_ran = ran_back job.ran is.stored };
  logs = record { entries = items_of (map log_data job.logs); is_list = refl; each = logs_back job.logs };
  bare = refl;
}
