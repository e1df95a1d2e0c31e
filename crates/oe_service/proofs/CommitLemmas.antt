-- A commit, and what is kept after it.
use Rattle.std.proofs.Common.{◌≡◌, ℕ, Bool, true, Option, Some, None, Result, Ok, Err, refl, sym, ap, ◌∙◌, subst, inl, inr}
use Rattle.std.specs.Prelude.{IfSome, IsErrOf, if◌then◌else◌}
use Rattle.std.specs.Option.{option_map}
use Rattle.oe_jobs.specs.Changes.{changed}
use Rattle.oe_jobs.specs.Kept.{Kept, kept_after}
use Rattle.oe_jobs.specs.Plain.{PlainBook, PlainChange}
use Rattle.oe_jobs.specs.Valid.{IsBook}
use Rattle.oe_jobs.specs.declared.keeper.KeeperFail.{KeeperFail}
use Rattle.oe_jobs.specs.declared.keeper.KeeperFail.TheVariants as fail
use Rattle.oe_outside.proofs.Causes.{NeverFalls-refl}
use Rattle.oe_outside.specs.Faults.{HasCauseOf}
use Rattle.oe_service.specs.Calls.{CommitsOne, Failed, FailsOne, Installs, IsKept, is_done}

-- nothing was begun
pub begins_none : (kept : Option Kept) (made : PlainBook) → CommitsOne kept made kept
begins_none None made = refl
begins_none (Some k) made = inl refl

module _ (change : PlainChange) (book : PlainBook) where
  -- what a commit asks for
  pub commit_valid : (kept : Option Kept) → IsKept kept book → IsBook (changed book change)
      → IfSome kept (λ (k : Kept). IsBook (changed k.book change))
  commit_valid None is valid = tt
  commit_valid (Some k) is valid = rw is valid

  pub commits_one : (kept : Option Kept) (result : Result (Unit {0}) KeeperFail) → IsKept kept book
      → CommitsOne kept (changed book change) (option_map (kept_after change result) kept)
  commits_one None result is = refl
  commits_one (Some k) (Ok done) is =
      let same = ap (λ (b : PlainBook). changed b change) is in
      inr (record { begun = refl; makes = same; book = inr same })
  commits_one (Some k) (Err fail.Failed) is =
      inr (record { begun = refl; makes = ap (λ (b : PlainBook). changed b change) is; book = inl refl })
  commits_one (Some k) (Err fail.OutOfMemory) is = inl refl

  pub fails_one : (kept : Option Kept) → IsKept kept book
      → FailsOne kept (changed book change) (option_map (kept_after change (Err fail.Failed)) kept)
  fails_one None is = refl
  fails_one (Some k) is = (refl, ap (λ (b : PlainBook). changed b change) is, refl)

  pub is_kept : (kept : Option Kept) (result : Result (Unit {0}) KeeperFail) → IsKept kept book
      → IsKept (option_map (kept_after change result) kept) (if is_done result then changed book change else book)
  is_kept None result is = tt
  is_kept (Some k) (Ok done) is = ap (λ (b : PlainBook). changed b change) is
  is_kept (Some k) (Err fail.Failed) is = is
  is_kept (Some k) (Err fail.OutOfMemory) is = is

pub unbegun : (change : PlainChange) (kept : Option Kept)
    → option_map (kept_after change (Err fail.OutOfMemory)) kept ≡ kept
unbegun change None = refl
unbegun change (Some k) = refl

-- ---- installing

module _ (book made : PlainBook) (kept : Option Kept) (faults : ℕ) (has_failed : Bool) where
  -- nothing was committed, for want of memory
  pub installs_none : (book_after : PlainBook) → IsKept kept book → book_after ≡ book
      → Installs book made book_after kept kept faults faults has_failed (Err fail.OutOfMemory)
  installs_none book_after is same = record {
    book_is = same;
    is_kept = subst (IsKept kept) (sym same) is;
    commits = begins_none kept made;
    unbegun = λ e. refl;
    failed = λ e. absurd cc;
    count = NeverFalls-refl faults;
  }

  -- nothing was to change
  pub installs_still : (book_after : PlainBook) → IsKept kept book → book_after ≡ book → made ≡ book
      → Installs book made book_after kept kept faults faults has_failed (Ok tt)
  installs_still book_after is same still = record {
    book_is = same ∙ sym still;
    is_kept = subst (IsKept kept) (sym same) is;
    commits = begins_none kept made;
    unbegun = λ e. refl;
    failed = λ e. absurd cc;
    count = NeverFalls-refl faults;
  }

module _ (change : PlainChange) (book : PlainBook) (kept kept_new : Option Kept) (faults faults_after : ℕ) (has_failed : Bool)
    (r : Result (Unit {0}) KeeperFail) (is : IsKept kept book) (new_is : kept_new ≡ option_map (kept_after change r) kept)
    (cause : HasCauseOf fail.Failed faults faults_after r) (last : IsErrOf r fail.Failed → has_failed ≡ true) where
  failed_by : r ≡ Err fail.Failed → Failed (changed book change) kept kept_new faults faults_after has_failed
  failed_by e = record {
    rose = cause.failed e;
    last = last e;
    begun = rw (new_is ∙ ap (λ x. option_map (kept_after change x) kept) e) (fails_one change book kept is);
  }

  -- it was committed, or not
  pub installs_by : (book_after : PlainBook) → book_after ≡ (if is_done r then changed book change else book)
      → Installs book (changed book change) book_after kept kept_new faults faults_after has_failed r
  installs_by book_after after_is = record {
    book_is = after_is;
    is_kept = rw (new_is, after_is) (is_kept change book kept r is);
    commits = rw new_is (commits_one change book kept r is);
    unbegun = λ e. new_is ∙ ap (λ x. option_map (kept_after change x) kept) e ∙ unbegun change kept;
    failed = failed_by;
    count = cause.count;
  }

-- a book after a commit or none is valid where both are
pub valid_by : (book made book_after : PlainBook) (r : Result (Unit {0}) KeeperFail)
    → book_after ≡ (if is_done r then made else book) → IsBook book → IsBook made → IsBook book_after
valid_by book made book_after (Ok done) is old new = subst IsBook (sym is) new
valid_by book made book_after (Err refusal) is old new = subst IsBook (sym is) old
