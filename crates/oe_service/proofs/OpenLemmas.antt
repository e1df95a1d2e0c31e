-- What is kept over an opening: a load, and then what reopens the book.
use Rattle.std.proofs.Common.{◌≡◌, ℕ, Bool, Option, Some, None, Result, Ok, Err, refl, sym, ap, ◌∙◌, subst, inl}
use Rattle.std.specs.Prelude.{IfSome, IsErrOf, OnOk, if◌then◌else◌}
use Rattle.std.specs.Option.{option_map_or}
use Rattle.oe_jobs.specs.Changes.{changed}
use Rattle.oe_jobs.specs.Events.{reopen, running_job}
use Rattle.oe_jobs.specs.Kept.{Kept}
use Rattle.oe_jobs.specs.Plain.{PlainBook, PlainChange}
use Rattle.oe_jobs.specs.Valid.{IsBook}
use Rattle.oe_jobs.specs.declared.keeper.KeeperFail.{KeeperFail}
use Rattle.oe_jobs.specs.declared.keeper.KeeperFail.TheVariants as fail
use Rattle.oe_outside.proofs.Causes.{NeverFalls-trans, then-Rose}
use Rattle.oe_outside.specs.Faults.{HasCauseOf, NeverFalls}
use Rattle.oe_service.specs.Calls.{CommitsOne, Installs, IsKept, is_done, of_keeper}
use Rattle.oe_service.specs.States.{at_book, reopened}
use Rattle.oe_service.specs.declared.open.OpenBookFail.{OpenBookFail}
use Rattle.oe_service.specs.declared.open.OpenBookFail.TheVariants as opening
use Rattle.oe_service.proofs.BookLemmas.{reopened_free}

-- ---- a load

pub same_commits : (kept loaded : Option Kept) → loaded ≡ kept
    → IfSome kept (λ (k : Kept). CommitsOne kept (reopened k.book) loaded)
same_commits None loaded is = tt
same_commits (Some k) loaded is = rw is (inl refl)

pub same_kept : (kept loaded : Option Kept) → loaded ≡ kept → IfSome kept (λ (k : Kept). IsKept loaded k.book)
same_kept None loaded is = tt
same_kept (Some k) loaded is = rw is refl

-- a book that was loaded is kept
pub loaded_kept : (kept loaded : Option Kept) (book : PlainBook) → loaded ≡ kept
    → IfSome kept (λ (k : Kept). book ≡ k.book) → IsKept loaded book
loaded_kept None loaded book is told = rw is tt
loaded_kept (Some k) loaded book is told = rw is (sym told)

-- an error of the keeper as one of the opening
pub keeper_failed : {T U : Type 0} (e : KeeperFail) (t : Result T KeeperFail) (u : Result U OpenBookFail) → t ≡ Err e
    → u ≡ Err (of_keeper e) → IsErrOf u opening.KeeperFailed → IsErrOf t fail.Failed
keeper_failed fail.Failed t u t_is u_is failed = t_is
keeper_failed fail.OutOfMemory t u t_is u_is failed =
    absurd cc

-- ---- a load, and then the reopening

module _ (kept loaded kept_after : Option Kept) (is : loaded ≡ kept) (book book_after : PlainBook)
    (told : IfSome kept (λ (k : Kept). book ≡ k.book)) (faults faults_after : ℕ) (has_failed : Bool)
    (r : Result (Unit {0}) KeeperFail)
    (i : Installs book (reopened book) book_after loaded kept_after faults faults_after has_failed r) where
  pub commits_by : IfSome kept (λ (k : Kept). CommitsOne kept (reopened k.book) kept_after)
  commits_by = by kept told (subst (λ o. CommitsOne o (reopened book) kept_after) is i.commits)
    where
      by : (o : Option Kept) → IfSome o (λ (k : Kept). book ≡ k.book) → CommitsOne o (reopened book) kept_after
          → IfSome o (λ (k : Kept). CommitsOne o (reopened k.book) kept_after)
      by None told c = tt
      by (Some k) told c = subst (λ b. CommitsOne (Some k) (reopened b) kept_after) told c

  pub hidden_by : kept ≡ None → kept_after ≡ None
  hidden_by none = subst (λ o. CommitsOne o (reopened book) kept_after) (is ∙ none) i.commits

  pub opened_by : r ≡ Ok tt → IfSome kept (λ (k : Kept). at_book book_after ≡ at_book (reopened k.book))
  opened_by ok = by kept told
    where
      made : book_after ≡ reopened book
      made = rw ok at i.book_is

      by : (o : Option Kept) → IfSome o (λ (k : Kept). book ≡ k.book)
          → IfSome o (λ (k : Kept). at_book book_after ≡ at_book (reopened k.book))
      by None told = tt
      by (Some k) told = ap at_book (made ∙ ap reopened told)

  pub same_by : (e : KeeperFail) → r ≡ Err e → IfSome kept (λ (k : Kept). IsKept kept_after k.book)
  same_by e err = by kept told
    where
      left : book_after ≡ book
      left = rw err at i.book_is

      by : (o : Option Kept) → IfSome o (λ (k : Kept). book ≡ k.book) → IfSome o (λ (k : Kept). IsKept kept_after k.book)
      by None told = tt
      by (Some k) told = subst (IsKept kept_after) (left ∙ told) i.is_kept

  pub cause_by : (first : ℕ) → NeverFalls first faults → {U : Type 0} (u : Result U OpenBookFail)
      → (IsErrOf u opening.KeeperFailed → IsErrOf r fail.Failed) → HasCauseOf opening.KeeperFailed first faults_after u
  cause_by first count u handed = record {
    count = NeverFalls-trans count i.count;
    failed = λ e. then-Rose count (i.failed (handed e)).rose;
  }

-- ---- a reopening

-- no job runs after it
pub free_after : (book book_after : PlainBook) (change : PlainChange) (r : Result (Unit {0}) KeeperFail) → IsBook book
    → Some change ≡ reopen book → book_after ≡ (if is_done r then changed book change else book)
    → OnOk r (running_job book_after ≡ None)
free_after book book_after change (Ok done) valid is after_is =
    ap running_job (after_is ∙ ap (λ o. option_map_or (changed book) o book) is) ∙ reopened_free book valid
free_after book book_after change (Err refusal) valid is after_is = tt
