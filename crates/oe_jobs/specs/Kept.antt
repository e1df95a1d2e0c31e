-- What a keeper of a job book shows: the book, and how it comes to be changed.
use Rattle.std.specs.Prelude.{ℕ, Result, Ok, Err}
use Rattle.oe_jobs.specs.Changes.{changed}
use Rattle.oe_jobs.specs.Plain.{PlainBook, PlainChange}
use Rattle.oe_jobs.specs.declared.keeper.KeeperFail.{KeeperFail}
use Rattle.oe_jobs.specs.declared.keeper.KeeperFail.TheVariants as fail
use Rattle.oe_outside.specs.Faults.{counted}

-- the book that is kept, how many commits were begun, and the book that the last of them makes
pub record Kept : Type 0 where
  pub book : PlainBook
  pub begun : ℕ
  pub made : PlainBook

-- a keeper after a commit that was begun, with this book kept
abbrev pub begun_with : PlainBook → PlainChange → Kept → Kept
begun_with book change kept = record { book = book; begun = counted kept.begun; made = changed kept.book change }

-- A commit: an Ok keeps the changed book, a failure begins the commit and keeps the old one, out of memory begins none.
abbrev pub kept_after : PlainChange → Result (Unit {0}) KeeperFail → Kept → Kept
kept_after change (Ok done) kept = begun_with (changed kept.book change) change kept
kept_after change (Err fail.Failed) kept = begun_with kept.book change kept
kept_after change (Err fail.OutOfMemory) kept = kept
