-- What a step of the running job, and a tick, leave of a service.
use Rattle.std.specs.Prelude.{◌≡◌, ℕ, ℤ, Bool, List, Option, IfSome}
use Rattle.oe_jobs.specs.Kept.{Kept}
use Rattle.oe_jobs.specs.Plain.{PlainBook, plain_book}
use Rattle.oe_service.specs.Calls.{IsKept}
use Rattle.oe_service.specs.Ticks.{Commits, Ticks}
use Rattle.oe_service.specs.Causes.{Outside, outside}
use Rattle.oe_service.specs.GoesOn.{GoesOn, HasSizesOf, IsService, StaysWithin, state_of}
use Rattle.oe_service.specs.declared.answer.Ticked.{Ticked}
use Rattle.oe_service.specs.declared.service.Service.{Service}
use Rattle.oe_sources.specs.Catalogue.{Row}

-- A service is valid, and the keeper has its book. While a run is under way, what it loads is mounted as it was when it was
-- planned, and the records that its rounds wrote stand in the spool.
pub record IsServiceOver (s : Service) (o : Outside) : Type 0 where
  pub valid : IsService s
  pub is_kept : IsKept o.kept (plain_book s.book)
  pub going : GoesOn s.run o.rows o.spool

-- The running job takes a step that makes this book, or all stays as it was. A run that is under way afterwards is the
-- one from before.
pub record Steps (made : PlainBook) (s s_after : Service) (kept kept_after : Option Kept) (faults faults_after : ℕ)
    (has_failed : Bool) (result : Ticked) : Type 0 where
  pub service : IsService s_after
  pub sizes : HasSizesOf s s_after
  pub is_kept : IsKept kept_after (plain_book s_after.book)
  pub run : IfSome s_after.run (λ _. s_after.run ≡ s.run)
  pub commits : Commits made (state_of s) (state_of s_after) kept kept_after faults faults_after has_failed result

-- a tick of a service at a moment, and what holds again after it, whatever it answers
pub record TicksService (before after : Outside) (now : ℤ) (s s_after : Service) (has_failed : Bool) (result : Ticked)
    : Type 0 where
  pub service : IsService s_after
  pub sizes : HasSizesOf s s_after
  pub is_kept : IsKept after.kept (plain_book s_after.book)
  pub going : GoesOn s_after.run after.rows after.spool
  -- it reads no more than a round of its run does, and writes records of the run alone
  pub within : StaysWithin s.run before.rows after.rows before.spool after.spool
  -- it is an event, or none, and its answer has its cause
  pub ticks : Ticks s.size s.workers before after now (state_of s) (state_of s_after) has_failed result

-- The same of collections, a spool of type P and a keeper of type K, by what is outside with them, and whether the last
-- call of the keeper failed.
abbrev pub TicksOver : {P K : Type 0} → (List Row → P → K → Outside) → (K → Bool) → ℤ → Service → Service
    → List Row → P → K → List Row → P → K → Ticked → Type 0
TicksOver out has_failed now s s_after rows spool keeper rows_after spool_after keeper_after result =
    TicksService (out rows spool keeper) (out rows_after spool_after keeper_after) now s s_after
    (has_failed keeper_after) result

-- of a spool and a keeper, whatever the collections are over which the run goes on
abbrev pub TicksOverSpool : {P K : Type 0} → (P → Option (List ℕ)) → (List Row → P → K → Outside) → (K → Bool) → ℤ
    → Service → Service → P → K → P → K → Ticked → Type 0
TicksOverSpool bytes out has_failed now s s_after spool keeper spool_after keeper_after result =
    (rows : List Row) → GoesOn s.run rows (bytes spool)
    → TicksOver out has_failed now s s_after rows spool keeper rows spool_after keeper_after result

-- of collections and a keeper, whatever the spool is
abbrev pub TicksOverRows : {K : Type 0} → (K → Option Kept) → (K → ℕ) → (K → Bool) → ℤ → Service → Service → List Row
    → K → K → Ticked → Type 0
TicksOverRows kept faults has_failed now s s_after rows keeper keeper_after result =
    (store : Option (List ℕ)) (store_faults : ℕ)
    → TicksService (outside rows store store_faults (kept keeper) (faults keeper))
    (outside rows store store_faults (kept keeper_after) (faults keeper_after)) now s s_after (has_failed keeper_after)
    result

-- of a keeper, whatever the collections and the spool are
abbrev pub TicksOverKeeper : {K : Type 0} → (K → Option Kept) → (K → ℕ) → (K → Bool) → ℤ → Service → Service → K → K
    → Ticked → Type 0
TicksOverKeeper kept faults has_failed now s s_after keeper keeper_after result =
    (rows : List Row) → TicksOverRows kept faults has_failed now s s_after rows keeper keeper_after result
