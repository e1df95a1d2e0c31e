-- A keeper in memory over its calls: what it holds stays in order, and its fault counter rises where a call fails.
use Rattle.std.proofs.Common.{◌≡◌, ◌≤◌, ℕ, Bool, true, false, Option, Some, None, Result, Err, arith, refl, sym, ap, subst, ◌∙◌, ◌==◌}
use Rattle.std.specs.Prelude.{if◌then◌else◌}
use Rattle.std.specs.Option.{IfSome, option_map}
use Rattle.std.proofs.lemmas.Bool.{leb-true, le-leb, eqb-true, and_parts}
use Rattle.oe_jobs.specs.Plain.{PlainBook, plain_book}
use Rattle.oe_jobs.specs.Valid.{IsBook}
use Rattle.oe_jobs.specs.declared.book.Book.{Book}
use Rattle.oe_jobs.specs.declared.keeper.KeeperFail.{KeeperFail}
use Rattle.oe_jobs.specs.declared.keeper.KeeperFail.TheVariants as fail
use Rattle.oe_outside.specs.Faults.{counted, count_after, last_count, HasCauseOf}
use Rattle.oe_keeper.specs.Memory.{IsMemory, is_failure}
use Rattle.oe_keeper.specs.Scripts.{Script, after_call, has_stopped, is_kept}

counted-le : (n : ℕ) → counted n ≤ last_count
counted-le n = omega arith

later : (n : ℕ) → n ≤ last_count → n ≤ counted n
later n fits = omega arith

count_after-le : (n : ℕ) (failed : Bool) → n ≤ last_count → count_after n failed ≤ last_count
count_after-le n true fits = counted-le n
count_after-le n false fits = fits

stops_on : (stop : Option (ℕ × Bool)) (calls : ℕ) → calls ≤ last_count → has_stopped stop calls ≡ true
    → has_stopped stop (counted calls) ≡ true
stops_on None calls fits h = h
stops_on (Some stop) calls fits h =
    let first : stop.0 ≤ calls = leb-true stop.0 calls h in
    le-leb stop.0 (counted calls) (omega (arith, first, later calls fits))

kept_stops : (stop : Option (ℕ × Bool)) (calls : ℕ) → is_kept stop calls ≡ true → has_stopped stop calls ≡ true
kept_stops None calls h = h
kept_stops (Some stop) calls h =
    let here : stop.0 ≡ calls = eqb-true stop.0 calls (and_parts stop.1 (stop.0 == calls) h).1 in
    le-leb stop.0 calls (omega arith)

if_some : {A : Type 0} (o : Option A) (P Q : A → Type 0) → ((a : A) → P a → Q a) → IfSome o P → IfSome o Q
if_some None P Q f h = tt
if_some (Some a) P Q f h = f a h

-- after one more call
pub IsMemory-after : (book : Book) (stopped : Option Book) (script : Script) (failed : Bool)
    → IsMemory book stopped script → IsMemory book stopped (after_call script failed)
IsMemory-after book stopped script failed is = record {
  valid = is.valid;
  left_valid = is.left_valid;
  only_stopped = if_some stopped _ _ (λ _ h. stops_on script.stop script.calls is.calls h) is.only_stopped;
  calls = counted-le script.calls;
  faults = count_after-le script.faults failed is.faults;
}

-- after the call in which it stops and whose commit is kept
pub IsMemory-kept : (book left : Book) (stopped : Option Book) (script : Script) (failed : Bool) → IsBook (plain_book left)
    → is_kept script.stop script.calls ≡ true → IsMemory book stopped script → IsMemory book (Some left) (after_call script failed)
IsMemory-kept book left stopped script failed valid keeps is = record {
  valid = is.valid;
  left_valid = valid;
  only_stopped = stops_on script.stop script.calls is.calls (kept_stops script.stop script.calls keeps);
  calls = counted-le script.calls;
  faults = count_after-le script.faults failed is.faults;
}

-- a fault was counted
pub failed-cause : {T E : Type 0} (error : E) (result : Result T E) (faults after : ℕ) → faults ≤ last_count → after ≡ counted faults
    → HasCauseOf error faults after result
failed-cause error result faults after fits is = record {
  count = record { later = omega (arith, is); bounded = λ small. omega (arith, is) };
  failed = λ _. grind (arith, is);
}

-- a failure was counted, and nothing where the call was out of memory
pub refused-cause : {T : Type 0} (refusal : KeeperFail) (before after : Script) → before.faults ≤ last_count
    → after ≡ after_call before (is_failure refusal) → HasCauseOf {T = T} fail.Failed before.faults after.faults (Err refusal)
refused-cause fail.Failed before after fits is = failed-cause fail.Failed _ before.faults after.faults fits (ap (λ (s : Script). s.faults) is)
refused-cause fail.OutOfMemory before after fits is =
    let same : after.faults ≡ before.faults = ap (λ (s : Script). s.faults) is in record {
      count = record { later = omega (arith, same); bounded = λ small. omega (arith, same, small) };
      failed = λ err. absurd cc;
    }

-- the second copy is there only where the keeper stops in the call, and it is the changed book
pub second_copy : (left : Option Book) (b : Book) (keeps : Bool) (x : PlainBook) → left ≡ Some b
    → option_map plain_book left ≡ (if keeps then Some x else None) → (keeps ≡ true) × (plain_book b ≡ x)
second_copy left b true x is copied =
    let both : Some (plain_book b) ≡ Some x = sym (ap (option_map plain_book) is) ∙ copied in (refl, cc)
second_copy left b false x is copied =
    let both : Some (plain_book b) ≡ None = sym (ap (option_map plain_book) is) ∙ copied in absurd cc

-- after the call in which a second copy was made
pub IsMemory-second : (book b : Book) (left stopped : Option Book) (script : Script) (keeps : Bool) (x : PlainBook) → IsBook x
    → left ≡ Some b → option_map plain_book left ≡ (if keeps then Some x else None) → keeps ≡ is_kept script.stop script.calls
    → IsMemory book stopped script → IsMemory book (Some b) (after_call script true)
IsMemory-second book b left stopped script keeps x valid is copied asked held =
    let parts = second_copy left b keeps x is copied in
    IsMemory-kept book b stopped script true (subst IsBook (sym parts.1) valid) (sym asked ∙ parts.0) held
