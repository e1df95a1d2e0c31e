-- An input that was read up to the limit.
use Rattle.std.proofs.Common.{◌≡◌, ℕ, ◌<◌, ◌≤◌, List, [], length, Option, Some, None, IfSome, Bool, true, Result, Ok, Err, IfOk, sym, subst, arith}
use Rattle.oe_http.specs.Requests.{most_body}
use Rattle.oe_outside.specs.Input.{ReadsUpTo}
use Rattle.oe_outside.proofs.Runs.{same_whole}
use Rattle.oe_dial.specs.Ends.{TakesInput, input_from}

-- an input within the limit was read whole
pub read_all : (before : Option (List ℕ)) (bytes : List ℕ) (after : Option (List ℕ)) → ReadsUpTo most_body before bytes after
    → length bytes ≤ most_body → IfSome before (λ held. held ≡ bytes)
read_all None bytes after read short = tt
read_all (Some visible) bytes None read short = absurd read.front
read_all (Some visible) bytes (Some rest) read short =
    sym (same_whole visible bytes rest read.front (read.whole short))

-- one of which more was read is longer
pub too_long : (before : Option (List ℕ)) (bytes : List ℕ) (after : Option (List ℕ)) → ReadsUpTo most_body before bytes after
    → most_body < length bytes → IfSome before (λ held. most_body < length held)
too_long None bytes after read long = tt
too_long (Some visible) bytes None read long = absurd read.front
too_long (Some visible) bytes (Some rest) read long = omega (arith, read.front.enough, long)

-- of an input that is sent, and of which no more was read than it may have
pub taken_whole : {V E : Type 0} (items : V → List ℕ) (result : Result V E) (read : V) (before : Option (List ℕ))
    (before_faults : ℕ) (after : Option (List ℕ)) (after_faults : ℕ) (sends : Bool) → sends ≡ true
    → ReadsUpTo most_body before (items read) after
    → IfOk result (λ kept. (kept ≡ read) × (length (items read) ≤ most_body))
    → IfOk result (λ kept. TakesInput sends (input_from before before_faults after after_faults) (items kept))
taken_whole {V} items (Ok kept) read before before_faults after after_faults sends sent reads whole =
    let input = input_from before before_faults after after_faults in
    let P : V → Type 0 = λ v. TakesInput true input (items v) in
    let Q : Bool → Type 0 = λ s. TakesInput s input (items kept) in
    subst Q (sym sent)
    (subst P (sym whole.0) (read_all before (items read) after reads whole.1, reads.whole whole.1, whole.1))
taken_whole items (Err e) read before before_faults after after_faults sends sent reads whole = tt
