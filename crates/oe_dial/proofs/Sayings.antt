-- What is written in two pieces.
use Rattle.std.proofs.Common.{ℕ, ◌+◌, List, ◌++◌, Option, Result, Ok, Err, OnErr, OnOk, arith}
use Rattle.oe_outside.proofs.Runs.{Appends-more, second_stopped}
use Rattle.oe_outside.specs.Visible.{Appends, AppendsPrefix}

-- both were written
pub both_written : (a b c : Option (List ℕ)) (first second : List ℕ) → Appends a first b → Appends b second c
    → Appends a (first ++ second) c
both_written a b c first second one two = Appends-more a b c first second one two

-- the same of a call that writes the second
pub second_ok : {T E : Type 0} (result : Result T E) (a b c : Option (List ℕ)) (first second : List ℕ) → Appends a first b
    → OnOk result (Appends b second c) → OnOk result (Appends a (first ++ second) c)
second_ok (Ok v) a b c first second one two = both_written a b c first second one two
second_ok (Err e) a b c first second one two = tt

pub second_err : {T E : Type 0} (result : Result T E) (a b c : Option (List ℕ)) (first second : List ℕ)
    → Appends a first b → OnErr result (AppendsPrefix b second c) → OnErr result (AppendsPrefix a (first ++ second) c)
second_err (Ok v) a b c first second one stopped = tt
second_err (Err e) a b c first second one stopped = second_stopped a b c first second one stopped
