-- Texts that are written one after another.
use Rattle.std.proofs.Common.{ℕ, ◌+◌, List, [], ◌++◌, Option, Result, Ok, Err, refl, arith}
use Rattle.oe_outside.proofs.Causes.{NeverFalls-refl, NeverFalls-trans, then-Rose}
use Rattle.oe_outside.proofs.Streams.{visible_nothing}
use Rattle.oe_outside.proofs.Runs.{Appends-more, first_stopped, second_stopped}
use Rattle.oe_outside.specs.Stream.{ErrorOutput}
use Rattle.oe_top.proofs.Said.{says}
use Rattle.oe_top.specs.Lines.{Says}
use Rattle.oe_top.specs.Written.{Writes}

-- ---- what was answered

module _ {T U E F : Type 0} (before middle after : Option (List ℕ)) (faults middle_faults after_faults : ℕ)
    (first second : List ℕ) where
  -- the first was written, and then the second or a part of it
  pub then_writes : (x : T) (result : Result U F) → Writes {E = E} first before faults middle middle_faults (Ok x)
      → Writes second middle middle_faults after after_faults result
      → Writes (first ++ second) before faults after after_faults result
  then_writes x (Ok y) one two = record {
    appended = Appends-more before middle after first second one.appended two.appended;
    prefix = tt;
    cause = record { count = NeverFalls-trans one.cause.count two.cause.count; failed = λ e. cc };
  }
  then_writes x (Err f) one two = record {
    appended = tt;
    prefix = second_stopped before middle after first second one.appended two.prefix;
    cause = record {
      count = NeverFalls-trans one.cause.count two.cause.count;
      failed = λ e. then-Rose one.cause.count (two.cause.failed e);
    };
  }

module _ {T U E F : Type 0} (before after : Option (List ℕ)) (faults after_faults : ℕ) (first second : List ℕ) where
  -- a part of the first was written, and so of both
  pub stops_both : (e : E) (f : F) → Writes {T = T} first before faults after after_faults (Err e)
      → Writes {T = U} (first ++ second) before faults after after_faults (Err f)
  stops_both e f one = record {
    appended = tt;
    prefix = first_stopped before after first second one.prefix;
    cause = record { count = one.cause.count; failed = λ _. one.cause.failed refl };
  }

-- nothing was written
pub writes_nothing : {T E : Type 0} (held : Option (List ℕ)) (faults : ℕ) (x : T) → Writes {E = E} [] held faults held faults (Ok x)
writes_nothing held faults x = record {
  appended = visible_nothing held;
  prefix = tt;
  cause = record { count = NeverFalls-refl faults; failed = λ e. cc };
}

-- a line that was written is said
pub says_written : {T E : Type 0} (line : List ℕ) (err : ErrorOutput) (result : Result T E)
    → Writes line err.before err.before_faults err.after err.after_faults result → Says line err
says_written line err result w = says err result w.appended w.prefix w.cause
