-- Which calls of a keeper in memory fail: those of a list, and from one call on all.
use Rattle.std.specs.Prelude.{ℕ, Bool, false, List, Option, Some, None, ◌&&◌, ◌||◌, ◌==◌, nat_le}
use Rattle.std.specs.List.{list_any}
use Rattle.oe_outside.specs.Faults.{counted, count_after}

-- the calls that fail, from 0, and the call from which on the keeper has stopped, with whether its commit is kept
pub record Script : Type 0 where
  pub failing : List ℕ
  pub stop : Option (ℕ × Bool)
  -- how many calls there have been, which is the number of the next
  pub calls : ℕ
  pub faults : ℕ
  pub has_failed : Bool

-- before the first call
abbrev pub script_of : List ℕ → Option (ℕ × Bool) → Script
script_of failing stop = record { failing = failing; stop = stop; calls = 0; faults = 0; has_failed = false }

-- the keeper has stopped by the call of this number
abbrev pub has_stopped : Option (ℕ × Bool) → ℕ → Bool
has_stopped None call = false
has_stopped (Some stop) call = nat_le stop.0 call

-- the keeper stops in the call of this number, and what that call commits is kept all the same
abbrev pub is_kept : Option (ℕ × Bool) → ℕ → Bool
is_kept None call = false
is_kept (Some stop) call = stop.1 && (stop.0 == call)

-- the next call fails
abbrev pub fails_next : Script → Bool
fails_next s = has_stopped s.stop s.calls || list_any (λ number. number == s.calls) s.failing

-- after one more call, which failed or did not
abbrev pub after_call : Script → Bool → Script
after_call s failed = record s {
  calls = counted s.calls;
  faults = count_after s.faults failed;
  has_failed = failed;
}
