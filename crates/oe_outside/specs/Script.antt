-- The script of an object in memory: which of its calls fail, and how many there have been. A call is counted if it can
-- answer `Failed`.
use Rattle.std.specs.Prelude.{ℕ, Bool, List, refl}
use Rattle.std.specs.Ordering.{nat_cmp}
use Rattle.std.specs.FinSet as set
use Rattle.std.specs.Coded.{Coded, code_by, coded×, coded_ℕ}
use Rattle.oe_outside.specs.Faults.{counted}

pub record ScriptState : Type 0 where
  -- the numbers of the calls that fail, from 0
  pub failing : set.FinSet nat_cmp
  -- how many calls there have been, which is the number of the next
  pub calls : ℕ

abbrev pub script_code : Coded ScriptState
script_code =
    code_by (set.FinSet nat_cmp × ℕ) (coded× (set.code coded_ℕ) coded_ℕ) (λ s. (s.failing, s.calls))
    (λ p. record { failing = p.0; calls = p.1 }) (λ _. refl)

-- before the first call
abbrev pub script_of : List ℕ → ScriptState
script_of failing = record { failing = set.from_list failing; calls = 0 }

-- whether the script has the next call fail
abbrev pub fails_next : ScriptState → Bool
fails_next s = set.contains s.failing s.calls

-- after one more call
abbrev pub after_call : ScriptState → ScriptState
after_call s = record { failing = s.failing; calls = counted s.calls }
