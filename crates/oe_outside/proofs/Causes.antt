-- How the clauses on a fault counter add up over calls, so that a caller hands a fault on in one line.
use Rattle.std.proofs.Common.{ℕ, Result, arith}
use Rattle.std.specs.Result.{IsErr, IsErrOf}
use Rattle.oe_outside.specs.Faults.{Rose, NeverFalls, HasCause, HasCauseOf}

-- over no call
pub NeverFalls-refl : (count : ℕ) → NeverFalls count count
NeverFalls-refl count = record { later = omega arith; bounded = λ small. small }

-- over some calls and then some more
pub NeverFalls-trans : {a b c : ℕ} → NeverFalls a b → NeverFalls b c → NeverFalls a c
NeverFalls-trans {a} {b} {c} first second = grind arith

-- the counter rose, and then there were more calls
pub Rose-then : {a b c : ℕ} → Rose a b → NeverFalls b c → Rose a c
Rose-then {a} {b} {c} rose later = grind arith

-- there were some calls, and then the counter rose
pub then-Rose : {a b c : ℕ} → NeverFalls a b → Rose b c → Rose a c
then-Rose {a} {b} {c} earlier rose = grind arith

-- after some calls comes one that has a cause
pub then-HasCause : {T E : Type 0} {a b c : ℕ} {result : Result T E} → NeverFalls a b → HasCause b c result → HasCause a c result
then-HasCause earlier last = record {
  count = NeverFalls-trans earlier last.count;
  failed = λ err. then-Rose earlier (last.failed err);
}

-- a fault is handed on as an error of the caller's own, after some calls
pub hands_on : {T E U F : Type 0} {a b c : ℕ} {result : Result T E} → NeverFalls a b → HasCause b c result → IsErr result → (error : F) (answer : Result U F) → HasCauseOf error a c answer
hands_on earlier last err error answer = record {
  count = NeverFalls-trans earlier last.count;
  failed = λ _. then-Rose earlier (last.failed err);
}

-- one error is handed on as another
pub HasCauseOf-other : {T E U F : Type 0} {error : E} {other : F} {a b : ℕ} {result : Result T E} {answer : Result U F} → (IsErrOf answer other → IsErrOf result error) → HasCauseOf error a b result → HasCauseOf other a b answer
HasCauseOf-other handed cause = record { count = cause.count; failed = λ err. cause.failed (handed err) }
