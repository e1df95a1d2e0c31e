-- Worked values of the definitions.
use Rattle.std.proofs.Common.{◌≡◌, ℕ, true, false, [], ◌∷◌, Some, refl, inl, inr, arith}
use Rattle.std.specs.FinSet as set
use Rattle.oe_outside.specs.Faults.{counted, count_after, Rose}
use Rattle.oe_outside.specs.Visible.{TakesFront, Gave, Appends, AppendsPrefix, AddsBytes}
use Rattle.oe_outside.specs.Stored.{count_at, with_piece, IsSameOutside}
use Rattle.oe_outside.specs.Script.{script_of, fails_next, after_call}

-- a counter goes up by one, and stays at 2^64 - 1
one_more : counted 6 ≡ 7
one_more = refl

at_the_last : counted 18446744073709551615 ≡ 18446744073709551615
at_the_last = refl

after_a_failure : count_after 2 true ≡ 3
after_a_failure = refl

after_a_success : count_after 2 false ≡ 2
after_a_success = refl

rose_by_one : Rose 2 3
rose_by_one = inl (omega arith)

rose_at_the_last : Rose 18446744073709551615 18446744073709551615
rose_at_the_last = inr refl

-- of the bytes 1, 2, 3 a read into a buffer of two takes the first two
two_of_three : TakesFront (Some (1 ∷ 2 ∷ 3 ∷ [])) 2 (1 ∷ 2 ∷ []) (Some (3 ∷ []))
two_of_three = record { enough = omega arith; given = refl; rest_is = refl }

first_of_three : Gave (Some (1 ∷ 2 ∷ 3 ∷ [])) (1 ∷ []) (Some (2 ∷ 3 ∷ []))
first_of_three = refl

two_appended : Appends (Some (7 ∷ [])) (8 ∷ 9 ∷ []) (Some (7 ∷ 8 ∷ 9 ∷ []))
two_appended = refl

one_of_two_appended : AppendsPrefix (Some (7 ∷ [])) (8 ∷ 9 ∷ []) (Some (7 ∷ 8 ∷ []))
one_of_two_appended = (1, refl)

five_counted : AddsBytes (Some 3) 2 (Some 5)
five_counted = refl

-- a store of 1, 2, 3, 4: a piece within, over the end, at the end, and behind a gap
within : with_piece (1 ∷ 2 ∷ 3 ∷ 4 ∷ []) 1 (8 ∷ 9 ∷ []) ≡ 1 ∷ 8 ∷ 9 ∷ 4 ∷ []
within = refl

over_the_end : with_piece (1 ∷ 2 ∷ 3 ∷ 4 ∷ []) 3 (8 ∷ 9 ∷ []) ≡ 1 ∷ 2 ∷ 3 ∷ 8 ∷ 9 ∷ []
over_the_end = refl

at_the_end : with_piece (1 ∷ 2 ∷ 3 ∷ 4 ∷ []) 4 (8 ∷ 9 ∷ []) ≡ 1 ∷ 2 ∷ 3 ∷ 4 ∷ 8 ∷ 9 ∷ []
at_the_end = refl

behind_a_gap : with_piece (1 ∷ 2 ∷ 3 ∷ 4 ∷ []) 6 (8 ∷ 9 ∷ []) ≡ 1 ∷ 2 ∷ 3 ∷ 4 ∷ 0 ∷ 0 ∷ 8 ∷ 9 ∷ []
behind_a_gap = refl

read_before_the_end : count_at (1 ∷ 2 ∷ 3 ∷ 4 ∷ []) 1 2 ≡ 2
read_before_the_end = refl

read_over_the_end : count_at (1 ∷ 2 ∷ 3 ∷ 4 ∷ []) 3 2 ≡ 1
read_over_the_end = refl

read_past_the_end : count_at (1 ∷ 2 ∷ 3 ∷ 4 ∷ []) 9 2 ≡ 0
read_past_the_end = refl

-- a failed write of two bytes at 1 may have changed the bytes at 1 and 2, and no other
torn : IsSameOutside 1 2 (1 ∷ 2 ∷ 3 ∷ 4 ∷ []) (1 ∷ 8 ∷ 5 ∷ 4 ∷ [])
torn = record { before = refl; after = refl; gap = refl; no_shorter = omega arith; no_longer = omega arith }

-- a script that fails the calls 0 and 2
first_call_fails : fails_next (script_of (2 ∷ 0 ∷ [])) ≡ true
first_call_fails = set.contains-from_list_nat (2 ∷ 0 ∷ []) 0

second_call_succeeds : fails_next (after_call (script_of (2 ∷ 0 ∷ []))) ≡ false
second_call_succeeds = set.contains-from_list_nat (2 ∷ 0 ∷ []) 1

third_call_fails : fails_next (after_call (after_call (script_of (2 ∷ 0 ∷ [])))) ≡ true
third_call_fails = set.contains-from_list_nat (2 ∷ 0 ∷ []) 2

-- with no number listed, every call succeeds
pub no_call_fails : (calls : ℕ) → fails_next (record { failing = set.from_list []; calls = calls }) ≡ false
no_call_fails calls = set.contains-from_list_nat [] calls
