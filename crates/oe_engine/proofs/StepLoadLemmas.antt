-- How many steps load a collection.
use Rattle.std.proofs.Common.{◌≡◌, ℕ, zero, suc, ◌+◌, ◌<◌, ◌≤◌, Bool, true, false, cond, List, ◌∷◌, length, refl, ap, ◌∙◌, inl, inr, arith}
use Rattle.std.specs.List.{count_by, range_with_len}
use Rattle.std.proofs.lemmas.Bool.{cases_Bool}
use Rattle.std.proofs.lemmas.List.Sums.{sum_by-cons}
use Rattle.oe_steps.proofs.StepLoadLemmas.{count_first}
use Rattle.oe_plan.specs.Plans.{PlanOf}
use Rattle.oe_engine.specs.Benches.{is_load_at}
use Rattle.oe_engine.specs.Runs.{load_count}

-- loads stand first, so that there are as many at least as steps before one that is none
pub loads_counted : (p : PlanOf) (count : ℕ) → count ≤ length p.order.steps → ((step : ℕ) → step < count → is_load_at p step ≡ true)
    → count ≤ load_count p
loads_counted p count most loads = count_first (is_load_at p) 0 count (length p.order.steps) most (λ i from to. loads i (omega arith))

count_one : (test : ℕ → Bool) (x : ℕ) (xs : List ℕ) (b : Bool) → test x ≡ b → count_by test (x ∷ xs) ≡ cond b 1 0 + count_by test xs
count_one test x xs b is = sum_by-cons (λ y. cond (test y) 1 0) x xs ∙ ap (λ b. cond b 1 0 + count_by test xs) is

-- one more number passes a test at most once
count_more : (test : ℕ → Bool) (x : ℕ) (xs : List ℕ) → count_by test (x ∷ xs) ≤ 1 + count_by test xs
count_more test x xs = elim (cases_Bool (test x)) [
  | inl passes ↦ let e = count_one test x xs true passes in omega (arith, e)
  | inr fails ↦ let e = count_one test x xs false fails in omega (arith, e)
]

-- no more pass a test than numbers that stand before the first that pass it no more
count_last : (test : ℕ → Bool) (a n m : ℕ) → ((i : ℕ) → a + n ≤ i → i < a + m → test i ≡ false) → count_by test (range_with_len a m) ≤ n
count_last test a n zero none =
    let empty : count_by test (range_with_len a 0) ≡ 0 = refl in omega (arith, empty)
count_last test a zero (suc m) none =
    let rest = count_last test (a + 1) zero m (λ i from to. none i (omega arith) (omega arith)) in
    let one = count_one test a (range_with_len (a + 1) m) false (none a (omega arith) (omega arith)) in
    omega (arith, rest, one)
count_last test a (suc n) (suc m) none =
    let rest = count_last test (a + 1) n m (λ i from to. none i (omega arith) (omega arith)) in
    let one = count_more test a (range_with_len (a + 1) m) in
    omega (arith, rest, one)

-- and no more than those, so that they are all
no_more_loads : (p : PlanOf) (count : ℕ) → ((step : ℕ) → count ≤ step → step < length p.order.steps → is_load_at p step ≡ false)
    → load_count p ≤ count
no_more_loads p count work = count_last (is_load_at p) 0 count (length p.order.steps) (λ i from to. work i (omega arith) (omega arith))

pub loads_are : (p : PlanOf) (count : ℕ) → count ≤ length p.order.steps → ((step : ℕ) → step < count → is_load_at p step ≡ true)
    → ((step : ℕ) → count ≤ step → step < length p.order.steps → is_load_at p step ≡ false) → count ≡ load_count p
loads_are p count most loads work =
    let least = loads_counted p count most loads in
    let none = no_more_loads p count work in
    omega (arith, least, none)
