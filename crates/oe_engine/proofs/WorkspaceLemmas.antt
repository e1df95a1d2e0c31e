-- The benches of a run, taken one by one out of the places in which they were made.
use Rattle.std.proofs.Common.{◌≡◌, ℕ, ◌+◌, ◌*◌, ◌<◌, ◌≤◌, List, [], ◌∷◌, ◌++◌, length, refl, sym, ap, ◌∙◌, subst, length-append, arith, Option, Some, None, IfSome, IsSomeAnd, Result, Ok, Err, IfOk, OnOk}
use Rattle.std.specs.Prelude.{⊤}
use Rattle.std.specs.Option.{option_flatten, option_to_list}
use Rattle.std.specs.Result.{result_ok}
use Rattle.std.proofs.Math.Nat.{mul-le-mul_right}
use Rattle.std.proofs.lemmas.List.Elements.{All-append, All-cons}
use Rattle.std.proofs.lemmas.List.Sums.{sum_by-append, sum_by-cons}
use Rattle.std.specs.List.{All}
use Rattle.oe_plan.specs.Figures.{largest_window, most_held_cells}
use Rattle.oe_plan.specs.Fits.{bench_cells}
use Rattle.oe_plan.specs.Plans.{IsPlan, PlanOf}
use Rattle.oe_plan.proofs.FitLemmas.{fit_memory}
use Rattle.oe_steps.proofs.BufferLemmas.{sum_of_size}
use Rattle.oe_engine.specs.Benches.{BenchOf, IsBenchFor, held_cells}
use Rattle.oe_engine.specs.Workspaces.{AreIdle, IsIdle, IsPlaceFor, cells_of_benches}

-- ---- one bench

-- each bench for a plan holds as many cells
pub cells_of_bench : (p : PlanOf) (b : BenchOf) → IsBenchFor p b → held_cells b ≡ bench_cells p
cells_of_bench p b is =
    let sum = sum_of_size b.buffers p.order.width (largest_window p.graph p.size) is.room.buffers in
    ap (λ (n : ℕ). n + length b.scratch) sum ∙ ap (λ (n : ℕ). p.order.width * largest_window p.graph p.size + n) is.room.scratch

-- the bench of the last place, where there is one
pub bench_of_last : (p : PlanOf) (last : Option (Option BenchOf)) → IfSome last (IsPlaceFor p)
    → IfSome (option_flatten last) (IsBenchFor p)
bench_of_last p None has = tt
bench_of_last p (Some place) has = has.bench

-- it has no chunk
pub idle_of_last : (p : PlanOf) (last : Option (Option BenchOf)) → IfSome last (IsPlaceFor p) → IfSome (option_flatten last) IsIdle
idle_of_last p None has = tt
idle_of_last p (Some place) has = has.idle

pub if_ok : {E : Type 0} (P : BenchOf → Type 0) (out : Result BenchOf E) → IfSome (result_ok out) P → IfOk out P
if_ok P (Ok b) h = h
if_ok P (Err e) h = tt

-- a bench that was handed out leaves a place fewer
pub a_place_fewer : {E : Type 0} (out : Result BenchOf E) (last : Option (Option BenchOf)) (before after : List (Option BenchOf))
    → before ≡ after ++ option_to_list last → option_flatten last ≡ result_ok out → OnOk out (length after + 1 ≡ length before)
a_place_fewer (Err e) last before after items is = tt
a_place_fewer (Ok b) None before after items is = absurd (subst (λ (o : Option BenchOf). IsSomeAnd o (λ _. ⊤)) (sym is) tt)
a_place_fewer (Ok b) (Some place) before after items is =
    let all : length before ≡ length after + 1 = ap length items ∙ length-append after (place ∷ []) in
    sym all

-- ---- benches of a plan

-- so many benches of a plan, with their cells, and places for those that are left
pub record AreSome (p : PlanOf) (benches : List BenchOf) (places : List (Option BenchOf)) (count cells : ℕ) : Type 0 where
  pub many : length benches ≡ count
  pub each : All (IsBenchFor p) benches
  pub idle : AreIdle benches
  pub sum : cells ≡ cells_of_benches benches
  pub total : cells ≡ count * bench_cells p
  pub left : length places + count ≡ 2 * p.workers
  pub made : All (IsPlaceFor p) places

pub none_yet : (p : PlanOf) (places : List (Option BenchOf)) → length places ≡ 2 * p.workers → All (IsPlaceFor p) places
    → AreSome p [] places 0 0
none_yet p places all has = record {
  many = refl;
  each = λ k h d. absurd (omega arith);
  idle = λ k h d. absurd (omega arith);
  sum = refl;
  total = omega arith;
  left = omega arith;
  made = has;
}

pub one_more : (p : PlanOf) (benches : List BenchOf) (places after : List (Option BenchOf)) (b : BenchOf) (count cells : ℕ)
    → AreSome p benches places count cells → IsBenchFor p b → IsIdle b → length after + 1 ≡ length places → All (IsPlaceFor p) after
    → AreSome p (benches ++ b ∷ []) after (count + 1) (cells + held_cells b)
one_more p benches places after b count cells s is idle fewer has =
    let many = s.many in
    let left = s.left in
    let longer = length-append benches (b ∷ []) in
    let sum = sum_by-append held_cells benches (b ∷ []) in
    let one = sum_by-cons held_cells b [] in
    let was = s.sum in
    let held = cells_of_bench p b is in
    record {
      many = omega arith;
      each = All-append (IsBenchFor p) benches (b ∷ []) s.each (All-cons (IsBenchFor p) b [] is (λ k h d. absurd (omega arith)));
      idle = All-append IsIdle benches (b ∷ []) s.idle (All-cons IsIdle b [] idle (λ k h d. absurd (omega arith)));
      sum = omega arith;
      total = ap (λ n. n + held_cells b) s.total ∙ (ap (λ n. count * bench_cells p + n) held ∙ sym (by count (bench_cells p)));
      left = omega arith;
      made = has;
    }
  where
    by : (n m : ℕ) → (n + 1) * m ≡ n * m + m
    by n m = omega arith

-- one more than some of all has not too many cells
pub room : (p : PlanOf) → IsPlan p → (count : ℕ) → count + 1 ≤ 2 * p.workers → count * bench_cells p + bench_cells p ≤ most_held_cells
room p is count le =
    let all = mul-le-mul_right (bench_cells p) le in
    let most = (fit_memory.each p is).most in
    let one = by count (bench_cells p) in
    omega arith
  where
    by : (n m : ℕ) → (n + 1) * m ≡ n * m + m
    by n m = omega arith
