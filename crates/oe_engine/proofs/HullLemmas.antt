-- Steps that are loaded for several benches at once, row by row of a hull.
use Rattle.std.proofs.Common.{◌≡◌, ℕ, zero, suc, ◌+◌, ◌-◌, ◌*◌, ◌<◌, ◌≤◌, List, [], ◌∷◌, ◌++◌, length, map, get_or, set, Some, Result, Ok, Err, refl, sym, ap, ◌∙◌, subst, arith}
use Rattle.std.proofs.Math.Nat.{add-mul, mul-le-mul_right, mul_assoc, mul_comm}
use Rattle.std.proofs.lemmas.List.Elements.{All-cons, All-tail}
use Rattle.std.proofs.lemmas.Option.{get_or_from_slice_get, same_Some, slice_get_within, slice_get-get_or}
use Rattle.std.specs.List.{All, slice_get}
use Rattle.std.specs.Result.{IsErr, IsErrAnd, OnOk}
use Rattle.oe_cell.specs.declared.cell.Cell.{Cell}
use Rattle.oe_ops.specs.Needs.{plane_window}
use Rattle.oe_plan.specs.Plans.{IsPlan, PlanOf, schedule_of}
use Rattle.oe_plan.proofs.ScheduleLemmas.{plan_schedule}
use Rattle.oe_plan.specs.Windows.{window_at}
use Rattle.oe_sources.specs.Catalogue.{Row}
use Rattle.oe_window.specs.Parts.{row_count, row_of}
use Rattle.oe_window.specs.Windows.{position_count, span_length}
use Rattle.oe_window.specs.declared.window.Window.{Window}
use Rattle.oe_window.proofs.PartLemmas.{row_of_size}
use Rattle.oe_engine.specs.Benches.{BenchOf, EachLive, IsBenchFor, KeepsState, node_at}
use Rattle.oe_steps.specs.Buffers.{buffer_at}
use Rattle.oe_engine.specs.Chunks.{EachBench}
use Rattle.oe_engine.specs.Hulls.{HasLoadedRows, HasLoadedSteps, HaveLoadedRows, IsBegun, IsStripped}
use Rattle.oe_sources.specs.Source.{answer_of}
use Rattle.oe_sources.specs.declared.source.LookFail.{LookFail}
use Rattle.oe_sources.specs.declared.source.LookFail.TheVariants as look
use Rattle.oe_steps.proofs.ReadLemmas.{shows_same}
use Rattle.oe_steps.specs.Collections.{without_counts}
use Rattle.oe_steps.specs.Loads.{HasLoadedTo, refusal_for}
use Rattle.oe_engine.specs.Loads.{IsLoadedAt, LoadsBench}
use Rattle.oe_steps.proofs.StepLoadLemmas.{loaded_all, loaded_none, next_loaded}
use Rattle.oe_steps.proofs.StripLemmas.{rows_all}
use Rattle.oe_steps.proofs.RowLemmas.{one_more}

-- ---- the steps of one bench

module _ (p : PlanOf) (is : IsPlan p) (rows : List Row) (windows : List Window) (step : ℕ) (within : step < length p.order.steps) where
  pub no_rows_loaded : (buffers : List (List Cell)) → EachLive p step (IsLoadedAt p rows windows buffers)
      → HaveLoadedRows p rows step 0 windows buffers
  no_rows_loaded buffers each =
      let window = window_at windows step in
      let none : 0 ≡ 0 * span_length window.x = omega arith in
      let buffer = buffer_at buffers (get_or p.order.slots step 0) in
      record {
        before = each;
        loaded = subst (λ n. HasLoadedTo p.graph rows (node_at p step) window n buffer) none
            (loaded_none p.graph rows (node_at p step) window buffer);
      }

  pub all_rows_loaded : (buffers : List (List Cell)) (number : ℕ) → number * span_length (window_at windows step).x ≡ position_count (window_at windows step)
      → HaveLoadedRows p rows step number windows buffers → EachLive p (step + 1) (IsLoadedAt p rows windows buffers)
  all_rows_loaded buffers number all have =
      next_loaded p.graph (schedule_of p) (plan_schedule p is) rows windows buffers buffers step within (λ slot other. refl) have.before
      (loaded_all p.graph rows (node_at p step) (window_at windows step) (number * span_length (window_at windows step).x)
      (buffer_at buffers (get_or p.order.slots step 0)) all have.loaded)

-- ---- the steps of all benches

pub one_of_all : {X : Type 0} (P : X → Type 0) (xs : List X) (i : ℕ) (x : X) → slice_get xs i ≡ Some x → All P xs → P x
one_of_all P xs i x at all = subst P (get_or_from_slice_get xs i x x at) (all i x (slice_get_within xs i x at))

pub all_of_each : (P : BenchOf → Type 0) (benches : List BenchOf) → EachBench 0 (λ k b. P b) benches → All P benches
all_of_each P benches each k d h = each k (get_or benches k d) (slice_get-get_or benches k d h)

module _ (p : PlanOf) (is : IsPlan p) (rows : List Row) (first step : ℕ) (within : step < length p.order.steps) where
  pub no_row_of_each : (benches : List BenchOf) → EachBench first (HasLoadedSteps p rows step) benches
      → EachBench first (HasLoadedRows p rows step 0) benches
  no_row_of_each benches each i b at =
      let has = each i b at in
      record { chunk = has.chunk; loaded = no_rows_loaded p is rows b.windows step within b.buffers has.loaded }

  pub all_rows_of_each : (hull : Window) (benches : List BenchOf) (number : ℕ) → number ≡ row_count hull → All (IsStripped p hull step) benches
      → EachBench first (HasLoadedRows p rows step number) benches → EachBench first (HasLoadedSteps p rows (step + 1)) benches
  all_rows_of_each hull benches number end strips each i b at =
      let has = each i b at in
      let window = window_at b.windows step in
      let strip = (one_of_all (IsStripped p hull step) benches i b at strips).strip in
      record {
        chunk = has.chunk;
        loaded = all_rows_loaded p is rows b.windows step within b.buffers number
            (ap (λ n. n * span_length window.x) end ∙ rows_all hull window strip) has.loaded;
      }

-- benches of which the first one is taken out
module _ (Holds : ℕ → BenchOf → Type 0) (first : ℕ) (own others : List BenchOf) (one : length own ≡ 1) where
  pub own_of_each : (other : BenchOf) → EachBench first Holds (own ++ others) → Holds first (get_or own 0 other)
  own_of_each = by own one
    where
      by : (xs : List BenchOf) → length xs ≡ 1 → (other : BenchOf) → EachBench first Holds (xs ++ others) → Holds first (get_or xs 0 other)
      by [] e other each = absurd (omega arith)
      by (x ∷ xs) e other each =
          let same : first + 0 ≡ first = omega arith in subst (λ k. Holds k x) same (each 0 x refl)

  pub others_of_each : EachBench first Holds (own ++ others) → EachBench (first + 1) Holds others
  others_of_each = by own one
    where
      by : (xs : List BenchOf) → length xs ≡ 1 → EachBench first Holds (xs ++ others) → EachBench (first + 1) Holds others
      by [] e each = absurd (omega arith)
      by (x ∷ []) e each = λ i b at.
          let same : first + suc i ≡ first + 1 + i = omega arith in subst (λ k. Holds k b) same (each (suc i) b at)
      by (x ∷ y ∷ xs) e each = absurd (omega arith)

  pub both_of_each : (y : BenchOf) (new : List BenchOf) → Holds first y → EachBench (first + 1) Holds new
      → EachBench first Holds (set own 0 y ++ new)
  both_of_each y new here each = by own one
    where
      by : (xs : List BenchOf) → length xs ≡ 1 → EachBench first Holds (set xs 0 y ++ new)
      by [] e i b at = absurd (omega arith)
      by (x ∷ []) e zero b at =
          let same : first ≡ first + 0 = omega arith in
          let is : y ≡ b = same_Some y b at in
          subst (λ k. Holds k b) same (subst (Holds first) is here)
      by (x ∷ []) e (suc i) b at =
          let same : first + 1 + i ≡ first + suc i = omega arith in subst (λ k. Holds k b) same (each i b at)
      by (x ∷ z ∷ xs) e i b at = absurd (omega arith)

-- the same of what holds of all of them
module _ {X : Type 0} (P : X → Type 0) (own others : List X) (one : length own ≡ 1) where
  pub own_of_all : (other : X) → All P (own ++ others) → P (get_or own 0 other)
  own_of_all = by own one
    where
      by : (xs : List X) → length xs ≡ 1 → (other : X) → All P (xs ++ others) → P (get_or xs 0 other)
      by [] e other all = absurd (omega arith)
      by (x ∷ xs) e other all = all 0 other (omega arith)

  pub others_of_all : All P (own ++ others) → All P others
  others_of_all = by own one
    where
      by : (xs : List X) → length xs ≡ 1 → All P (xs ++ others) → All P others
      by [] e all = absurd (omega arith)
      by (x ∷ []) e all = All-tail P x others all
      by (x ∷ y ∷ xs) e all = absurd (omega arith)

  pub both_of_all : (y : X) (new : List X) → P y → All P new → All P (set own 0 y ++ new)
  both_of_all y new here each = by own one
    where
      by : (xs : List X) → length xs ≡ 1 → All P (set xs 0 y ++ new)
      by [] e = absurd (omega arith)
      by (x ∷ []) e = All-cons P y new here each
      by (x ∷ z ∷ xs) e = absurd (omega arith)

pub own_set : {X : Type 0} (own : List X) (y other : X) → length own ≡ 1 → get_or (set own 0 y) 0 other ≡ y
own_set [] y other e = absurd (omega arith)
own_set (x ∷ xs) y other e = refl

-- a bench that is not loaded yet is one for the plan
pub begun_is : (p : PlanOf) (b : BenchOf) → IsBegun p b → IsBenchFor p b
begun_is p b begun = record {
  room = begun.room;
  keeps = subst (KeepsState p b) (sym begun.state) tt;
}

-- ---- how many cells are looked at

pub steps_turned : (loads many largest : ℕ) → loads * (many * largest) ≡ many * (loads * largest)
steps_turned loads many largest =
    sym (mul_assoc loads many largest) ∙ (ap (λ n. n * largest) (mul_comm loads many) ∙ mul_assoc many loads largest)

-- a step more of all benches
pub step_asked : (step loads many largest : ℕ) → step < loads
    → ((step + 1) * (many * largest) ≡ step * (many * largest) + many * largest)
    × (step * (many * largest) + many * largest ≤ many * (loads * largest))
step_asked step loads many largest before =
    let one = one_more step (many * largest) in
    let most : (step + 1) * (many * largest) ≤ loads * (many * largest) = mul-le-mul_right (many * largest) (omega arith) in
    let turned = steps_turned loads many largest in
    (one, omega arith)

-- the benches of a piece that begins behind so many
pub piece_asked : (from end many largest : ℕ) → from ≤ end → end ≤ many
    → (from * largest + (end - from) * largest ≡ end * largest) × (end * largest ≤ many * largest)
piece_asked from end many largest le most =
    let whole : from + (end - from) ≡ end = omega arith in
    (sym (add-mul from (end - from) largest) ∙ ap (λ n. n * largest) whole, mul-le-mul_right largest most)

-- ---- what a refusal says of nothing

pub none_if_refused : {E : Type 0} (r : Result (Unit {0}) E) (refusal : E) → IsErrAnd r (λ e. e ≡ refusal) → (X : Type 0) → OnOk r X
none_if_refused (Ok u) refusal is X = absurd is
none_if_refused (Err e) refusal is X = tt

-- ---- a bench that has read a row

module _ (old new : BenchOf) (same : record new { scratch = old.scratch } ≡ old) (long : length new.scratch ≡ length old.scratch) where
  is_old : record old { scratch = new.scratch } ≡ new
  is_old = sym (ap (λ (b : BenchOf). record b { scratch = new.scratch }) same)

  pub stripped_after_read : (p : PlanOf) (hull : Window) (step : ℕ) → IsStripped p hull step old → IsStripped p hull step new
  stripped_after_read p hull step s = subst (IsStripped p hull step) is_old (record {
    begun = record {
      room = record { windows = s.begun.room.windows; buffers = s.begun.room.buffers; scratch = long ∙ s.begun.room.scratch };
      state = s.begun.state;
      windows = s.begun.windows;
    };
    strip = s.strip;
  })

  pub rows_after_read : (p : PlanOf) (rows : List Row) (step number k : ℕ) → HasLoadedRows p rows step number k old
      → HasLoadedRows p rows step number k new
  rows_after_read p rows step number k has = subst (HasLoadedRows p rows step number k) is_old (record {
    chunk = record { within = has.chunk.within; windows = has.chunk.windows };
    loaded = has.loaded;
  })

-- a row has one index along t and bands, and as many positions as the hull has indices along x
pub one_row : (hull row : Window) (n : ℕ) → row ≡ row_of hull n → row ≡ plane_window row row.t.from row.bands.from
one_row hull row n is = rw is refl

pub row_long : (hull row : Window) (n : ℕ) → row ≡ row_of hull n → position_count row ≡ span_length row.x
row_long hull row n is = rw is (row_of_size hull n)

pub none_if_err : {E : Type 0} (r : Result (Unit {0}) E) → IsErr r → (X : Type 0) → OnOk r X
none_if_err (Ok u) is X = absurd cc
none_if_err (Err e) is X = tt

pub refusal_is_err : (node : ℕ) (fail : LookFail) → IsErr (refusal_for node (answer_of (Err fail)))
refusal_is_err node (look.Failed fault) = refl
refusal_is_err node (look.Damaged number) = refl

-- a round goes on only where all of its chunks are loaded
pub ok_loaded : {E F : Type 0} (loaded : Result (Unit {0}) E) (result : Result (Unit {0}) F) (P Q : Type 0) → OnOk result (loaded ≡ Ok tt) → (P → Q) → OnOk loaded P → OnOk result Q
ok_loaded loaded (Ok u) P Q same use_it ok = use_it (subst (λ l. OnOk l P) same ok)
ok_loaded loaded (Err e) P Q same use_it ok = tt

-- a bench that is loaded over rows of which only counters changed
pub bench_before : (p : PlanOf) (before after : List Row) → map without_counts after ≡ map without_counts before → (k : ℕ) (b : BenchOf)
    → LoadsBench p after k b → LoadsBench p before k b
bench_before p before after same k b h = record {
  keeps = h.keeps;
  state = h.state;
  loaded = λ collections has shows. h.loaded collections has (shows_same p.graph before after same collections shows);
}
