-- Benches that are evaluated, each in its place.
use Rattle.std.proofs.Common.{◌≡◌, ◌+◌, ◌<◌, ◌≤◌, ℕ, zero, suc, List, [], ◌∷◌, length, take, get_or, Option, Some, None, ◌∙◌, sym, ap, arith}
use Rattle.std.specs.Prelude.{slice_get}
use Rattle.std.proofs.lemmas.Option.{slice_get-get_or, slice_get_within}
use Rattle.oe_plan.specs.Plans.{PlanOf}
use Rattle.oe_meanings.specs.Graphs.{Collections}
use Rattle.oe_check.specs.Laws.{AreCollectionsOf}
use Rattle.oe_engine.specs.Benches.{BenchOf, IsBenchFor, IsDone, IsEvaluated, IsLoaded}
use Rattle.oe_engine.specs.Chunks.{EachBench, IsAtDone, IsAtLoaded}
use Rattle.oe_engine.specs.Views.{AreEvaluations}
use Rattle.oe_engine.specs.Workspaces.{AreBenchesFor}
use Rattle.oe_engine.proofs.SeatLemmas.{no_bench}

taken_at : (n : ℕ) (benches : List BenchOf) (i : ℕ) (b : BenchOf) → slice_get (take n benches) i ≡ Some b → slice_get benches i ≡ Some b
taken_at zero [] i b at = at
taken_at zero (x ∷ benches) i b at = absurd (no_bench b at)
taken_at (suc n) [] i b at = at
taken_at (suc n) (x ∷ benches) zero b at = at
taken_at (suc n) (x ∷ benches) (suc i) b at = taken_at n benches i b at

pub take_evaluations : (p : PlanOf) (n : ℕ) (olds news : List BenchOf) → AreEvaluations p olds news → AreEvaluations p (take n olds) (take n news)
take_evaluations p n olds news e i before after at_old at_new =
    e i before after (taken_at n olds i before at_old) (taken_at n news i after at_new)

module _ (p : PlanOf) (first : ℕ) (olds news : List BenchOf) (many : length news ≡ length olds) (e : AreEvaluations p olds news) where
  module _ (i : ℕ) (b : BenchOf) (at : slice_get news i ≡ Some b) where
    abbrev old : BenchOf
    old = get_or olds i b

    at_old : slice_get olds i ≡ Some old
    at_old = slice_get-get_or olds i b (let w = slice_get_within news i b at in omega (arith, w, many))

    here : IsEvaluated p old b
    here = e i old b at_old at

  pub each_done : EachBench first (IsAtLoaded p) olds → EachBench first (IsAtDone p) news
  each_done loaded i b at = record {
    bench = (here i b at).bench;
    state = (here i b at).evaluated (first + i) (loaded i (old i b at) (at_old i b at)).state;
  }

  pub each_value : (collections : Collections) → AreCollectionsOf p.graph collections → EachBench first (IsLoaded p collections) olds
      → EachBench first (IsDone p collections) news
  each_value collections has loaded i b at =
      (here i b at).value collections (first + i) has (loaded i (old i b at) (at_old i b at))

pub benches_after : (p : PlanOf) (olds news : List BenchOf) → length news ≡ length olds → AreEvaluations p olds news → AreBenchesFor p olds
    → AreBenchesFor p news
benches_after p olds news many e made = record {
  as_many = many ∙ made.as_many;
  each = λ k d lt. (here p 0 olds news many e k (get_or news k d) (slice_get-get_or news k d lt)).bench;
}
