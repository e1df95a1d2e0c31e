-- What one round of a part of a run reads and writes, in each of the ways in which it ends: loading is refused, writing
-- is refused, or it is done.
use Rattle.std.proofs.Common.{◌≡◌, ℕ, zero, suc, ◌+◌, ◌-◌, ◌*◌, ◌≤◌, min, List, [], ◌∷◌, ◌++◌, length, take, drop, get_or, Option, Result, ◌∙◌, subst, length-append, length-drop, arith}
use Rattle.std.specs.List.{All}
use Rattle.std.proofs.lemmas.List.Elements.{All-append, All-cons}
use Rattle.std.proofs.lemmas.Option.{slice_get-get_or}
use Rattle.oe_outside.specs.Faults.{last_count}
use Rattle.oe_plan.specs.Figures.{largest_window}
use Rattle.oe_plan.specs.Plans.{IsPlan, PlanOf}
use Rattle.oe_meanings.specs.Graphs.{Collections}
use Rattle.oe_check.specs.Laws.{AreCollectionsOf}
use Rattle.oe_sources.specs.Catalogue.{Row, cells_asked}
use Rattle.oe_spool.specs.Least.{lesser_of}
use Rattle.oe_spool.specs.Spooled.{ChangesOnly, IsInSome, IsRecordByte}
use Rattle.oe_spool.proofs.KeptLemmas.{bytes_kept}
use Rattle.oe_engine.specs.Benches.{BenchOf, IsBenchFor, IsDone, IsLoaded}
use Rattle.oe_engine.specs.Chunks.{EachBench, HasRecordsOf, HasValidCells, IsAtDone, IsLeastOf}
use Rattle.oe_steps.specs.Loads.{HasRead}
use Rattle.oe_engine.specs.Loads.{LoadsBench}
use Rattle.oe_engine.specs.Parts.{ReadsPart, WritesPart}
use Rattle.oe_engine.specs.Runs.{chunks_from, evaluated_after, load_count, result_cube, result_shape}
use Rattle.oe_steps.specs.declared.fail.RunFail.{RunFail}
use Rattle.oe_engine.proofs.RenderLemmas.{result_shape_is}
use Rattle.oe_engine.proofs.WrittenLemmas.{done_stays, part, records_more, records_stay, values_more}

module _ (p : PlanOf) (base first total done evaluations count : ℕ) (over : Option ℕ)
    (in_round : count ≡ min (2 * p.workers) (total - done)) (fits : evaluations ≤ last_count) where
  -- ---- what it reads

  pub reads_chunks : (rows after : List Row) (result : Result (Unit {0}) RunFail) (taken : ℕ) → taken ≡ count
      → HasRead p.graph (taken * (load_count p * largest_window p.graph p.size)) rows after result
      → ReadsPart (part p base first total done evaluations over) rows after
  reads_chunks rows after result taken same read = record {
    read = read.read;
    asked = subst (λ (n : ℕ). cells_asked after ≤ cells_asked rows + n * (load_count p * largest_window p.graph p.size)) (same ∙ in_round) read.asked;
  }

  -- ---- what it writes

  module _ (rows : List Row) (old : Option (List ℕ)) where
    pub writes_none : WritesPart (part p base first total done evaluations over) rows old (part p base first total done evaluations over) old
    writes_none = record {
      records = λ h. h;
      values = λ collections has shows h. h;
      changes = bytes_kept (IsRecordByte base (result_shape p) (IsInSome (chunks_from p (first + done) (min (2 * p.workers) (total - done))))) old;
    }

    module _ (is : IsPlan p) (new : Option (List ℕ)) (taken : ℕ) (same : taken ≡ count)
        (changes : ChangesOnly base (result_shape p) (IsInSome (chunks_from p (first + done) taken)) old new) where
      changes_are : ChangesOnly base (result_shape p) (IsInSome (chunks_from p (first + done) count)) old new
      changes_are = subst (λ (n : ℕ). ChangesOnly base (result_shape p) (IsInSome (chunks_from p (first + done) n)) old new) same changes

      changes_of_round : ChangesOnly base (result_shape p) (IsInSome (chunks_from p (first + done) (min (2 * p.workers) (total - done)))) old new
      changes_of_round = subst (λ (n : ℕ). ChangesOnly base (result_shape p) (IsInSome (chunks_from p (first + done) n)) old new) in_round changes_are

      pub writes_refused : WritesPart (part p base first total done evaluations over) rows old (part p base first total done (evaluated_after evaluations count) over) new
      writes_refused = record {
        records = records_stay p is base first total done evaluations (evaluated_after evaluations count) count over old new changes_are;
        values = λ collections has shows h.
            done_stays p is base first total done evaluations (evaluated_after evaluations count) count over old new changes_are
            (result_cube collections p) (result_shape_is p is collections has) h;
        changes = changes_of_round;
      }

      pub writes_done : (loaded benches : List BenchOf) → length benches ≡ count → EachBench (first + done) (LoadsBench p rows) loaded
          → ((collections : Collections) → AreCollectionsOf p.graph collections → EachBench (first + done) (IsLoaded p collections) loaded
          → EachBench (first + done) (IsDone p collections) benches)
          → EachBench (first + done) (IsAtDone p) benches → EachBench (first + done) (HasRecordsOf p new base) benches → EachBench (first + done) (HasValidCells p) benches
          → (least : Option ℕ) → IsLeastOf p (first + done) benches least
          → WritesPart (part p base first total done evaluations over) rows old
          (part p base first total (done + count) (evaluated_after evaluations count) (lesser_of over least)) new
      writes_done loaded benches many loads value each written valid least is_least = record {
        records = records_more p is base first total done evaluations (evaluated_after evaluations count) count over old new changes_are
            benches many written valid least is_least each;
        values = λ collections has shows h.
            values_more p is base first total done evaluations (evaluated_after evaluations count) count over old new changes_are
            benches many written valid least is_least collections has
            (value collections has (λ i b at. (loads i b at).loaded collections has shows)) h;
        changes = changes_of_round;
      }

-- ---- the benches of a run after some of them are written

each_behind : (p : PlanOf) (n : ℕ) (benches : List BenchOf) → All (IsBenchFor p) benches → All (IsBenchFor p) (drop n benches)
each_behind p zero benches each = each
each_behind p (suc n) [] each = λ k d h. absurd (omega arith)
each_behind p (suc n) (b ∷ benches) each = each_behind p n benches (λ k d h. each (suc k) d (omega arith))

pub front_long : (new old : List BenchOf) (count : ℕ) → length new ≡ count → count ≤ length old → length (new ++ drop count old) ≡ length old
front_long new old count many le = omega (arith, length-append new (drop count old), length-drop count old)

pub each_before : (p : PlanOf) (n : ℕ) (benches : List BenchOf) → All (IsBenchFor p) benches → All (IsBenchFor p) (take n benches)
each_before p zero benches each = λ k d h. absurd (omega arith)
each_before p (suc n) [] each = λ k d h. absurd (omega arith)
each_before p (suc n) (b ∷ benches) each =
    All-cons (IsBenchFor p) b (take n benches) (each 0 b (omega arith)) (each_before p n benches (λ k d h. each (suc k) d (omega arith)))

pub each_after : (p : PlanOf) (new old : List BenchOf) (count : ℕ) → All (IsBenchFor p) new → All (IsBenchFor p) old
    → All (IsBenchFor p) (new ++ drop count old)
each_after p new old count each others = All-append (IsBenchFor p) new (drop count old) each (each_behind p count old others)

-- each of some benches, one by one
pub each_done : (p : PlanOf) (first : ℕ) (benches : List BenchOf) → EachBench first (IsAtDone p) benches → All (IsBenchFor p) benches
each_done p first benches each k d h = (each k (get_or benches k d) (slice_get-get_or benches k d h)).bench
