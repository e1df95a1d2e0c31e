-- What a round of a run changes that takes a chunk: evaluating is refused, writing is refused, or it is done.
use Rattle.std.proofs.Common.{◌≡◌, ◌↔◌, ℕ, ◌+◌, ◌-◌, ◌*◌, ◌<◌, ◌≤◌, min, List, length, Option, Result, Ok, Err, refl, sym, ap, subst, arith}
use Rattle.std.specs.Result.{IsErrAnd}
use Rattle.oe_cell.specs.declared.cell.Cell.{Cell}
use Rattle.oe_cell.specs.declared.cell.Cell.TheVariants.{Empty}
use Rattle.oe_outside.proofs.Causes.{NeverFalls-refl}
use Rattle.oe_outside.specs.Faults.{HasCauseOf}
use Rattle.oe_meanings.specs.Graphs.{Collections}
use Rattle.oe_check.specs.Laws.{AreCollectionsOf}
use Rattle.oe_sources.specs.Catalogue.{Row, cells_asked}
use Rattle.oe_spool.specs.Least.{lesser_of}
use Rattle.oe_spool.specs.Spooled.{ChangesOnly, IsInSome, IsRecordByte}
use Rattle.oe_spool.proofs.KeptLemmas.{bytes_kept}
use Rattle.oe_steps.specs.Collections.{Shows}
use Rattle.oe_steps.specs.Loads.{HasRead}
use Rattle.oe_steps.specs.Refusals.{IsOfSource, RefusalSays}
use Rattle.oe_steps.specs.declared.fail.RunFail.{RunFail}
use Rattle.oe_steps.specs.declared.fail.RunFail.TheVariants.{SourceFailed, SpoolFailed}
use Rattle.oe_window.specs.Cells.{cells_on}
use Rattle.oe_window.specs.Windows.{IsIn, position_count}
use Rattle.oe_slab.specs.Plans.{IsSlabPlan, SlabPlanOf, most_asked}
use Rattle.oe_slab.specs.Results.{AreWritten}
use Rattle.oe_slab.specs.Rounds.{Advances, HasCauses, ReadsChunk, WritesChunk}
use Rattle.oe_slab.specs.Runs.{chunk_of, chunk_total, chunks_from, result_cube, result_shape}
use Rattle.oe_slab.specs.declared.slab_run.SlabProgress.{SlabProgress}
use Rattle.oe_slab.specs.declared.slab_run.SlabProgress.TheVariants.{Complete}
use Rattle.oe_slab.proofs.RenderLemmas.{result_shape_is}
use Rattle.oe_slab.proofs.WrittenLemmas.{changes, done_more, done_stays, records_more, records_stay, run}

module _ (p : SlabPlanOf) (base done : ℕ) (over : Option ℕ) where
  -- ---- how far the run is

  pub advances_done : (progress : SlabProgress) (least : Option ℕ) → 0 < chunk_total p - done
      → (progress ≡ Complete) ↔ (chunk_total p - done ≡ 1)
      → Advances (run p base done over) (run p base (done + 1) least) (Ok progress)
  advances_done progress least some last = record {
    plan = refl;
    base = refl;
    done = omega (arith, some);
    complete = (λ e. (let one = last.0 e in omega (arith, one)), λ e. last.1 (omega (arith, e, some)));
    stands = tt;
  }

  -- ---- why it is refused

  abbrev pub as_read : RunFail → Result (Unit {0}) RunFail
  as_read fail = Err fail

  causes_by : (rows after : List Row) (faults faults_after : ℕ) (fail : RunFail) (result : Result SlabProgress RunFail)
      → IsErrAnd result (λ e. e ≡ fail) → HasCauses (run p base done over) rows after faults faults_after (Err fail)
      → HasCauses (run p base done over) rows after faults faults_after result
  causes_by rows after faults faults_after fail (Ok progress) is h = absurd is
  causes_by rows after faults faults_after fail (Err e) is h =
      subst (λ (x : RunFail). HasCauses (run p base done over) rows after faults faults_after (Err x)) (sym is) h

  pub causes_read : (rows after : List Row) (faults most : ℕ) (fail : RunFail) (result : Result SlabProgress RunFail)
      → IsErrAnd result (λ e. e ≡ fail) → HasRead p.graph most rows after (Err fail)
      → HasCauses (run p base done over) rows after faults faults result
  causes_read rows after faults most fail result is read = causes_by rows after faults faults fail result is (record {
    read_cause = λ e. (let same : fail ≡ SourceFailed = cc in read.cause (ap as_read same));
    says = read.says.1;
    spool_cause = record {
      count = NeverFalls-refl faults;
      failed = λ e. (let same : fail ≡ SpoolFailed = cc in absurd (subst IsOfSource same read.says.0));
    };
  })

  abbrev pub as_written : RunFail → Result (Option ℕ) RunFail
  as_written fail = Err fail

  pub causes_spool : (rows after : List Row) (faults faults_after : ℕ) (fail : RunFail) (result : Result SlabProgress RunFail)
      → IsErrAnd result (λ e. e ≡ fail) → fail ≡ SpoolFailed → HasCauseOf SpoolFailed faults faults_after (as_written fail)
      → HasCauses (run p base done over) rows after faults faults_after result
  causes_spool rows after faults faults_after fail result by is cause = causes_by rows after faults faults_after fail result by (record {
    read_cause = λ e. (let same : fail ≡ SourceFailed = cc in absurd cc);
    says = subst (RefusalSays p.graph rows) (sym is) tt;
    spool_cause = record { count = cause.count; failed = λ e. cause.failed (ap as_written is) };
  })

  -- ---- what it reads

  pub reads_one : (rows after : List Row) (result : Result (Unit {0}) RunFail) → 1 ≡ min 1 (chunk_total p - done)
      → HasRead p.graph (most_asked p) rows after result → ReadsChunk (run p base done over) rows after
  reads_one rows after result one read = record {
    read = read.read;
    asked = subst (λ (n : ℕ). cells_asked after ≤ cells_asked rows + n * most_asked p) one
        (let most = read.asked in omega (arith, most));
  }

  -- ---- what it writes

  pub writes_none : (rows : List Row) (old : Option (List ℕ)) → WritesChunk (run p base done over) rows old (run p base done over) old
  writes_none rows old = record {
    records = λ h. h;
    values = λ collections has shows h. h;
    changes = bytes_kept (IsRecordByte base (result_shape p) (IsInSome (chunks_from p done (min 1 (chunk_total p - done))))) old;
  }

  module _ (rows : List Row) (old : Option (List ℕ)) where
    module _ (is : IsSlabPlan p) (one : 1 ≡ min 1 (chunk_total p - done)) (new : Option (List ℕ))
        (changed : ChangesOnly base (result_shape p) (IsIn (chunk_of p done)) old new) where
      changes_of_round : ChangesOnly base (result_shape p) (IsInSome (chunks_from p done (min 1 (chunk_total p - done)))) old new
      changes_of_round =
          subst (λ (n : ℕ). ChangesOnly base (result_shape p) (IsInSome (chunks_from p done n)) old new) one
          (changes p is base done over old new changed)

      pub writes_refused : WritesChunk (run p base done over) rows old (run p base done over) new
      writes_refused = record {
        records = records_stay p is base done over old new changed;
        values = λ collections has shows h.
            done_stays p is base done over old new changed (result_cube collections p) (result_shape_is p is collections has) h;
        changes = changes_of_round;
      }

      pub writes_done : (cells : List Cell) → length cells ≡ position_count (chunk_of p done) → (least : Option ℕ)
          → AreWritten (result_shape p) new base (chunk_of p done) cells least
          → ((collections : Collections) → AreCollectionsOf p.graph collections → Shows p.graph rows collections
          → cells_on Empty (result_cube collections p) (chunk_of p done) ≡ cells)
          → WritesChunk (run p base done over) rows old (run p base (done + 1) (lesser_of over least)) new
      writes_done cells counted least written value = record {
        records = records_more p is base done over old new changed cells counted least written;
        values = λ collections has shows h.
            done_more p is base done over old new changed cells counted least written (result_cube collections p)
            (result_shape_is p is collections has) (value collections has shows) h;
        changes = changes_of_round;
      }
