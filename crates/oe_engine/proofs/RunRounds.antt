-- The rounds of a run, one after another.
use Rattle.std.proofs.Common.{◌≡◌, ℕ, zero, suc, ◌+◌, ◌-◌, ◌*◌, ◌<◌, ◌≤◌, min, List, Option, Some, None, Result, Ok, Err, refl, sym, ap, ◌∙◌, subst, arith, inl, inr, ◌⊎◌}
use Rattle.std.proofs.Math.Nat.{add-mul, mul-le-mul_right}
use Rattle.std.specs.Result.{IsErrOf}
use Rattle.oe_dims.specs.Positions.{IsPosition}
use Rattle.oe_outside.proofs.Causes.{NeverFalls-trans, then-Rose}
use Rattle.oe_outside.specs.Faults.{NeverFalls}
use Rattle.oe_plan.specs.Plans.{IsPlan, PlanOf}
use Rattle.oe_check.specs.Laws.{AreCollectionsOf}
use Rattle.oe_sources.specs.Catalogue.{Row, cells_asked}
use Rattle.oe_spool.specs.Spooled.{ChangesOnly, KeepsBytesBut}
use Rattle.oe_steps.specs.Collections.{AreRead, HasCollections, LoadRose, Shows}
use Rattle.oe_engine.specs.Going.{ChangesOwnRecords}
use Rattle.oe_engine.proofs.GoingLemmas.{runs_stay_apart}
use Rattle.oe_engine.proofs.LawLemmas.{begin_and_end, stay_after_reads}
use Rattle.oe_engine.specs.Rounds.{Advances, HasCauses, ReadsChunks, WritesChunks}
use Rattle.oe_steps.specs.Refusals.{RefusalSays, overflow_of}
use Rattle.oe_engine.specs.Runs.{HasDone, RunOf, chunk_total, chunks_in_round, result_cube, result_shape}
use Rattle.oe_engine.specs.declared.run.Progress.{Progress}
use Rattle.oe_engine.specs.declared.run.Progress.TheVariants.{Complete, More}
use Rattle.oe_steps.specs.declared.fail.RunFail.{RunFail}
use Rattle.oe_steps.specs.declared.fail.RunFail.TheVariants as run
use Rattle.oe_engine.specs.Evaluations.{Evaluates, GoesThrough, IsFirst, LeavesRun, ReadsForPlan, most_asked}
use Rattle.oe_engine.specs.Results.{IsVisible}

-- bytes that are visible stay so where only some of them change
pub still_visible : (touched : ℕ → Type 0) (old new : Option (List ℕ)) → KeepsBytesBut touched old new → IsVisible old → IsVisible new
still_visible touched None new kept visible = absurd visible
still_visible touched (Some bytes) None kept visible = absurd kept
still_visible touched (Some bytes) (Some more) kept visible = tt

-- a run after some turns of rounds, each of which made at least one chunk more
pub record Stands (before now : RunOf) (rows rows_now : List Row) (store store_now : Option (List ℕ))
    (faults faults_now turns : ℕ) : Type 0 where
  pub goes : LeavesRun before now rows rows_now store store_now
  pub asked : cells_asked rows_now ≤ cells_asked rows + now.done * most_asked before.plan
  pub count : NeverFalls faults faults_now
  pub turned : turns ≤ now.done

pub begun : (r : RunOf) (rows : List Row) (store : Option (List ℕ)) (faults : ℕ) → IsFirst r → NeverFalls faults faults
    → Stands r r rows rows store store faults faults 0
begun r rows store faults b never =
    let none = b.none_done in
    let start = begin_and_end.begun r b.none_done b.none_over store in
    record {
      goes = record {
        plan = refl;
        base = refl;
        within = omega arith;
        records = start.0;
        values = λ collections are shows. start.1 (result_cube collections r.plan);
        read = stay_after_reads.none rows;
        changes = runs_stay_apart.none r store;
        visible = λ v. v;
      };
      asked = omega arith;
      count = never;
      turned = omega arith;
    }

pub more_is_left : (progress : Progress) → progress ≡ More → ¬ (progress ≡ Complete)
more_is_left progress is all = let same : More ≡ Complete = sym is ∙ all in cc

-- what is mounted stays so
pub still_mounted : {before now : RunOf} {rows rows_now : List Row} {store store_now : Option (List ℕ)} {faults faults_now turns : ℕ}
    → Stands before now rows rows_now store store_now faults faults_now turns
    → HasCollections before.plan.graph rows → HasCollections now.plan.graph rows_now
still_mounted {before} {now} {rows} {rows_now} s mounted =
    subst (λ (p : PlanOf). HasCollections p.graph rows_now) (sym s.goes.plan)
    (stay_after_reads.mounted before.plan.graph rows rows_now s.goes.read mounted)

module _ (before now after : RunOf) (rows rows_now rows_after : List Row) (store store_now store_after : Option (List ℕ))
    (faults faults_now faults_after turns : ℕ) (is : IsPlan before.plan)
    (s : Stands before now rows rows_now store store_now faults faults_now turns) where
  abbrev total : ℕ
  total = chunk_total before.plan

  same_total : chunk_total now.plan ≡ total
  same_total = ap chunk_total s.goes.plan

  same_workers : now.plan.workers ≡ before.plan.workers
  same_workers = ap (λ (p : PlanOf). p.workers) s.goes.plan

  module _ (result : Result Progress RunFail) (advances : Advances now after result)
      (writes : WritesChunks now rows_now store_now after store_after) (round : ReadsChunks now rows_now rows_after) where
    read_all : AreRead rows rows_after
    read_all = stay_after_reads.both rows rows_now rows_after s.goes.read round.read

    round_changed : ChangesOwnRecords before store_now store_after
    round_changed =
        let own = runs_stay_apart.round now after rows_now store_now store_after (subst IsPlan (sym s.goes.plan) is) writes in
        subst (λ (base : ℕ). ChangesOnly base (result_shape before.plan) (IsPosition (result_shape before.plan)) store_now store_after) s.goes.base
        (subst (λ (p : PlanOf). ChangesOnly now.base (result_shape p) (IsPosition (result_shape p)) store_now store_after) s.goes.plan own)

    -- what goes on, whatever the round answered
    goes_on : after.done ≤ total → LeavesRun before after rows rows_after store store_after
    goes_on within = record {
      plan = advances.plan ∙ s.goes.plan;
      base = advances.base ∙ s.goes.base;
      within = within;
      records = writes.records s.goes.records;
      values = λ collections are shows.
          let same = s.goes.plan in
          let are_now : AreCollectionsOf now.plan.graph collections = subst (λ (p : PlanOf). AreCollectionsOf p.graph collections) (sym same) are in
          let shows_now : Shows now.plan.graph rows_now collections =
          subst (λ (p : PlanOf). Shows p.graph rows_now collections) (sym same)
          ((stay_after_reads.shows before.plan.graph rows rows_now s.goes.read collections).1 shows) in
          let had : HasDone now store_now (result_cube collections now.plan) =
          subst (λ (p : PlanOf). HasDone now store_now (result_cube collections p)) (sym same) (s.goes.values collections are shows) in
          subst (λ (p : PlanOf). HasDone after store_after (result_cube collections p)) same (writes.values collections are_now shows_now had);
      read = read_all;
      changes = runs_stay_apart.both before store store_now store_after s.goes.changes round_changed;
      visible = λ v. still_visible _ store_now store_after writes.changes (s.goes.visible v);
    }

    asked_by : cells_asked rows_after ≤ cells_asked rows_now + chunks_in_round now * most_asked before.plan
    asked_by = subst (λ (p : PlanOf). cells_asked rows_after ≤ cells_asked rows_now + chunks_in_round now * most_asked p) s.goes.plan round.asked

    asked_on : cells_asked rows_after ≤ cells_asked rows + (now.done + chunks_in_round now) * most_asked before.plan
    asked_on =
        let parts = add-mul now.done (chunks_in_round now) (most_asked before.plan) in
        let earlier = s.asked in
        let later = asked_by in
        omega (arith, parts, earlier, later)

    in_total : now.done + chunks_in_round now ≤ total
    in_total =
        let same = same_total in
        let within = s.goes.within in
        let taken : chunks_in_round now ≡ min (2 * now.plan.workers) (chunk_total now.plan - now.done) = refl in
        omega (arith, same, within, taken)

    read_for : ReadsForPlan before.plan rows rows_after
    read_for =
        let most = mul-le-mul_right (most_asked before.plan) in_total in
        let asked = asked_on in
        record { read = read_all; asked = omega (arith, most, asked) }

  -- ---- a round that is done

  module _ (progress : Progress) (advances : Advances now after (Ok progress))
      (writes : WritesChunks now rows_now store_now after store_after) (round : ReadsChunks now rows_now rows_after)
      (count : NeverFalls faults_now faults_after) where
    within : after.done ≤ total
    within =
        let done = advances.done in
        let most = in_total (Ok progress) advances writes round in
        omega (arith, done, most)

    -- and more are left
    pub one_more : ¬ (progress ≡ Complete) → Stands before after rows rows_after store store_after faults faults_after (turns + 1)
    one_more left = record {
      goes = goes_on (Ok progress) advances writes round within;
      asked = subst (λ (n : ℕ). cells_asked rows_after ≤ cells_asked rows + n * most_asked before.plan) (sym advances.done)
          (asked_on (Ok progress) advances writes round);
      count = NeverFalls-trans s.count count;
      turned = elim (some_left (total - now.done)) [
        | inl none ↦
            let all : after.done ≡ chunk_total now.plan =
            (let same = same_total in let most = s.goes.within in let done = advances.done in omega (arith, same, most, done, none)) in
            absurd (left (advances.complete.1 all))
        | inr some ↦
            let same = same_total in
            let done = advances.done in
            let turned = s.turned in
            let workers = is.ranges.least in
            let alike = same_workers in
            let taken : chunks_in_round now ≡ min (2 * now.plan.workers) (chunk_total now.plan - now.done) = refl in
            omega (arith, same, done, turned, workers, alike, some, taken)
      ];
    }
      where
        some_left : (n : ℕ) → (n ≡ 0) ⊎ (0 < n)
        some_left zero = inl refl
        some_left (suc n) = inr (omega arith)

    -- and none is
    pub last_one : progress ≡ Complete → GoesThrough before after rows rows_after store store_after faults faults_after (Ok tt)
    last_one all = record {
      goes = goes_on (Ok progress) advances writes round within;
      reads = read_for (Ok progress) advances writes round;
      done = advances.complete.0 all ∙ same_total;
      read_cause = λ e. cc;
      says = λ load number e. cc;
      spool_cause = record { count = NeverFalls-trans s.count count; failed = λ e. cc };
    }

  -- ---- a round that is refused

  pub refused : (refusal : RunFail) → Advances now after (Err refusal) → WritesChunks now rows_now store_now after store_after
      → ReadsChunks now rows_now rows_after → HasCauses now rows_now rows_after faults_now faults_after (Err refusal)
      → GoesThrough before after rows rows_after store store_after faults faults_after (Err refusal)
  refused refusal advances writes round causes =
      let stays : after.done ≡ now.done = advances.stands.0 in
      let within = s.goes.within in
      record {
        goes = goes_on (Err refusal) advances writes round (omega (arith, stays, within));
        reads = read_for (Err refusal) advances writes round;
        done = tt;
        read_cause = λ e. stay_after_reads.rose_later before.plan.graph rows rows_now rows_after s.goes.read
            (subst (λ (p : PlanOf). LoadRose p.graph rows_now rows_after) s.goes.plan (causes.read_cause (source_of refusal e)));
        says = λ load number e.
            let says : RefusalSays before.plan.graph rows refusal =
            stay_after_reads.says before.plan.graph rows rows_now s.goes.read refusal
            (subst (λ (p : PlanOf). RefusalSays p.graph rows_now refusal) s.goes.plan causes.says) in
            subst (RefusalSays before.plan.graph rows) (refusal_of refusal (run.SourceDamaged load number) e) says;
        spool_cause = record {
          count = NeverFalls-trans s.count causes.spool_cause.count;
          failed = λ e. then-Rose s.count (causes.spool_cause.failed (spool_of refusal e));
        };
      }
    where
      refusal_of : (a b : RunFail) → IsErrOf {T = Unit {0}} (Err a) b → a ≡ b
      refusal_of a b e = cc

      source_of : (a : RunFail) → IsErrOf {T = Unit {0}} (Err a) run.SourceFailed → IsErrOf {T = Progress} (Err a) run.SourceFailed
      source_of a e = let of : RunFail → Result Progress RunFail = λ r. Err r in ap of (refusal_of a run.SourceFailed e)

      spool_of : (a : RunFail) → IsErrOf {T = Unit {0}} (Err a) run.SpoolFailed → IsErrOf {T = Progress} (Err a) run.SpoolFailed
      spool_of a e = let of : RunFail → Result Progress RunFail = λ r. Err r in ap of (refusal_of a run.SpoolFailed e)

-- after as many turns as there are chunks all are done
pub all_done : (before now : RunOf) (rows rows_now : List Row) (store store_now : Option (List ℕ)) (faults faults_now turns : ℕ)
    → Stands before now rows rows_now store store_now faults faults_now turns → chunk_total before.plan ≤ turns
    → GoesThrough before now rows rows_now store store_now faults faults_now (Ok tt)
all_done before now rows rows_now store store_now faults faults_now turns s enough =
    let within = s.goes.within in
    let turned = s.turned in
    let asked = s.asked in
    let most = mul-le-mul_right (most_asked before.plan) s.goes.within in
    record {
      goes = s.goes;
      reads = record { read = s.goes.read; asked = omega (arith, most, asked) };
      done = omega (arith, within, turned, enough);
      read_cause = λ e. cc;
      says = λ load number e. cc;
      spool_cause = record { count = s.count; failed = λ e. cc };
    }

-- ---- the look for a cell that is Over

module _ (before now : RunOf) (rows rows_now : List Row) (store store_now : Option (List ℕ)) (faults faults_now : ℕ) where
  pub stopped : (refusal : RunFail) → ¬ ((number : ℕ) × (refusal ≡ run.Overflow number))
      → GoesThrough before now rows rows_now store store_now faults faults_now (Err refusal)
      → Evaluates before now rows rows_now store store_now faults faults_now (Err refusal)
  stopped refusal other through = record {
    through = through;
    numbers = tt;
    overflow = λ number e. absurd (other (number, cc));
  }

  pub finished : GoesThrough before now rows rows_now store store_now faults faults_now (Ok tt)
      → Evaluates before now rows rows_now store store_now faults faults_now (overflow_of now.over)
  finished through = by now.over refl
    where
      by : (over : Option ℕ) → now.over ≡ over → Evaluates before now rows rows_now store store_now faults faults_now (overflow_of over)
      by None e = record { through = through; numbers = e; overflow = λ number is. cc }
      by (Some found) e = record {
        through = record {
          goes = through.goes;
          reads = through.reads;
          done = tt;
          read_cause = λ is. cc;
          says = λ load number is. cc;
          spool_cause = record { count = through.spool_cause.count; failed = λ is. cc };
        };
        numbers = tt;
        overflow = λ number is. (through.done, e ∙ ap Some (found_is number is));
      }
        where
          found_is : (number : ℕ) → IsErrOf {T = Unit {0}} (Err (run.Overflow found)) (run.Overflow number) → found ≡ number
          found_is number is = cc
