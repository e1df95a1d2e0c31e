-- The rounds of a part of a run, one after another.
use Rattle.std.proofs.Common.{◌≡◌, ℕ, zero, suc, ◌+◌, ◌-◌, ◌*◌, ◌<◌, ◌≤◌, min, List, Option, Result, Ok, Err, refl, sym, ap, ◌∙◌, subst, arith, inl, inr, ◌⊎◌}
use Rattle.std.proofs.Math.Nat.{add-mul, mul-le-mul_right}
use Rattle.std.specs.Result.{IsErrOf}
use Rattle.oe_outside.proofs.Causes.{NeverFalls-trans, then-Rose}
use Rattle.oe_outside.specs.Faults.{NeverFalls}
use Rattle.oe_plan.specs.Plans.{IsPlan, PlanOf}
use Rattle.oe_check.specs.Laws.{AreCollectionsOf}
use Rattle.oe_sources.specs.Catalogue.{Row, cells_asked}
use Rattle.oe_steps.specs.Collections.{AreRead, HasCollections, LoadRose, Shows}
use Rattle.oe_steps.specs.Refusals.{RefusalSays}
use Rattle.oe_steps.specs.declared.fail.RunFail.{RunFail}
use Rattle.oe_steps.specs.declared.fail.RunFail.TheVariants as run
use Rattle.oe_engine.specs.Laws.{StayAfterReads}
use Rattle.oe_engine.specs.Parts.{AdvancesPart, HasPartCauses, HasPartDone, ReadsPart, WritesPart, chunks_done, in_round}
use Rattle.oe_engine.specs.Runs.{PartRunOf, chunks_from, result_cube}
use Rattle.oe_engine.specs.declared.run.Progress.{Progress}
use Rattle.oe_engine.specs.declared.run.Progress.TheVariants.{Complete}
use Rattle.oe_engine.specs.Evaluations.{most_asked}
use Rattle.oe_engine.proofs.RunRounds.{still_visible}
use Rattle.oe_spool.specs.Least.{IsLeastOver}
use Rattle.oe_spool.specs.Spooled.{IsInSome}
use Rattle.oe_cell.specs.declared.cell.Cell.{Cell}
use Rattle.oe_dims.specs.Cube.{Cube}
use Rattle.oe_dims.specs.Positions.{Position}
use Rattle.oe_top.specs.PartEvaluated.{GoesInPart, GoesThroughPart, IsPartBegun, ReadsForPart}

-- a part after some turns of rounds, each of which made at least one chunk more
pub record StandsInPart (before now : PartRunOf) (rows rows_now : List Row) (store store_now : Option (List ℕ))
    (faults faults_now turns : ℕ) : Type 0 where
  pub goes : GoesInPart before now rows rows_now store store_now
  pub asked : cells_asked rows_now ≤ cells_asked rows + now.done * most_asked before.plan
  pub count : NeverFalls faults faults_now
  pub turned : turns ≤ now.done

-- nothing is done of a part before its first round
module _ (r : PartRunOf) (b : IsPartBegun r) where
  no_chunk : (q : Position) → IsInSome (chunks_done r) q → ⊥
  no_chunk q h = subst (λ (n : ℕ). IsInSome (chunks_from r.plan r.first n) q) b.none_done h

  none_done : (store : Option (List ℕ)) (cube : Cube Cell) → HasPartDone r store cube
  none_done store cube = record {
    records = λ q h. absurd (no_chunk q h);
    valid = λ q h. absurd (no_chunk q h);
    least = subst (IsLeastOver cube (IsInSome (chunks_done r))) (sym b.none_over) (λ q h. absurd (no_chunk q h));
  }

  pub part_begun : (rows : List Row) (store : Option (List ℕ)) (faults : ℕ) → StayAfterReads → NeverFalls faults faults
      → StandsInPart r r rows rows store store faults faults 0
  part_begun rows store faults reads never =
      let none = b.none_done in
      record {
        goes = record {
          plan = refl;
          base = refl;
          first = refl;
          count = refl;
          within = omega (arith, none);
          records = λ q h. absurd (no_chunk q h);
          values = λ collections are shows. none_done store (result_cube collections r.plan);
          read = reads.none rows;
          visible = λ v. v;
        };
        asked = omega arith;
        count = never;
        turned = omega arith;
      }

-- what is mounted stays so
pub mounted_in_part : {before now : PartRunOf} {rows rows_now : List Row} {store store_now : Option (List ℕ)} {faults faults_now turns : ℕ}
    → StayAfterReads → StandsInPart before now rows rows_now store store_now faults faults_now turns
    → HasCollections before.plan.graph rows → HasCollections now.plan.graph rows_now
mounted_in_part {before} {now} {rows} {rows_now} reads s mounted =
    subst (λ (p : PlanOf). HasCollections p.graph rows_now) (sym s.goes.plan)
    (reads.mounted before.plan.graph rows rows_now s.goes.read mounted)

module _ (before now after : PartRunOf) (rows rows_now rows_after : List Row) (store store_now store_after : Option (List ℕ))
    (faults faults_now faults_after turns : ℕ) (is : IsPlan before.plan) (reads : StayAfterReads)
    (s : StandsInPart before now rows rows_now store store_now faults faults_now turns) where
  same_workers : now.plan.workers ≡ before.plan.workers
  same_workers = ap (λ (p : PlanOf). p.workers) s.goes.plan

  module _ (result : Result Progress RunFail) (advances : AdvancesPart now after result)
      (writes : WritesPart now rows_now store_now after store_after) (round : ReadsPart now rows_now rows_after) where
    read_all : AreRead rows rows_after
    read_all = reads.both rows rows_now rows_after s.goes.read round.read

    -- what goes on, whatever the round answered
    goes_on : after.done ≤ before.count → GoesInPart before after rows rows_after store store_after
    goes_on within = record {
      plan = advances.plan ∙ s.goes.plan;
      base = advances.base ∙ s.goes.base;
      first = advances.first ∙ s.goes.first;
      count = advances.count ∙ s.goes.count;
      within = within;
      records = writes.records s.goes.records;
      values = λ collections are shows.
          let same = s.goes.plan in
          let are_now : AreCollectionsOf now.plan.graph collections = subst (λ (p : PlanOf). AreCollectionsOf p.graph collections) (sym same) are in
          let shows_now : Shows now.plan.graph rows_now collections =
          subst (λ (p : PlanOf). Shows p.graph rows_now collections) (sym same)
          ((reads.shows before.plan.graph rows rows_now s.goes.read collections).1 shows) in
          let had : HasPartDone now store_now (result_cube collections now.plan) =
          subst (λ (p : PlanOf). HasPartDone now store_now (result_cube collections p)) (sym same) (s.goes.values collections are shows) in
          subst (λ (p : PlanOf). HasPartDone after store_after (result_cube collections p)) same (writes.values collections are_now shows_now had);
      read = read_all;
      visible = λ v. still_visible _ store_now store_after writes.changes (s.goes.visible v);
    }

    asked_by : cells_asked rows_after ≤ cells_asked rows_now + in_round now * most_asked before.plan
    asked_by = subst (λ (p : PlanOf). cells_asked rows_after ≤ cells_asked rows_now + in_round now * most_asked p) s.goes.plan round.asked

    asked_on : cells_asked rows_after ≤ cells_asked rows + (now.done + in_round now) * most_asked before.plan
    asked_on =
        let parts = add-mul now.done (in_round now) (most_asked before.plan) in
        let earlier = s.asked in
        let later = asked_by in
        omega (arith, parts, earlier, later)

    in_count : now.done + in_round now ≤ before.count
    in_count =
        let same = s.goes.count in
        let within = s.goes.within in
        let taken : in_round now ≡ min (2 * now.plan.workers) (now.count - now.done) = refl in
        omega (arith, same, within, taken)

    read_for : ReadsForPart before rows rows_after
    read_for =
        let most = mul-le-mul_right (most_asked before.plan) in_count in
        let asked = asked_on in
        record { read = read_all; asked = omega (arith, most, asked) }

  -- ---- a round that is done

  module _ (progress : Progress) (advances : AdvancesPart now after (Ok progress))
      (writes : WritesPart now rows_now store_now after store_after) (round : ReadsPart now rows_now rows_after)
      (count : NeverFalls faults_now faults_after) where
    within : after.done ≤ before.count
    within =
        let done = advances.done in
        let most = in_count (Ok progress) advances writes round in
        omega (arith, done, most)

    -- and more are left
    pub one_more_of_part : ¬ (progress ≡ Complete) → StandsInPart before after rows rows_after store store_after faults faults_after (turns + 1)
    one_more_of_part left = record {
      goes = goes_on (Ok progress) advances writes round within;
      asked = subst (λ (n : ℕ). cells_asked rows_after ≤ cells_asked rows + n * most_asked before.plan) (sym advances.done)
          (asked_on (Ok progress) advances writes round);
      count = NeverFalls-trans s.count count;
      turned = elim (some_left (before.count - now.done)) [
        | inl none ↦
            let all : after.done ≡ now.count =
            (let same = s.goes.count in let most = s.goes.within in let done = advances.done in omega (arith, same, most, done, none)) in
            absurd (left (advances.complete.1 all))
        | inr some ↦
            let same = s.goes.count in
            let done = advances.done in
            let turned = s.turned in
            let workers = is.ranges.least in
            let alike = same_workers in
            let taken : in_round now ≡ min (2 * now.plan.workers) (now.count - now.done) = refl in
            omega (arith, same, done, turned, workers, alike, some, taken)
      ];
    }
      where
        some_left : (n : ℕ) → (n ≡ 0) ⊎ (0 < n)
        some_left zero = inl refl
        some_left (suc n) = inr (omega arith)

    -- and none is
    pub last_of_part : progress ≡ Complete → GoesThroughPart before after rows rows_after store store_after faults faults_after (Ok tt)
    last_of_part all = record {
      goes = goes_on (Ok progress) advances writes round within;
      reads = read_for (Ok progress) advances writes round;
      done = advances.complete.0 all ∙ s.goes.count;
      read_cause = λ e. cc;
      says = λ load number e. cc;
      spool_cause = record { count = NeverFalls-trans s.count count; failed = λ e. cc };
    }

  -- ---- a round that is refused

  pub part_refused : (refusal : RunFail) → AdvancesPart now after (Err refusal) → WritesPart now rows_now store_now after store_after
      → ReadsPart now rows_now rows_after → HasPartCauses now rows_now rows_after faults_now faults_after (Err refusal)
      → GoesThroughPart before after rows rows_after store store_after faults faults_after (Err refusal)
  part_refused refusal advances writes round causes =
      let stays : after.done ≡ now.done = advances.stands.0 in
      let within = s.goes.within in
      record {
        goes = goes_on (Err refusal) advances writes round (omega (arith, stays, within));
        reads = read_for (Err refusal) advances writes round;
        done = tt;
        read_cause = λ e. reads.rose_later before.plan.graph rows rows_now rows_after s.goes.read
            (subst (λ (p : PlanOf). LoadRose p.graph rows_now rows_after) s.goes.plan (causes.read_cause (source_of refusal e)));
        says = λ load number e.
            let says : RefusalSays before.plan.graph rows refusal =
            reads.says before.plan.graph rows rows_now s.goes.read refusal
            (subst (λ (p : PlanOf). RefusalSays p.graph rows_now refusal) s.goes.plan causes.says) in
            subst (RefusalSays before.plan.graph rows) (refusal_of refusal (run.SourceDamaged load number) e) says;
        spool_cause = record {
          count = NeverFalls-trans s.count causes.spool_cause.count;
          failed = λ e. then-Rose s.count (causes.spool_cause.failed (spool_of refusal e));
        };
      }
    where
      refusal_of : (a b : RunFail) → IsErrOf {T = Unit {0}} (Err a) b → a ≡ b
      refusal_of a b e = cc

      source_of : (a : RunFail) → IsErrOf {T = Unit {0}} (Err a) run.SourceFailed → IsErrOf {T = Progress} (Err a) run.SourceFailed
      source_of a e = let of : RunFail → Result Progress RunFail = λ r. Err r in ap of (refusal_of a run.SourceFailed e)

      spool_of : (a : RunFail) → IsErrOf {T = Unit {0}} (Err a) run.SpoolFailed → IsErrOf {T = Progress} (Err a) run.SpoolFailed
      spool_of a e = let of : RunFail → Result Progress RunFail = λ r. Err r in ap of (refusal_of a run.SpoolFailed e)

-- after as many turns as it has chunks all are done
pub all_of_part : (before now : PartRunOf) (rows rows_now : List Row) (store store_now : Option (List ℕ)) (faults faults_now turns : ℕ)
    → StandsInPart before now rows rows_now store store_now faults faults_now turns → before.count ≤ turns
    → GoesThroughPart before now rows rows_now store store_now faults faults_now (Ok tt)
all_of_part before now rows rows_now store store_now faults faults_now turns s enough =
    let within = s.goes.within in
    let turned = s.turned in
    let asked = s.asked in
    let most = mul-le-mul_right (most_asked before.plan) s.goes.within in
    record {
      goes = s.goes;
      reads = record { read = s.goes.read; asked = omega (arith, most, asked) };
      done = omega (arith, within, turned, enough);
      read_cause = λ e. cc;
      says = λ load number e. cc;
      spool_cause = record { count = s.count; failed = λ e. cc };
    }
