-- The rounds of a run that is folded slab by slab, one after another.
use Rattle.std.proofs.Common.{◌≡◌, ℕ, ◌+◌, ◌-◌, ◌*◌, ◌<◌, ◌≤◌, min, List, Option, Some, None, Result, Ok, Err, refl, sym, ap, ◌∙◌, subst, arith}
use Rattle.std.proofs.Math.Nat.{add-mul, mul-le-mul_right}
use Rattle.std.specs.Result.{IsErrOf}
use Rattle.oe_engine.specs.Laws.{StayAfterReads}
use Rattle.oe_engine.proofs.RunRounds.{still_visible}
use Rattle.oe_outside.proofs.Causes.{NeverFalls-trans, then-Rose}
use Rattle.oe_outside.specs.Faults.{NeverFalls}
use Rattle.oe_check.specs.Laws.{AreCollectionsOf}
use Rattle.oe_slab.specs.Laws.{BeginAndEnd}
use Rattle.oe_slab.specs.Plans.{SlabPlanOf, most_asked}
use Rattle.oe_slab.specs.Rounds.{Advances, HasCauses, ReadsChunk, WritesChunk}
use Rattle.oe_slab.specs.Runs.{HasDone, SlabRunOf, chunk_total, chunks_in_round, result_cube}
use Rattle.oe_slab.specs.declared.slab_run.SlabProgress.{SlabProgress}
use Rattle.oe_sources.specs.Catalogue.{Row, cells_asked}
use Rattle.oe_steps.specs.Collections.{AreRead, HasCollections, LoadRose, Shows}
use Rattle.oe_steps.specs.Refusals.{RefusalSays, overflow_of}
use Rattle.oe_steps.specs.declared.fail.RunFail.{RunFail}
use Rattle.oe_steps.specs.declared.fail.RunFail.TheVariants as run
use Rattle.oe_top.specs.SlabEvaluated.{CompletesSlabs, FoldsThrough, GoesBySlabs, IsSlabBegun, ReadsForSlabPlan}

-- a run after so many rounds, each of which made one chunk
pub record StandsBySlabs (before now : SlabRunOf) (rows rows_now : List Row) (store store_now : Option (List ℕ))
    (faults faults_now turns : ℕ) : Type 0 where
  pub goes : GoesBySlabs before now rows rows_now store store_now
  pub asked : cells_asked rows_now ≤ cells_asked rows + now.done * most_asked before.plan
  pub count : NeverFalls faults faults_now
  pub turned : now.done ≡ turns

pub begun_by_slabs : (r : SlabRunOf) (rows : List Row) (store : Option (List ℕ)) (faults : ℕ) → IsSlabBegun r → StayAfterReads
    → BeginAndEnd → NeverFalls faults faults → StandsBySlabs r r rows rows store store faults faults 0
begun_by_slabs r rows store faults b reads ends never =
    let none = b.none_done in
    let start = ends.begun r b.none_done b.none_over store in
    record {
      goes = record {
        plan = refl;
        within = omega arith;
        records = start.0;
        values = λ collections are shows. start.1 (result_cube collections r.plan);
        read = reads.none rows;
        visible = λ v. v;
      };
      asked = omega arith;
      count = never;
      turned = none;
    }

-- what is mounted stays so
pub mounted_by_slabs : {before now : SlabRunOf} {rows rows_now : List Row} {store store_now : Option (List ℕ)} {faults faults_now turns : ℕ}
    → StayAfterReads → StandsBySlabs before now rows rows_now store store_now faults faults_now turns
    → HasCollections before.plan.graph rows → HasCollections now.plan.graph rows_now
mounted_by_slabs {before} {now} {rows} {rows_now} reads s mounted =
    subst (λ (p : SlabPlanOf). HasCollections p.graph rows_now) (sym s.goes.plan)
    (reads.mounted before.plan.graph rows rows_now s.goes.read mounted)

module _ (before now after : SlabRunOf) (rows rows_now rows_after : List Row) (store store_now store_after : Option (List ℕ))
    (faults faults_now faults_after turns : ℕ) (reads : StayAfterReads)
    (s : StandsBySlabs before now rows rows_now store store_now faults faults_now turns) where
  abbrev total : ℕ
  total = chunk_total before.plan

  same_total : chunk_total now.plan ≡ total
  same_total = ap chunk_total s.goes.plan

  module _ (result : Result SlabProgress RunFail) (advances : Advances now after result)
      (writes : WritesChunk now rows_now store_now after store_after) (round : ReadsChunk now rows_now rows_after) where
    read_all : AreRead rows rows_after
    read_all = reads.both rows rows_now rows_after s.goes.read round.read

    -- what goes on, whatever the round answered
    goes_on : after.done ≤ total → GoesBySlabs before after rows rows_after store store_after
    goes_on within = record {
      plan = advances.plan ∙ s.goes.plan;
      within = within;
      records = writes.records s.goes.records;
      values = λ collections are shows.
          let same = s.goes.plan in
          let are_now : AreCollectionsOf now.plan.graph collections = subst (λ (p : SlabPlanOf). AreCollectionsOf p.graph collections) (sym same) are in
          let shows_now : Shows now.plan.graph rows_now collections =
          subst (λ (p : SlabPlanOf). Shows p.graph rows_now collections) (sym same)
          ((reads.shows before.plan.graph rows rows_now s.goes.read collections).1 shows) in
          let had : HasDone now store_now (result_cube collections now.plan) =
          subst (λ (p : SlabPlanOf). HasDone now store_now (result_cube collections p)) (sym same) (s.goes.values collections are shows) in
          subst (λ (p : SlabPlanOf). HasDone after store_after (result_cube collections p)) same (writes.values collections are_now shows_now had);
      read = read_all;
      visible = λ v. still_visible _ store_now store_after writes.changes (s.goes.visible v);
    }

    asked_by : cells_asked rows_after ≤ cells_asked rows_now + chunks_in_round now * most_asked before.plan
    asked_by = subst (λ (p : SlabPlanOf). cells_asked rows_after ≤ cells_asked rows_now + chunks_in_round now * most_asked p) s.goes.plan round.asked

    asked_on : cells_asked rows_after ≤ cells_asked rows + (now.done + chunks_in_round now) * most_asked before.plan
    asked_on =
        let parts = add-mul now.done (chunks_in_round now) (most_asked before.plan) in
        let earlier = s.asked in
        let later = asked_by in
        omega (arith, parts, earlier, later)

    in_total : now.done + chunks_in_round now ≤ total
    in_total =
        let same = same_total in
        let within = s.goes.within in
        let taken : chunks_in_round now ≡ min 1 (chunk_total now.plan - now.done) = refl in
        omega (arith, same, within, taken)

    read_for : ReadsForSlabPlan before.plan rows rows_after
    read_for =
        let most = mul-le-mul_right (most_asked before.plan) in_total in
        let asked = asked_on in
        record { read = read_all; asked = omega (arith, most, asked) }

  -- ---- a round that is done

  pub one_more_slab : (progress : SlabProgress) → Advances now after (Ok progress)
      → WritesChunk now rows_now store_now after store_after → ReadsChunk now rows_now rows_after
      → NeverFalls faults_now faults_after → turns < total
      → StandsBySlabs before after rows rows_after store store_after faults faults_after (turns + 1)
  one_more_slab progress advances writes round count left =
      let done = advances.done in
      let turned = s.turned in
      let same = same_total in
      let taken : chunks_in_round now ≡ min 1 (chunk_total now.plan - now.done) = refl in
      let one : after.done ≡ turns + 1 = omega (arith, done, turned, same, taken, left) in
      record {
        goes = goes_on (Ok progress) advances writes round (omega (arith, one, left));
        asked = subst (λ (n : ℕ). cells_asked rows_after ≤ cells_asked rows + n * most_asked before.plan) (sym advances.done)
            (asked_on (Ok progress) advances writes round);
        count = NeverFalls-trans s.count count;
        turned = one;
      }

  -- ---- a round that is refused

  pub refused_by_slabs : (refusal : RunFail) → Advances now after (Err refusal)
      → WritesChunk now rows_now store_now after store_after → ReadsChunk now rows_now rows_after
      → HasCauses now rows_now rows_after faults_now faults_after (Err refusal)
      → FoldsThrough before after rows rows_after store store_after faults faults_after (Err refusal)
  refused_by_slabs refusal advances writes round causes =
      let stays : after.done ≡ now.done = advances.stands.0 in
      let within = s.goes.within in
      record {
        goes = goes_on (Err refusal) advances writes round (omega (arith, stays, within));
        reads = read_for (Err refusal) advances writes round;
        done = tt;
        read_cause = λ e. reads.rose_later before.plan.graph rows rows_now rows_after s.goes.read
            (subst (λ (p : SlabPlanOf). LoadRose p.graph rows_now rows_after) s.goes.plan (causes.read_cause (source_of refusal e)));
        says = λ load number e.
            let says : RefusalSays before.plan.graph rows refusal =
            reads.says before.plan.graph rows rows_now s.goes.read refusal
            (subst (λ (p : SlabPlanOf). RefusalSays p.graph rows_now refusal) s.goes.plan causes.says) in
            subst (RefusalSays before.plan.graph rows) (refusal_of refusal (run.SourceDamaged load number) e) says;
        spool_cause = record {
          count = NeverFalls-trans s.count causes.spool_cause.count;
          failed = λ e. then-Rose s.count (causes.spool_cause.failed (spool_of refusal e));
        };
      }
    where
      refusal_of : (a b : RunFail) → IsErrOf {T = Unit {0}} (Err a) b → a ≡ b
      refusal_of a b e = cc

      source_of : (a : RunFail) → IsErrOf {T = Unit {0}} (Err a) run.SourceFailed → IsErrOf {T = SlabProgress} (Err a) run.SourceFailed
      source_of a e = let of : RunFail → Result SlabProgress RunFail = λ r. Err r in ap of (refusal_of a run.SourceFailed e)

      spool_of : (a : RunFail) → IsErrOf {T = Unit {0}} (Err a) run.SpoolFailed → IsErrOf {T = SlabProgress} (Err a) run.SpoolFailed
      spool_of a e = let of : RunFail → Result SlabProgress RunFail = λ r. Err r in ap of (refusal_of a run.SpoolFailed e)

-- no refusal of a round is an overflow
pub no_overflow_says : (now : SlabRunOf) (rows rows_after : List Row) (faults faults_after : ℕ) (refusal : RunFail)
    → HasCauses now rows rows_after faults faults_after (Err refusal)
    → (number : ℕ) → ¬ IsErrOf {T = Unit {0}} (Err refusal) (run.Overflow number)
no_overflow_says now rows rows_after faults faults_after refusal causes number e =
    let same : refusal ≡ run.Overflow number = cc in
    subst (RefusalSays now.plan.graph rows) same causes.says

-- after as many rounds as there are chunks all are done
pub all_folded : (before now : SlabRunOf) (rows rows_now : List Row) (store store_now : Option (List ℕ)) (faults faults_now turns : ℕ)
    → StandsBySlabs before now rows rows_now store store_now faults faults_now turns → turns ≡ chunk_total before.plan
    → FoldsThrough before now rows rows_now store store_now faults faults_now (Ok tt)
all_folded before now rows rows_now store store_now faults faults_now turns s all =
    let asked = s.asked in
    let most = mul-le-mul_right (most_asked before.plan) s.goes.within in
    record {
      goes = s.goes;
      reads = record { read = s.goes.read; asked = omega (arith, most, asked) };
      done = s.turned ∙ all;
      read_cause = λ e. cc;
      says = λ load number e. cc;
      spool_cause = record { count = s.count; failed = λ e. cc };
    }

-- ---- the look for a cell that is Over

module _ (before now : SlabRunOf) (rows rows_now : List Row) (store store_now : Option (List ℕ)) (faults faults_now : ℕ) where
  pub stopped_by_slabs : (refusal : RunFail) → ¬ ((number : ℕ) × (refusal ≡ run.Overflow number))
      → FoldsThrough before now rows rows_now store store_now faults faults_now (Err refusal)
      → CompletesSlabs before now rows rows_now store store_now faults faults_now (Err refusal)
  stopped_by_slabs refusal other through = record {
    through = through;
    numbers = tt;
    overflow = λ number e. absurd (other (number, cc));
  }

  pub finished_by_slabs : FoldsThrough before now rows rows_now store store_now faults faults_now (Ok tt)
      → CompletesSlabs before now rows rows_now store store_now faults faults_now (overflow_of now.over)
  finished_by_slabs through = by now.over refl
    where
      by : (over : Option ℕ) → now.over ≡ over → CompletesSlabs before now rows rows_now store store_now faults faults_now (overflow_of over)
      by None e = record { through = through; numbers = e; overflow = λ number is. cc }
      by (Some found) e = record {
        through = record {
          goes = through.goes;
          reads = through.reads;
          done = tt;
          read_cause = λ is. cc;
          says = λ load number is. cc;
          spool_cause = record { count = through.spool_cause.count; failed = λ is. cc };
        };
        numbers = tt;
        overflow = λ number is. (through.done, e ∙ ap Some (found_is number is));
      }
        where
          found_is : (number : ℕ) → IsErrOf {T = Unit {0}} (Err (run.Overflow found)) (run.Overflow number) → found ≡ number
          found_is number is = cc
