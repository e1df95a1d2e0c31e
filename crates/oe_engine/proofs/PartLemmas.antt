-- A run as the part of itself that has all chunks.
use Rattle.std.proofs.Common.{◌≡◌, ◌↔◌, ℕ, ◌+◌, ◌-◌, ◌*◌, ◌≤◌, min, List, Option, Result, OnOk, OnErr, IfOk, sym, ap, ◌∙◌, subst, arith}
use Rattle.oe_cell.specs.Cells.{IsCell}
use Rattle.oe_cell.specs.declared.cell.Cell.{Cell}
use Rattle.oe_cell.specs.declared.cell.Cell.TheVariants.{Empty}
use Rattle.oe_dims.specs.Cube.{Cube}
use Rattle.oe_dims.specs.Positions.{Position}
use Rattle.oe_plan.specs.Figures.{largest_window}
use Rattle.oe_sources.specs.Catalogue.{Row, cells_asked}
use Rattle.oe_spool.specs.Least.{IsLeastOver}
use Rattle.oe_spool.specs.Spooled.{ChangesOnly, HoldsRecords, IsInSome}
use Rattle.oe_window.specs.Cells.{cell_at}
use Rattle.oe_window.specs.declared.window.Window.{Window}
use Rattle.oe_engine.specs.Parts.{AdvancesPart, HasPartCauses, HasPartDone, HasPartRecords, IsWhole, ReadsPart, WritesPart, chunks_done, chunks_next, in_round, run_of}
use Rattle.oe_engine.specs.Rounds.{Advances, HasCauses, ReadsChunks, WritesChunks}
use Rattle.oe_engine.specs.Runs.{HasDone, HasRunRecords, PartRunOf, chunk_total, chunks_from, chunks_in_round, evaluated_after, load_count, result_shape}
use Rattle.oe_engine.specs.declared.run.Progress.{Progress}
use Rattle.oe_engine.specs.declared.run.Progress.TheVariants.{Complete}
use Rattle.oe_steps.specs.declared.fail.RunFail.{RunFail}

-- ---- what is done of it

module _ (r : PartRunOf) (whole : IsWhole r) where
  same_chunks : chunks_done r ≡ chunks_from r.plan 0 r.done
  same_chunks = ap (λ n. chunks_from r.plan n r.done) whole.first

  pub run_done : (store : Option (List ℕ)) (cube : Cube Cell) → HasPartDone r store cube → HasDone (run_of r) store cube
  run_done store cube h = record {
    records = subst (λ (ws : List Window). HoldsRecords store r.base cube (IsInSome ws)) same_chunks h.records;
    valid = subst (λ (ws : List Window). (q : Position) → IsInSome ws q → IsCell (cell_at Empty cube q)) same_chunks h.valid;
    least = subst (λ (ws : List Window). IsLeastOver cube (IsInSome ws) r.over) same_chunks h.least;
  }

  pub part_done : (store : Option (List ℕ)) (cube : Cube Cell) → HasDone (run_of r) store cube → HasPartDone r store cube
  part_done store cube h = record {
    records = subst (λ (ws : List Window). HoldsRecords store r.base cube (IsInSome ws)) (sym same_chunks) h.records;
    valid = subst (λ (ws : List Window). (q : Position) → IsInSome ws q → IsCell (cell_at Empty cube q)) (sym same_chunks) h.valid;
    least = subst (λ (ws : List Window). IsLeastOver cube (IsInSome ws) r.over) (sym same_chunks) h.least;
  }

  pub run_recorded : (store : Option (List ℕ)) → HasPartRecords r store → HasRunRecords (run_of r) store
  run_recorded store records q h = records q (subst (λ (ws : List Window). IsInSome ws q) (sym same_chunks) h)

  pub part_recorded : (store : Option (List ℕ)) → HasRunRecords (run_of r) store → HasPartRecords r store
  part_recorded store records q h = records q (subst (λ (ws : List Window). IsInSome ws q) same_chunks h)

  -- ---- a round of it

  pub same_round : in_round r ≡ chunks_in_round (run_of r)
  same_round = ap (λ n. min (2 * r.plan.workers) (n - r.done)) whole.count

  same_next : chunks_next r ≡ chunks_from r.plan r.done (chunks_in_round (run_of r))
  same_next =
      let first = whole.first in
      let from : r.first + r.done ≡ r.done = omega (arith, first) in
      ap (λ n. chunks_from r.plan n (in_round r)) from ∙ ap (chunks_from r.plan r.done) same_round

  module _ (after : PartRunOf) where
    pub run_advances : (result : Result Progress RunFail) → AdvancesPart r after result → Advances (run_of r) (run_of after) result
    run_advances result h = record {
      plan = h.plan;
      base = h.base;
      done = subst (λ (n : ℕ). OnOk result (after.done ≡ r.done + n)) same_round h.done;
      evaluated = subst (λ (n : ℕ). OnOk result (after.evaluations ≡ evaluated_after r.evaluations n)) same_round h.evaluated;
      complete = subst (λ (n : ℕ). IfOk result (λ progress. (progress ≡ Complete) ↔ (after.done ≡ n))) whole.count h.complete;
      stands = h.stands;
      unevaluated = h.unevaluated;
      most = subst (λ (n : ℕ). OnErr result (after.evaluations ≤ evaluated_after r.evaluations n)) same_round h.most;
      least = h.least;
    }

    pub still_whole : (result : Result Progress RunFail) → AdvancesPart r after result → IsWhole after
    still_whole result h = record {
      first = h.first ∙ whole.first;
      count = h.count ∙ whole.count ∙ ap chunk_total (sym h.plan);
    }

  pub run_reads : (rows after : List Row) → ReadsPart r rows after → ReadsChunks (run_of r) rows after
  run_reads rows after h = record {
    read = h.read;
    asked = subst (λ (n : ℕ). cells_asked after ≤ cells_asked rows + n * (load_count r.plan * largest_window r.plan.graph r.plan.size))
        same_round h.asked;
  }

pub run_writes : (before after : PartRunOf) → IsWhole before → IsWhole after → (rows : List Row) (store store_after : Option (List ℕ))
    → WritesPart before rows store after store_after → WritesChunks (run_of before) rows store (run_of after) store_after
run_writes before after whole whole_after rows store store_after h = record {
  records = λ records. run_recorded after whole_after store_after (h.records (part_recorded before whole store records));
  values = λ collections has shows done.
      run_done after whole_after store_after _ (h.values collections has shows (part_done before whole store _ done));
  changes = subst (λ (ws : List Window). ChangesOnly before.base (result_shape before.plan) (IsInSome ws) store store_after)
      (same_next before whole) h.changes;
}

pub run_causes : (before : PartRunOf) (rows after : List Row) (faults faults_after : ℕ) (result : Result Progress RunFail)
    → HasPartCauses before rows after faults faults_after result → HasCauses (run_of before) rows after faults faults_after result
run_causes before rows after faults faults_after result h = record {
  read_cause = h.read_cause;
  says = h.says;
  spool_cause = h.spool_cause;
}
