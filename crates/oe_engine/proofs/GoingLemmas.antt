-- Runs that are under way, and two of them in one store.
use Rattle.std.proofs.Common.{◌≡◌, ℕ, ◌+◌, ◌-◌, ◌*◌, ◌<◌, ◌≤◌, min, List, Option, None, Result, Ok, Err, refl, sym, ap, ◌∙◌, subst, arith}
use Rattle.oe_cell.specs.Record.{record_of}
use Rattle.oe_cell.proofs.RecordLemmas.{length-record_of}
use Rattle.oe_dims.specs.Cube.{Cube}
use Rattle.oe_cell.specs.declared.cell.Cell.{Cell}
use Rattle.oe_dims.specs.Dimensions.{Dimensions}
use Rattle.oe_dims.specs.Positions.{IsPosition, Position, number_of}
use Rattle.oe_dims.proofs.CubeLemmas.{number_below}
use Rattle.oe_plan.specs.Plans.{IsPlan, PlanOf}
use Rattle.oe_meanings.specs.Graphs.{Collections}
use Rattle.oe_check.specs.Laws.{AreCollectionsOf}
use Rattle.oe_sources.specs.Catalogue.{Row}
use Rattle.oe_sources.specs.CatalogueDims.{dims_of}
use Rattle.oe_spool.specs.Spooled.{IsInSome, IsRecordByte, record_offset}
use Rattle.oe_spool.proofs.KeptLemmas.{bytes_kept, change_of_more, kept_then, records_kept, store_piece_kept}
use Rattle.oe_spool.proofs.ChunkLists.{chunks_inside}
use Rattle.oe_steps.specs.Collections.{AreRead, HasCollections, Shows}
use Rattle.oe_engine.specs.Going.{ChangesOwnRecords, IsGoing, RunsGoOn, RunsStayApart, StandsBehind}
use Rattle.oe_engine.specs.Laws.{GivesCollections}
use Rattle.oe_engine.specs.Rounds.{Advances, ReadsChunks, WritesChunks}
use Rattle.oe_engine.specs.Runs.{HasDone, HasRunRecords, RunOf, chunk_total, chunks_from, chunks_in_round, result_cube, result_shape}
use Rattle.oe_engine.specs.declared.run.Progress.{Progress}
use Rattle.oe_steps.specs.declared.fail.RunFail.{RunFail}
use Rattle.oe_engine.proofs.LawLemmas.{begin_and_end}
use Rattle.oe_engine.proofs.ReadLemmas.{dims_same, given_same}
use Rattle.oe_steps.proofs.ReadLemmas.{has_same, shows_same}
use Rattle.oe_engine.proofs.RenderLemmas.{result_shape_is}
use Rattle.oe_engine.proofs.GridLemmas.{has_sides}

-- ---- records behind those of a run

-- the bytes of a record of a run lie before all records that begin behind its own
behind : (r other : RunOf) → StandsBehind r other → (d : Dimensions) → d ≡ result_shape r.plan → (q : Position) → IsPosition (result_shape r.plan) q
    → (k : ℕ) → k < record_offset r.base (number_of d q) + 17
    → ¬ IsRecordByte other.base (result_shape other.plan) (IsPosition (result_shape other.plan)) k
behind r other apart d same q inside k high touched =
    let below = number_below (result_shape r.plan) q inside in
    let numbered : number_of d q ≡ number_of (result_shape r.plan) q = ap (λ (e : Dimensions). number_of e q) same in
    let begun = touched.begun in
    omega (arith, below, numbered, begun, apart, high)

module _ (r other : RunOf) (is : IsPlan r.plan) (apart : StandsBehind r other) (store store_after : Option (List ℕ))
    (changes : ChangesOwnRecords other store store_after) where
  pub records_apart : HasRunRecords r store → HasRunRecords r store_after
  records_apart records q h =
      let some = records q h in
      record {
        cell = some.cell;
        valid = some.valid;
        held = store_piece_kept (IsRecordByte other.base (result_shape other.plan) (IsPosition (result_shape other.plan))) store store_after
            (record_offset r.base (number_of (result_shape r.plan) q)) (record_of some.cell) changes
            (λ k low high. behind r other apart (result_shape r.plan) refl q (chunks_inside (result_shape r.plan) r.plan.size (has_sides r.plan is) 0 r.done q h) k (omega (arith, length-record_of some.cell)))
            some.held;
        numbered = some.numbered;
      }

  pub cube_apart : (cube : Cube Cell) → cube.shape ≡ result_shape r.plan → HasDone r store cube → HasDone r store_after cube
  cube_apart cube of_shape done = record {
    records = records_kept (IsRecordByte other.base (result_shape other.plan) (IsPosition (result_shape other.plan))) store store_after r.base cube
        (IsInSome (chunks_from r.plan 0 r.done))
        (λ k byte. behind r other apart cube.shape of_shape byte.p (chunks_inside (result_shape r.plan) r.plan.size (has_sides r.plan is) 0 r.done byte.p byte.inside) k byte.before) changes done.records;
    valid = done.valid;
    least = done.least;
  }

  pub done_apart : (collections : Collections) → AreCollectionsOf r.plan.graph collections → HasDone r store (result_cube collections r.plan)
      → HasDone r store_after (result_cube collections r.plan)
  done_apart collections has done =
      cube_apart (result_cube collections r.plan) (result_shape_is r.plan is collections has) done

going_apart : (r other : RunOf) → StandsBehind r other → (rows rows_after : List Row) → AreRead rows rows_after
    → (store store_after : Option (List ℕ)) → ChangesOwnRecords other store store_after → IsGoing r rows store → IsGoing r rows_after store_after
going_apart r other apart rows rows_after read store store_after changes going = record {
  planned = going.planned;
  within = going.within;
  rows_are = going.rows_are ∙ sym (dims_same rows rows_after read.same);
  given = given_same rows rows_after read.same going.given;
  mounted = has_same rows rows_after read.same r.plan.graph going.mounted;
  records = records_apart r other going.planned apart store store_after changes going.records;
  values = λ collections has shows.
      done_apart r other going.planned apart store store_after changes collections has
      (going.values collections has (shows_same r.plan.graph rows_after rows (sym read.same) collections shows));
}

round_changes : (before after : RunOf) (rows : List Row) (store store_after : Option (List ℕ)) → IsPlan before.plan
    → WritesChunks before rows store after store_after → ChangesOwnRecords before store store_after
round_changes before after rows store store_after is writes =
    change_of_more before.base (result_shape before.plan) (IsInSome (chunks_from before.plan before.done (chunks_in_round before)))
    (IsPosition (result_shape before.plan)) store store_after (chunks_inside (result_shape before.plan) before.plan.size (has_sides before.plan is) before.done (chunks_in_round before)) writes.changes

pub runs_stay_apart : RunsStayApart
runs_stay_apart = record {
  records = records_apart;
  done = done_apart;
  going = going_apart;
  round = round_changes;
  none = λ r store. bytes_kept (IsRecordByte r.base (result_shape r.plan) (IsPosition (result_shape r.plan))) store;
  both = λ r first second third. kept_then (IsRecordByte r.base (result_shape r.plan) (IsPosition (result_shape r.plan))) first second third;
}

-- ---- rounds

-- no more chunks are done than there are
module _ (before after : RunOf) (within : before.done ≤ chunk_total before.plan) where
  done_within : (result : Result Progress RunFail) → Advances before after result → after.done ≤ chunk_total before.plan
  done_within (Ok progress) advances =
      let done = advances.done in
      let taken : chunks_in_round before ≡ min (2 * before.plan.workers) (chunk_total before.plan - before.done) = refl in
      omega (arith, done, taken, within)
  done_within (Err refusal) advances =
      let done : after.done ≡ before.done = advances.stands.0 in
      omega (arith, done, within)

round_goes : (before after : RunOf) (rows rows_after : List Row) (store store_after : Option (List ℕ)) (result : Result Progress RunFail)
    → IsGoing before rows store → Advances before after result → WritesChunks before rows store after store_after → ReadsChunks before rows rows_after
    → IsGoing after rows_after store_after
round_goes before after rows rows_after store store_after result going advances writes reads =
    let same = advances.plan in
    let read = reads.read in
    record {
      planned = subst IsPlan (sym same) going.planned;
      within = subst (λ (p : PlanOf). after.done ≤ chunk_total p) (sym same) (done_within before after going.within result advances);
      rows_are = ap (λ (p : PlanOf). p.graph.rows) same ∙ (going.rows_are ∙ sym (dims_same rows rows_after read.same));
      given = given_same rows rows_after read.same going.given;
      mounted = subst (λ (p : PlanOf). HasCollections p.graph rows_after) (sym same) (has_same rows rows_after read.same before.plan.graph going.mounted);
      records = writes.records going.records;
      values = subst
          (λ (p : PlanOf). (collections : Collections) → AreCollectionsOf p.graph collections → Shows p.graph rows_after collections
          → HasDone after store_after (result_cube collections p)) (sym same)
          (λ collections has shows.
          (let seen = shows_same before.plan.graph rows_after rows (sym read.same) collections shows in
          writes.values collections has seen (going.values collections has seen)));
    }

begun_goes : (r : RunOf) (rows : List Row) (store : Option (List ℕ)) → IsPlan r.plan → r.done ≡ 0 → r.over ≡ None → r.plan.graph.rows ≡ dims_of rows
    → GivesCollections rows → HasCollections r.plan.graph rows → IsGoing r rows store
begun_goes r rows store is none_done none_over rows_are given mounted =
    let start = begin_and_end.begun r none_done none_over store in
    record {
      planned = is;
      within = omega (arith, none_done);
      rows_are = rows_are;
      given = given;
      mounted = mounted;
      records = start.0;
      values = λ collections has shows. start.1 (result_cube collections r.plan);
    }

pub runs_go_on : RunsGoOn
runs_go_on = record { begun = begun_goes; round = round_goes }
